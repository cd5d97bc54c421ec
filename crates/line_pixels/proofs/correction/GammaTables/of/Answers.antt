-- Each table has its channel of the gamma words.
use Rattle.std.proofs.Common.{rules}
use lib.ListN.{replicate}
use Rattle.line_pixels.specs.Inner.{gamma_red, gamma_green, gamma_blue}
use Rattle.line_pixels.proofs.GammaTables.{split_made, tables_fit}
use Rattle.line_pixels.proofs.correction.GammaTables.of.Goals as goal

pub invariant_of-result : goal.invariant_of-result
invariant_of-result c =
    let store = c.args.store.now in
    record {
      fit =
          tables_fit
          (split_made store (replicate 256 0) (replicate 256 0) (replicate 256 0)
          (c.fill.ensures (gamma_red store) (λ i answer below post. search rules))
          (c.fill-2.ensures (gamma_green store) (λ i answer below post. search rules))
          (c.fill-3.ensures (gamma_blue store) (λ i answer below post. search rules)));
    }

pub returns : goal.returns
returns c =
    let store = c.args.store.now in
    split_made store (replicate 256 0) (replicate 256 0) (replicate 256 0)
    (c.fill.ensures (gamma_red store) (λ i answer below post. search rules))
    (c.fill-2.ensures (gamma_green store) (λ i answer below post. search rules))
    (c.fill-3.ensures (gamma_blue store) (λ i answer below post. search rules))
