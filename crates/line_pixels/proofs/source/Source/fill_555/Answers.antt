-- The sum of a pair and a blue is the plain colour of a pixel.
use Rattle.std.proofs.Common.{rules, ◌≡◌, refl, length, inr}
use Rattle.line_pixels.specs.Inner.{paired_555}
use Rattle.line_pixels.specs.SamplePlace.{sample_place}
use Rattle.line_pixels.proofs.PairedRuns.{zeros_fit}
use Rattle.line_pixels.proofs.WholeRuns.{run_paired_plain}
use Rattle.line_pixels.proofs.Rows.{said_says}
use Rattle.line_pixels.proofs.source.Source.fill_555.Goals as goal

pub invariant_of-words : goal.invariant_of-words
invariant_of-words c = record { fit = zeros_fit 32 1024 refl }

pub returns : goal.returns
returns c =
    let s = c.args.self.now in
    let words = c.make.new.self in
    run_paired_plain s.store.now s.normal.now (said_says s.screen.depth s.entry c.requires.0.said) s.bytes c.args.x (length c.args.out.now) c.args.out.now c.requires.1
    (inr (
      c.requires.2,
      c.make.ensures,
      c.fill_held.ensures (λ i. paired_555 words.pairs words.blues s.normal.now (sample_place s 2 c.args.x i))
          (λ i answer below post.
          let is : answer ≡ paired_555 words.pairs words.blues s.normal.now (sample_place s 2 c.args.x i) = search rules in
          is),
    ))
    s.overlay.now
