-- A run of indices past gamma is the run of plain colours.
use Rattle.std.proofs.Common.{rules, ◌≡◌, length}
use Rattle.line_pixels.specs.Cells.{pixel_view}
use Rattle.line_pixels.specs.Inner.{indexed_colour}
use Rattle.line_pixels.specs.SamplePlace.{sample_place}
use Rattle.line_pixels.proofs.Gamma.{gamma_skipped}
use Rattle.line_pixels.proofs.WholeRuns.{run_indexed}
use Rattle.line_pixels.proofs.Rows.{said_says}
use Rattle.line_pixels.proofs.source.Source.fill_bypassed.Goals as goal

pub returns : goal.returns
returns c =
    let s = c.args.self.now in
    run_indexed s.store.now s.normal.now (said_says s.screen.depth s.entry c.requires.0.said) s.bytes c.args.x (length c.args.out.now) c.args.out.now c.requires.1
    (λ word. word)
    (λ overlay word. gamma_skipped (pixel_view s.store.now s.normal.now overlay) word c.requires.2)
    (c.fill_held.ensures (λ i. indexed_colour s.store.now s.normal.now (sample_place s 2 c.args.x i))
    (λ i answer below post.
    let is : answer ≡ indexed_colour s.store.now s.normal.now (sample_place s 2 c.args.x i) = search rules in
    is))
    s.overlay.now
