-- A run of indices through the tables is the run of plain colours, which go through gamma.
use Rattle.std.proofs.Common.{rules, ◌≡◌, length}
use Rattle.line_pixels.specs.Inner.{indexed_colour, by_tables}
use Rattle.line_pixels.specs.SamplePlace.{sample_place}
use Rattle.line_pixels.proofs.GammaTables.{tables_correct}
use Rattle.line_pixels.proofs.WholeRuns.{run_indexed}
use Rattle.line_pixels.proofs.Rows.{said_says}
use Rattle.line_pixels.proofs.source.Source.fill_corrected.Goals as goal

pub returns : goal.returns
returns c =
    let s = c.args.self.now in
    let tables = c.of-tables.result in
    run_indexed s.store.now s.normal.now (said_says s.screen.depth s.entry c.requires.0.said) s.bytes c.args.x (length c.args.out.now) c.args.out.now c.requires.1
    (by_tables tables.red tables.green tables.blue)
    (λ overlay word. rw c.requires.2 (tables_correct c.of-tables.ensures s.normal.now overlay word))
    (c.fill_held.ensures (λ i. by_tables tables.red tables.green tables.blue (indexed_colour s.store.now s.normal.now (sample_place s 2 c.args.x i)))
    (λ i answer below post.
    let is : answer ≡ by_tables tables.red tables.green tables.blue (indexed_colour s.store.now s.normal.now (sample_place s 2 c.args.x i)) = search rules in
    is))
    s.overlay.now
