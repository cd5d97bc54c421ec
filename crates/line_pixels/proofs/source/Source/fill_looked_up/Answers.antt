-- The colours that are looked up are those of the samples, through gamma: the run is that of plain colours.
use Rattle.std.proofs.Common.{rules, ◌≡◌, length, get_or}
use mathlib.Core.Logic.{⊎_elim}
use Rattle.line_formats.specs.Table.{widths_of}
use Rattle.line_colour.specs.Shown.{shown_of}
use Rattle.line_pixels.specs.Colour.{shown_colour}
use Rattle.line_pixels.specs.SamplePlace.{sample_place}
use Rattle.line_pixels.proofs.Colours.{colours_corrected}
use Rattle.line_pixels.proofs.WholeRuns.{run_looked_up}
use Rattle.line_pixels.proofs.Rows.{said_says}
use Rattle.line_pixels.proofs.source.Source.fill_looked_up.Goals as goal

pub returns : goal.returns
returns c =
    let s = c.args.self.now in
    let colours = c.correct.new.words in
    let eight : (widths_of s.entry.format).bits ≡ 8 = ⊎_elim (λ is. rw is) (λ is. rw is) c.requires.1 in
    run_looked_up s.store.now s.normal.now (said_says s.screen.depth s.entry c.requires.0.said) s.bytes c.args.x (length c.args.out.now) c.args.out.now colours eight
    (colours_corrected s.store.now s.entry.bypass (λ k. shown_colour (shown_of s.entry k)) c.normal_colours.new.colours colours c.normal_colours.array_long c.normal_colours.ensures c.correct.ensures)
    (c.fill_held.ensures (λ i. get_or colours (get_or s.normal.now (sample_place s 1 c.args.x i) 0) 0)
    (λ i answer below post.
    let is : answer ≡ get_or colours (get_or s.normal.now (sample_place s 1 c.args.x i) 0) 0 = search rules in
    is))
    s.overlay.now
