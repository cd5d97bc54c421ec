-- The colours that are looked up are those of the overlay bytes.
use Rattle.std.proofs.Common.{◌+◌, ◌∙◌, length, get_or}
use Rattle.rules.specs.Rule.{get}
use Rattle.rules.proofs.Change.{changed_same}
use Rattle.line_pixels.specs.Cells.{map_entry}
use Rattle.line_pixels.specs.Colour.{overlaid, overlay_colours}
use Rattle.line_pixels.specs.Source.{view_of}
use Rattle.line_pixels.proofs.Colours.{colours_corrected, overlay_by}
use Rattle.line_pixels.proofs.source.Source.lay_long.Goals as goal

pub returns : goal.returns
unfolding overlaid
returns c =
    let a = c.args in
    let s = a.self.now in
    c.lay_by.ensures.laid
    ∙ changed_same _ _
    (λ p under.
    overlay_by (view_of s) s.entry c.correct.new.words
    (λ k below.
    colours_corrected s.store.now s.entry.bypass (λ k. get (map_entry (overlay_colours + k))) c.map_colours.new.colours c.correct.new.words
    c.map_colours.array_long
    c.map_colours.ensures
    c.correct.ensures
    k below s.normal.now s.overlay.now)
    (get_or s.overlay.now p 0) under
    (c.lay_by.ensures.bytes p))
    a.x a.out.now (length a.out.now)
