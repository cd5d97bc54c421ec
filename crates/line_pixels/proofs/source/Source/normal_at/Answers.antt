-- The entry that a sample shows is in the map; what it shows is what the pixel's sample shows.
use Rattle.std.proofs.Common.{sym, ap, ◌∙◌}
use Rattle.line_colour.specs.Shown.{shown_of}
use Rattle.line_colour.proofs.Defined.{map_entry_below}
use Rattle.line_pixels.specs.Source.{view_of}
use Rattle.line_pixels.proofs.Rows.{said_says}
use Rattle.line_pixels.proofs.LayersCases.{normal_of_map, normal_of_colour}
use Rattle.line_pixels.proofs.source.Source.normal_at.Goals as goal

pub mapped-requires : goal.mapped-requires
mapped-requires c =
    let s = c.args.self.now in
    map_entry_below s.screen.depth s.entry c.sample_at.result (said_says s.screen.depth s.entry c.requires.said) (sym c.in-MapEntry.ensures)

pub returns-in-MapEntry : goal.returns-in-MapEntry
returns-in-MapEntry c =
    let s = c.args.self.now in
    normal_of_map (view_of s) s.screen.depth s.entry c.args.x (ap (shown_of s.entry) (sym c.sample_at.ensures.0) ∙ sym c.in-MapEntry.ensures) c.mapped.ensures

pub returns-in-Colour : goal.returns-in-Colour
returns-in-Colour c =
    let s = c.args.self.now in
    normal_of_colour (view_of s) s.screen.depth s.entry c.args.x (ap (shown_of s.entry) (sym c.sample_at.ensures.0) ∙ sym c.in-Colour.ensures) c.from.ensures.0
