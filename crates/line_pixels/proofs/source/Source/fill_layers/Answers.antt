use Rattle.line_pixels.specs.Colour.{under_cursor, colour_of_pixel}
use Rattle.line_pixels.specs.Inner.{cursor_or}
use Rattle.line_pixels.specs.Source.{view_of}
use Rattle.line_pixels.proofs.LayersCases.{cursor_laid}
use Rattle.line_pixels.proofs.Layering.{laid_over}
use Rattle.line_pixels.proofs.source.Source.fill_layers.Goals as goal

pub returns : goal.returns
returns c =
    let s = c.args.self.now in
    laid_over s (under_cursor s.screen s.entry) (colour_of_pixel s.screen s.entry) (cursor_or s.screen s.entry) c.args.x c.args.out.now
    c.fill_under_cursor.ensures c.lay_cursor.ensures
    (cursor_laid (view_of s) s.screen s.entry)
