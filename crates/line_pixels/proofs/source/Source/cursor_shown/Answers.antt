use Rattle.line_pixels.specs.Colour.{cursor_shown}
use Rattle.line_pixels.proofs.source.Source.cursor_shown.Goals as goal

pub returns : goal.returns
unfolding cursor_shown
returns c =
    cc (c.stored-colour.ensures, c.cursor_skips_gamma.ensures, c.through_gamma.ensures c.args.self.now.normal.now c.args.self.now.overlay.now)
