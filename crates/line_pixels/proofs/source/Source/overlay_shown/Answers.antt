use Rattle.line_pixels.specs.Colour.{overlaid}
use Rattle.line_pixels.proofs.source.Source.overlay_shown.Goals as goal

pub returns : goal.returns
unfolding overlaid
returns c = cc (c.mapped.ensures, c.through_gamma.ensures c.args.self.now.normal.now c.args.self.now.overlay.now)
