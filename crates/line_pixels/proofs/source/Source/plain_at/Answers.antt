use Rattle.line_pixels.specs.Source.{view_of}
use Rattle.line_pixels.proofs.LayersCases.{plain_of_normal}
use Rattle.line_pixels.proofs.source.Source.plain_at.Goals as goal

pub returns : goal.returns
returns c =
    let s = c.args.self.now in
    plain_of_normal (view_of s) s.screen.depth s.entry c.args.x c.normal_at.ensures (c.through_gamma.ensures s.normal.now s.overlay.now)
