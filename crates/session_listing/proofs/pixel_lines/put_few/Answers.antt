-- A turn puts one pixel more. Assumes nothing.
use native.Mathlib.Omega.{arith}
use Rattle.session_listing.specs.Digits.{hex}
use Rattle.session_listing.proofs.Puts.{put_as, put_then}
use Rattle.session_listing.proofs.Pixels.{pixels_more}
use Rattle.session_listing.proofs.pixel_lines.put_few.Goals as goal

-- the pixel stands behind those before it
pub loop-colour-preserved : goal.loop-colour-preserved
unfolding hex
loop-colour-preserved c =
    let loop = c.loop-colour in
    let put = c.put_pixel-next.ensures in
    (omega (arith, put.after), put_as (put_then loop.invariant.1 put) (pixels_more c.args.colours.now loop.colour-index (omega arith)))
