-- Four pixels, one behind another. Assumes nothing.
use native.Mathlib.Omega.{arith}
use Rattle.session_listing.proofs.Ahead.{ahead_as, ahead_then}
use Rattle.session_listing.proofs.Pixels.{four_pixels}
use Rattle.session_listing.proofs.pixel_lines.put_four.Goals as goal

-- the pixels of the four colours
pub returns : goal.returns
returns c =
    let pixels = ahead_then (ahead_then (ahead_then c.put_ahead-second.ensures.0 c.put_ahead-third.ensures.0) c.put_ahead-fourth.ensures.0) c.put_ahead.ensures.0 in
    (ahead_as pixels (four_pixels c.args.colours.now (omega arith)), omega arith)
