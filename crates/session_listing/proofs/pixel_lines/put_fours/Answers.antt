-- A turn puts four pixels more. Assumes nothing.
use native.Mathlib.Omega.{arith}
use Rattle.session_listing.proofs.Ahead.{ahead_as, ahead_then}
use Rattle.session_listing.proofs.Pixels.{fours_more}
use Rattle.session_listing.proofs.pixel_lines.put_fours.Goals as goal

-- the four pixels stand behind those before them
pub loop-four-preserved : goal.loop-four-preserved
loop-four-preserved c =
    let loop = c.loop-four in
    (omega arith, ahead_as (ahead_then loop.invariant.1 c.put_four-next.ensures.0) (fours_more c.args.fours.now loop.four-index (omega arith)))
