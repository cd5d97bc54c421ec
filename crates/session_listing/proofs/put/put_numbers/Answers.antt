-- Two numbers stand one behind the other. Assumes nothing.
use native.Mathlib.Omega.{arith}
use Rattle.session_listing.proofs.Puts.{put_as, put_then}
use Rattle.session_listing.proofs.FirstLine.{two_spaced}
use Rattle.session_listing.proofs.put.put_numbers.Goals as goal

-- a number behind another
pub returns-in-Two : goal.returns-in-Two
returns-in-Two c =
    rw c.in-Two.is (put_as (put_then c.put_spaced-next.ensures.0 c.put_spaced-in-Two.ensures.0) (two_spaced c.in-Two.first c.in-Two.second), omega arith)
