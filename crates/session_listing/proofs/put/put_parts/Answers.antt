-- The word, and the numbers behind it. Assumes nothing.
use native.Mathlib.Omega.{arith}
use Rattle.session_listing.proofs.Puts.{put_then}
use Rattle.session_listing.proofs.put.put_parts.Goals as goal

-- the numbers stand behind the word
pub returns : goal.returns
returns c = (put_then c.put_word-word.ensures.0 c.put_numbers.ensures.0, omega arith)
