-- The letters, over a part of the lent bytes. Assumes nothing.
use mathlib.Core.Path.{ap, ◌∙◌}
use mathlib.Core.List.{List}
use Prim.Native.Nat.{ℕ}
use native.Mathlib.Omega.{arith}
use lib.ListN.{length}
use Rattle.session_listing.proofs.Puts.{put_part}
use Rattle.session_listing.proofs.FirstLine.{letters_few}
use Rattle.session_listing.proofs.put.put_word.Goals as goal

-- the letters are put
pub returns : goal.returns
returns c =
    let is = c.letters-letters.ensures in
    let few = letters_few c.args.word in
    let long = ap (λ (letters : List ℕ). length letters) is in
    (put_part (c.copy_from_slice.ensures.after ∙ is) (omega arith) (omega arith) (omega arith), omega arith)
