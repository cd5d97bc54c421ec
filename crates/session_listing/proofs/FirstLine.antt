-- The parts of a first line. Assumes nothing.
use Prim.Native.Nat.{ℕ, ◌≤◌}
use mathlib.Core.Path.{◌≡◌}
use mathlib.Core.List.{[], ◌∷◌, ◌++◌, append-nil}
use native.Mathlib.Omega.{arith}
use lib.ListN.{length}
use Rattle.session_listing.specs.Digits.{decimal}
use Rattle.session_listing.specs.Text.{spaced}
use Rattle.session_listing.specs.Inner.{letters_of}
use Rattle.session_listing.specs.declared.parts.Word.{Word}
use Rattle.session_listing.specs.declared.parts.Word.TheVariants as word

-- a word has at most 7 letters
pub letters_few : (word : Word) → length (letters_of word) ≤ 7
letters_few word.Ok = omega arith
letters_few word.At = omega arith
letters_few word.Line = omega arith
letters_few word.Refused = omega arith

-- a space and a number is a list of one, spaced
pub one_spaced : (number : ℕ) → 32 ∷ decimal number ≡ spaced (number ∷ [])
one_spaced number = rw append-nil

-- a number behind another is a list of two, spaced
pub two_spaced : (first second : ℕ) → spaced (first ∷ []) ++ spaced (second ∷ []) ≡ spaced (first ∷ second ∷ [])
two_spaced first second = rw (append-nil (decimal first), append-nil (decimal second))
