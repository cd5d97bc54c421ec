-- The text of each entry, letter by letter in ASCII, with its numbers in their order. Assumes nothing.
use Prim.Native.Nat.{ℕ}
use mathlib.Core.List.{List, [], ◌∷◌, ◌++◌, append_assoc, append-nil}
use lib.ListN.{take}
use mathlib.Core.Path.{◌≡◌, refl, ap}
use Rattle.session_listing.specs.Digits.{decimal}
use Rattle.session_listing.specs.Text.{says_ok, says_at, says_line, says_refused, text, pixels}

-- two numbers' digits, a space before each, and the end of the line
two_ended : (a b : List ℕ) → (((32 ∷ a) ++ ((32 ∷ b) ++ [])) ++ (10 ∷ [])) ++ [] ≡ (32 ∷ a) ++ ((32 ∷ b) ++ (10 ∷ []))
two_ended a b = rw (append-nil (((32 ∷ a) ++ ((32 ∷ b) ++ [])) ++ (10 ∷ [])), append-nil b) (append_assoc (32 ∷ a) (32 ∷ b) (10 ∷ []))

module _ (output : List ℕ) where
  -- `ok`
  pub says_ok_letters : text says_ok output ≡ 111 ∷ 107 ∷ 10 ∷ []
  unfolding text
  says_ok_letters = refl

  -- `at`, x and then y
  pub says_at_letters : (x y : ℕ) → text (says_at x y) output ≡ 97 ∷ 116 ∷ 32 ∷ (decimal x ++ (32 ∷ (decimal y ++ (10 ∷ []))))
  unfolding text
  says_at_letters x y = ap (λ (rest : List ℕ). 97 ∷ 116 ∷ rest) (two_ended (decimal x) (decimal y))

  -- `refused`, the number and then the place
  pub says_refused_letters : (number place : ℕ) → text (says_refused (record { number = number; values = place ∷ [] })) output
      ≡ 114 ∷ 101 ∷ 102 ∷ 117 ∷ 115 ∷ 101 ∷ 100 ∷ 32 ∷ (decimal number ++ (32 ∷ (decimal place ++ (10 ∷ []))))
  unfolding text
  says_refused_letters number place = ap (λ (rest : List ℕ). 114 ∷ 101 ∷ 102 ∷ 117 ∷ 115 ∷ 101 ∷ 100 ∷ rest) (two_ended (decimal number) (decimal place))

  -- `line` and y, and then the pixels of its width
  pub says_line_letters : (y width : ℕ) → text (says_line y width) output ≡ 108 ∷ 105 ∷ 110 ∷ 101 ∷ 32 ∷ (decimal y ++ (10 ∷ pixels (take width output)))
  unfolding text
  says_line_letters y width = simp (append-nil, append_assoc)
