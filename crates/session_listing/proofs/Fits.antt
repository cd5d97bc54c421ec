-- The room granted is enough, and lent bytes stay as many. Assumes nothing.
use Prim.Native.Nat.{ℕ, ◌+◌, ◌^◌, ◌≤◌, ◌<◌}
use mathlib.Core.Path.{◌≡◌, sym, subst}
use mathlib.Core.List.{List, [], ◌∷◌, ◌++◌}
use native.Mathlib.Omega.{arith}
use lib.ListN.{length, length-append, length-drop, length-take}
use lib.Seq.{length-take-le}
use Rattle.rules.specs.Faults.{place_in}
use Rattle.session_listing.specs.Text.{ascii, EntrySays, says_ok, says_at, says_line, says_refused, spaced, first_line, colours_shown, text}
use Rattle.session_listing.specs.Room.{room_for, placed, Small}
use Rattle.session_listing.proofs.Decimal.{decimal_at_most_10}
use Rattle.session_listing.proofs.Pixels.{length_pixels}

-- two numbers take at most 22 bytes
two_short : (first second : ℕ) → first < 2 ^ 32 → second < 2 ^ 32 → length (spaced (first ∷ second ∷ [])) ≤ 22
two_short first second small small' = simp length-append (omega (arith, decimal_at_most_10 first small, decimal_at_most_10 second small'))

-- a first line has at most 31 bytes before its end
words_short : (listed : EntrySays) → Small listed → length (first_line listed) ≤ 31
words_short says_ok small = omega arith
words_short (says_at x y) small = omega (arith, two_short x y small.0 small.1)
words_short (says_line y width) small = simp length-append (omega (arith, decimal_at_most_10 y small))
words_short (says_refused refusal) small =
    subst (λ (values : List ℕ). length (ascii "refused" ++ spaced (refusal.number ∷ values)) ≤ 31) (sym small.2)
    (omega (arith, two_short refusal.number (place_in refusal) small.0 small.1))

-- an entry shows no more colours than the output has
pub shown_short : (entry : EntrySays) (output : List ℕ) → length (colours_shown entry output) ≤ length output
shown_short says_ok output = omega arith
shown_short (says_at x y) output = omega arith
shown_short (says_line y width) output = omega (arith, length-take width output)
shown_short (says_refused refusal) output = omega arith

-- an entry's text fits the room that it is granted
pub text_fits : (listed : EntrySays) (output : List ℕ) → Small listed → length (text listed output) ≤ room_for listed output
unfolding text
text_fits listed output small = simp (length-append, length_pixels) (omega (arith, words_short listed small))

-- bytes put within lent ones leave these as many
pub placed_length : (lent : List ℕ) (place : ℕ) (bytes : List ℕ) → place + length bytes ≤ length lent → length (placed lent place bytes) ≡ length lent
placed_length lent place bytes fits = simp (length-append, length-drop) (omega (arith, length-take-le place lent (omega arith)))
