-- How many digits a number has in decimal. Assumes nothing.
use Prim.Native.Nat.{ℕ, zero, suc, ◌+◌, ◌/◌, ◌%◌, ◌^◌, ◌≤◌, ◌<◌}
use mathlib.Core.Path.{◌≡◌, ap, sym, ◌∙◌}
use mathlib.Core.Logic.{⊎_elim}
use mathlib.Core.List.{List, [], ◌∷◌, ◌++◌}
use native.Mathlib.Nat.{pow-suc, div-lt_iff_lt-mul}
use native.Mathlib.Omega.{arith}
use borrow.Author.Tests.{lt-ltb, le-ltb}
use lib.ListN.{length, length-append}
use Rattle.rules.proofs.Cases.{le_or_lt}
use Rattle.session_listing.specs.Digits.{digit, decimal_in, decimal}

-- below ten there is one digit
in_one : (count number : ℕ) → number < 10 → decimal_in (suc count) number ≡ digit number ∷ []
in_one count number small = rw (lt-ltb number 10 small)

-- from ten on the last digit stands behind the others
in_more : (count number : ℕ) → 10 ≤ number → decimal_in (suc count) number ≡ decimal_in count (number / 10) ++ digit (number % 10) ∷ []
in_more count number large = rw (le-ltb number 10 large)

-- a number below a power of ten is, without its last digit, below the power before
tenth_below : (count number : ℕ) → number < 10 ^ suc count → number / 10 < 10 ^ count
tenth_below count number below = (div-lt_iff_lt-mul {k = 10} (omega arith)).1 (rw pow-suc at below)

-- room for more digits than a number has makes no other text
in_same : (count other number : ℕ) → number < 10 ^ suc count → number < 10 ^ suc other → decimal_in (suc count) number ≡ decimal_in (suc other) number
in_same zero other number below below' = in_one zero number below ∙ sym (in_one other number below)
in_same (suc count) zero number below below' = in_one (suc count) number below' ∙ sym (in_one zero number below')
in_same (suc count) (suc other) number below below' =
    let tenth = in_same count other (number / 10) (tenth_below (suc count) number below) (tenth_below (suc other) number below') in
    ⊎_elim
    (λ large. in_more (suc count) number large ∙ ap (λ (others : List ℕ). others ++ digit (number % 10) ∷ []) tenth ∙ sym (in_more (suc other) number large))
    (λ small. in_one (suc count) number small ∙ sym (in_one (suc other) number small))
    (le_or_lt 10 number)

-- a number is below ten to its own power
below_power : (number : ℕ) → number < 10 ^ number
below_power zero = omega arith
below_power (suc number) = rw pow-suc (omega (arith, below_power number))

-- a number is below ten to the power after it
below_next : (number : ℕ) → number < 10 ^ suc number
below_next number = rw pow-suc (omega (arith, below_power number))

-- a number below a power of ten has at most so many digits, which are all there is of it
pub decimal_in_is : (count number : ℕ) → number < 10 ^ suc count → decimal_in (suc count) number ≡ decimal number
unfolding decimal
decimal_in_is count number below = in_same count number number below (below_next number)

-- below ten the number is its digit
pub decimal_one : (number : ℕ) → number < 10 → decimal number ≡ digit number ∷ []
unfolding decimal
decimal_one number small = in_one number number small

-- from ten on its last digit stands behind the number without it
pub decimal_more : (number : ℕ) → 10 ≤ number → decimal number ≡ decimal (number / 10) ++ digit (number % 10) ∷ []
unfolding decimal
decimal_more zero large = absurd (omega arith)
decimal_more (suc number) large =
    in_more (suc number) (suc number) large
    ∙ ap (λ (others : List ℕ). others ++ digit (suc number % 10) ∷ [])
    (decimal_in_is number (suc number / 10) (tenth_below (suc number) (suc number) (below_next (suc number))))

-- the last digit makes it one longer
pub decimal_longer : (number : ℕ) → 10 ≤ number → length (decimal number) ≡ length (decimal (number / 10)) + 1
decimal_longer number large = rw (decimal_more number large, length-append)

-- a number of at most so many digits has no more
in_at_most : (count number : ℕ) → length (decimal_in count number) ≤ count
in_at_most zero number = omega arith
in_at_most (suc count) number =
    ⊎_elim
    (λ large. rw (in_more count number large, length-append) (omega (arith, in_at_most count (number / 10))))
    (λ small. rw (in_one count number small) (omega arith))
    (le_or_lt 10 number)

-- a 32-bit number has at most ten digits
pub decimal_at_most_10 : (number : ℕ) → number < 2 ^ 32 → length (decimal number) ≤ 10
decimal_at_most_10 number below = rw (← decimal_in_is 9 number (omega arith)) (in_at_most 10 number)

-- every number has a digit
pub decimal_at_least_1 : (number : ℕ) → 1 ≤ length (decimal number)
decimal_at_least_1 number =
    ⊎_elim
    (λ large. rw (decimal_more number large, length-append) (omega arith))
    (λ small. rw (decimal_one number small) (omega arith))
    (le_or_lt 10 number)
