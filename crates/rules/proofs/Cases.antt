-- Distinctions that many proofs make. Assumes nothing.
use Prim.Native.Nat.{ℕ, ◌≤◌, ◌<◌}
use mathlib.Core.Path.{◌≡◌, refl}
use mathlib.Core.Bool.{Bool, true, false, ◌&&◌, ◌||◌}
use mathlib.Core.Logic.{◌⊎◌, inl, inr}
use native.Mathlib.Omega.{arith}
use borrow.Author.Tests.{leb-true, leb-false}
use lib.Dec.{leb}

-- from two constructors that are said to be one, anything: `cc` proves the equation that is asked
pub impossible : {A : Type 0} → ◌≡◌ {A = ℕ} 0 1 → A
impossible e = absurd (omega arith)

-- the test that compares two numbers tells which is the larger
by_test : (a b : ℕ) (test : Bool) → leb a b ≡ test → (a ≤ b) ⊎ (b < a)
by_test a b true e = inl (leb-true a b e)
by_test a b false e = inr (leb-false a b e)

-- of two numbers, which is the larger
pub le_or_lt : (a b : ℕ) → (a ≤ b) ⊎ (b < a)
le_or_lt a b = by_test a b (leb a b) refl

-- of two tests of which neither holds, each fails
pub neither : (a b : Bool) → a || b ≡ false → (a ≡ false) × (b ≡ false)
neither true b e = impossible cc
neither false b e = (refl, e)

-- of two tests that don't both hold, the second fails where the first holds
pub not_both : (a b : Bool) → a && b ≡ false → a ≡ true → b ≡ false
not_both true b e on = e
not_both false b e on = impossible cc
