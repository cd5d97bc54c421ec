-- What C is answered, in plain numbers: by the bits of an entry, and by where p is between on and off. Assumes nothing.
use Prim.Native.Nat.{ℕ, ◌%◌, ◌^◌, ◌≤◌, ◌<◌}
use mathlib.Core.Path.{◌≡◌, refl, sym, ap, ◌∙◌}
use mathlib.Core.Bool.{Bool, true, false, cond, ◌&&◌, ◌||◌, and-false}
use native.Mathlib.Omega.{arith}
use borrow.Author.Tests.{lt-ltb, le-ltb, le-leb, lt-leb}
use lib.Dec.{ltb, leb}
use mathlib.Core.Logic.{◌⊎◌, inl, inr}
use Rattle.c_numbers.specs.Numbers.{yes_no}
use Rattle.chip_timing.specs.Window.{in_window}
use Rattle.line_colour.specs.Entry.{decoded, is_defined}
use Rattle.line_colour.proofs.Kept.{decoded_kept}
use Rattle.line_colour.proofs.EntryBits.{DefinedBits, bits_defined, defined_bits}
use Rattle.c_questions.specs.Questions.{entry_defined, signal_holds}

-- 1 is the number of yes alone
yes_by : (test : Bool) → yes_no test ≡ 1 → test ≡ true
yes_by true e = refl
yes_by false e = absurd (omega (arith, e))

module _ (entry depth : ℕ) where
  -- an entry with the bits of a defined one is answered 1
  pub asked_1 : DefinedBits entry depth → entry_defined entry depth ≡ 1
  unfolding entry_defined
  asked_1 bits = ap (λ what. yes_no (is_defined what)) (decoded_kept entry depth) ∙ ap yes_no (bits_defined entry depth bits)

  -- and no other is
  pub answered_1 : entry_defined entry depth ≡ 1 → DefinedBits entry depth
  unfolding entry_defined
  answered_1 e = defined_bits entry depth (sym (ap is_defined (decoded_kept entry depth)) ∙ yes_by (is_defined (decoded (entry % 2 ^ 13) depth)) e)

module _ (on off p : ℕ) where
  -- from on up to off
  pub between_1 : on ≤ p → p < off → signal_holds on off p ≡ 1
  unfolding signal_holds in_window
  between_1 from before = rw (lt-ltb on off (omega arith), le-leb on p from, lt-ltb p off before)

  -- over the end: from on upwards
  pub from_on_1 : off < on → on ≤ p → signal_holds on off p ≡ 1
  unfolding signal_holds in_window
  from_on_1 wraps from = rw (le-ltb on off (omega arith), lt-ltb off on wraps, le-leb on p from)

  -- over the end: below off
  pub below_off_1 : off < on → p < off → signal_holds on off p ≡ 1
  unfolding signal_holds in_window
  below_off_1 wraps before = rw (le-ltb on off (omega arith), lt-ltb off on wraps, lt-ltb p off before, lt-leb on p (omega arith))

  -- before on, or from off on, where on is not above off
  pub outside_0 : on ≤ off → (p < on) ⊎ (off ≤ p) → signal_holds on off p ≡ 0
  unfolding signal_holds in_window
  outside_0 rises (inl before) = by (ltb on off)
    where
      -- by whether there is a window at all
      by : (test : Bool) → yes_no (cond test (leb on p && ltb p off) (cond (ltb off on) (leb on p || ltb p off) false)) ≡ 0
      by true = rw (lt-leb on p before)
      by false = rw (le-ltb off on rises)
  outside_0 rises (inr past) = by (ltb on off)
    where
      -- by whether there is a window at all
      by : (test : Bool) → yes_no (cond test (leb on p && ltb p off) (cond (ltb off on) (leb on p || ltb p off) false)) ≡ 0
      by true = rw (le-ltb p off past) (ap yes_no (and-false (leb on p)))
      by false = rw (le-ltb off on rises)

  -- from off up to on, where on is above off
  pub between_0 : off ≤ p → p < on → signal_holds on off p ≡ 0
  unfolding signal_holds in_window
  between_0 from before = rw (le-ltb on off (omega arith), lt-ltb off on (omega arith), lt-leb on p before, le-ltb p off from)
