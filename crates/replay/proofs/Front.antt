-- Bytes moved to the front. Assumes nothing.
use Prim.Native.Nat.{ℕ, ◌-◌, ◌≤◌, ◌<◌, min}
use mathlib.Core.Path.{◌≡◌, sym, ap₂}
use mathlib.Core.Logic.{⊎_elim}
use mathlib.Core.List.{List, []}
use native.Mathlib.Omega.{arith}
use native.Mathlib.Nat.{zero-add}
use lib.ListN.{length, take, length-take, drop_of_length-le}
use lib.Seq.{slice, length-slice}
use Rattle.std.specs.List.{copy_within}
use Rattle.std.proofs.lemmas.Slice.{between_is}
use Rattle.rules.proofs.Cases.{le_or_lt}
use Rattle.replay.specs.Run.{to_front}

module _ (input : List ℕ) (to : ℕ) (inside : to ≤ length input) where
  -- bytes copied from a place up to an end are at the front
  copied : (start : ℕ) → (to - start, copy_within input start to 0) ≡ to_front input (slice start to input)
  copied start =
      let many = length-slice start to input inside in
      ap₂ (λ (count : ℕ) (after : List ℕ). (count, after)) (sym many) (rw (many, zero-add (to - start), between_is input start to))

  -- past the end there are none
  none : (from : ℕ) → to ≤ from → slice from to input ≡ []
  none from past = drop_of_length-le (take to input) {i = from} (rw length-take (omega arith))

  -- and none are copied where the place is past the end
  pub moved : (from : ℕ) {start : ℕ} {after : List ℕ} → start ≡ min from to → after ≡ copy_within input start to 0
      → (to - start, after) ≡ to_front input (slice from to input)
  moved from {start} is after_is =
      ⊎_elim
      (λ (before : from ≤ to). let same : start ≡ from = omega arith in rw (after_is, same) (copied from))
      (λ (past : to < from). let same : start ≡ to = omega arith in rw (after_is, same, none from (omega arith)) (rw (none to (omega arith)) at (copied to)))
      (le_or_lt from to)
