-- The ways in which bytes are judged. Assumes nothing.
use Prim.Native.Nat.{ℕ}
use mathlib.Core.Path.{◌≡◌, refl}
use mathlib.Core.Bool.{Bool, true, false}
use mathlib.Core.List.{List}
use Rattle.session_records.specs.Faults.{wrong, too_much, missing}
use Rattle.session_records.specs.declared.record.Context.{Context}

-- wrong; cut short, and the file goes on, or ends at a record that is too much or not; whole, and too much or not
pub data Judged (context : Context) (bytes : List ℕ) : Type 0 where
  faulty : wrong bytes ≡ true → Judged context bytes
  waiting : wrong bytes ≡ false → missing bytes ≡ true → context.last ≡ false → Judged context bytes
  cut_much : wrong bytes ≡ false → missing bytes ≡ true → context.last ≡ true → too_much context bytes ≡ true → Judged context bytes
  cut : wrong bytes ≡ false → missing bytes ≡ true → context.last ≡ true → too_much context bytes ≡ false → Judged context bytes
  much : wrong bytes ≡ false → missing bytes ≡ false → too_much context bytes ≡ true → Judged context bytes
  good : wrong bytes ≡ false → missing bytes ≡ false → too_much context bytes ≡ false → Judged context bytes

module _ (context : Context) (bytes : List ℕ) where
  -- by the outcome of each test
  by_faults : (is_wrong is_short is_much ends : Bool) → wrong bytes ≡ is_wrong → missing bytes ≡ is_short → too_much context bytes ≡ is_much
      → context.last ≡ ends → Judged context bytes
  by_faults true is_short is_much ends w s m e = faulty w
  by_faults false true is_much false w s m e = waiting w s e
  by_faults false true true true w s m e = cut_much w s e m
  by_faults false true false true w s m e = cut w s e m
  by_faults false false true ends w s m e = much w s m
  by_faults false false false ends w s m e = good w s m

  -- bytes are judged in one of these ways
  pub judged : Judged context bytes
  judged = by_faults (wrong bytes) (missing bytes) (too_much context bytes) context.last refl refl refl refl
