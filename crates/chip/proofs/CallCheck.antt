-- What a call's first test says: it may go on, or it is refused by 11 or 5. Assumes nothing.
use Prim.Native.Nat.{ℕ}
use mathlib.Core.Path.{◌≡◌, refl, ap}
use mathlib.Core.Bool.{Bool, true, false, not, cond}
use mathlib.Core.List.{List, [], ◌∷◌, ◌++◌}
use borrow.Author.Tests.{eqb-true, eq-eqb, not-false}
use lib.ListN.{length}
use Rattle.rules.specs.Rule.{Outcome, ok, refused, and_then}
use Rattle.rules.specs.Faults.{Numbered, Fault, unless}
use Rattle.rules.specs.Checked.{verdict}
use Rattle.rules.proofs.Faults.{none_holds, first_holds}
use Rattle.rules.proofs.Checked.{verdict_clear, first_verdict, clear_verdict}
use Rattle.chip_registers.specs.Store.{store_length}
use Rattle.chip.specs.State.{good_state}
use Rattle.chip.specs.Call.{Chip, call_faults}
use Rattle.chip.specs.declared.state.State.{State}

-- what a call's first test says of a state and a store
abbrev pub tested : Chip → Outcome Numbered (Unit {0})
tested chip = verdict (call_faults chip.0 (length chip.1))

-- a call may go on with them
abbrev pub GoesOn : Chip → Type 0
GoesOn chip = tested chip ≡ ok tt

module _ (state : State) (size : ℕ) where
  -- a call that may go on has a state that keeps its rule and a store of the right length
  pub allowed_says : verdict (call_faults state size) ≡ ok tt → (good_state state ≡ true) × (size ≡ store_length)
  allowed_says e = let clear = clear_verdict (call_faults state size) e in (not-false _ clear.0, eqb-true _ _ (not-false _ clear.1.0))

  -- with a state that keeps its rule and a store of the right length a call may go on
  pub says_allowed : good_state state ≡ true → size ≡ store_length → verdict (call_faults state size) ≡ ok tt
  says_allowed good right = verdict_clear (call_faults state size) (ap not good, (ap not (eq-eqb size store_length right), tt))

-- the first faults decide, else those behind them
pub first_then : (faults others : List Fault) → verdict (faults ++ others) ≡ and_then (verdict faults) (λ passed. verdict others)
first_then [] others = refl
first_then (fault ∷ faults) others = by fault.holds (first_then faults others)
  where
    -- by whether the first fault holds, else by those behind it
    by : (test : Bool) → verdict (faults ++ others) ≡ and_then (verdict faults) (λ passed. verdict others)
        → cond test (refused fault.refusal) (verdict (faults ++ others)) ≡ and_then (cond test (refused fault.refusal) (verdict faults)) (λ passed. verdict others)
    by true rest = refl
    by false rest = rest

module _ {Memory Answer : Type 0} (before : Memory) (done : Memory × Answer) (faults : List Fault) where
  -- a call of which no fault holds does what it does
  pub passes : verdict faults ≡ ok tt → unless faults before done ≡ (done.0, ok done.1)
  passes e = none_holds before done faults (clear_verdict faults e)

  -- a call of which a fault holds is refused by the first that does, and leaves all as it was
  pub stops : (refusal : Numbered) → verdict faults ≡ refused refusal → unless faults before done ≡ (before, refused refusal)
  stops refusal e = first_holds before done faults refusal (first_verdict faults refusal e)
