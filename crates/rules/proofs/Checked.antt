-- Faults as a rule: it refuses exactly by the first that holds, and reads nothing. Assumes nothing.
use Prim.Native.Nat.{ℕ}
use mathlib.Core.Path.{◌≡◌, refl, sym, ap, ◌∙◌}
use mathlib.Core.Bool.{Bool, true, false, cond}
use mathlib.Core.List.{List, [], ◌∷◌}
use Rattle.rules.specs.Rule.{Outcome, ok, refused, stop, run, reads}
use Rattle.rules.specs.Faults.{Numbered, Fault, Clear, First, unless}
use Rattle.rules.specs.Checked.{checked, verdict}
use Rattle.rules.proofs.Then.{run_cond, reads_cond}
use Rattle.rules.proofs.Faults.{none_holds, first_holds, refused_first, accepted_clear}

-- what a call that changes nothing answers, by its faults
abbrev answer : List Fault → Outcome Numbered (Unit {0})
answer faults = (unless {Memory = Unit {0}} faults tt (tt, tt)).1

-- one fault more decides by its test
answered_by : (test : Bool) (refusal : Numbered) (faults : List Fault)
    → cond test (refused refusal) (answer faults) ≡ answer (record { holds = test; refusal = refusal } ∷ faults)
answered_by true refusal faults = refl
answered_by false refusal faults = refl

-- the verdict is that answer
answered : (faults : List Fault) → verdict faults ≡ answer faults
answered [] = refl
answered (fault ∷ faults) =
    ap (λ (rest : Outcome Numbered (Unit {0})). cond fault.holds (refused fault.refusal) rest) (answered faults)
    ∙ answered_by fault.holds fault.refusal faults

-- where none holds, all may pass
pub verdict_clear : (faults : List Fault) → Clear faults → verdict faults ≡ ok tt
verdict_clear faults clear = answered faults ∙ ap (λ (all : Unit {0} × Outcome Numbered (Unit {0})). all.1) (none_holds tt (tt, tt) faults clear)

-- the first that holds decides
pub verdict_first : (faults : List Fault) (refusal : Numbered) → First faults refusal → verdict faults ≡ refused refusal
verdict_first faults refusal found =
    answered faults ∙ ap (λ (all : Unit {0} × Outcome Numbered (Unit {0})). all.1) (first_holds tt (tt, tt) faults refusal found)

-- a verdict that refuses does so by the first fault that holds
pub first_verdict : (faults : List Fault) (refusal : Numbered) → verdict faults ≡ refused refusal → First faults refusal
first_verdict faults refusal e = refused_first {Memory = Unit {0}} tt (tt, tt) faults refusal (sym (answered faults) ∙ e)

-- all may pass only where none holds
pub clear_verdict : (faults : List Fault) → verdict faults ≡ ok tt → Clear faults
clear_verdict faults e = accepted_clear {Memory = Unit {0}} tt (tt, tt) faults tt (sym (answered faults) ∙ e)

module _ {Q : Type 0} (memory : Q → ℕ) where
  -- the outcome of the rule rests on no memory
  pub run_checked : (faults : List Fault) → run memory (checked faults) ≡ verdict faults
  run_checked [] = refl
  run_checked (fault ∷ faults) =
      run_cond memory fault.holds (stop fault.refusal) (checked faults)
      ∙ ap (λ (rest : Outcome Numbered (Unit {0})). cond fault.holds (refused fault.refusal) rest) (run_checked faults)

  -- by a test, none or none
  none_read : (test : Bool) {cells : List Q} → cells ≡ [] → cond test [] cells ≡ []
  none_read true e = refl
  none_read false e = e

  -- faults as a rule read nothing
  pub checked_reads : (faults : List Fault) → reads memory (checked faults) ≡ []
  checked_reads [] = refl
  checked_reads (fault ∷ faults) =
      reads_cond memory fault.holds (stop fault.refusal) (checked faults) ∙ none_read fault.holds (checked_reads faults)
