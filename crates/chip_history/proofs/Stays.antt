-- What every sequence of calls keeps: the store's length and the state's rule, so that from a fresh state no call is refused by 11. Assumes nothing.
use Prim.Native.Nat.{ℕ}
use mathlib.Core.Path.{◌≡◌, refl, ◌∙◌}
use mathlib.Core.Bool.{true}
use mathlib.Core.List.{List, []}
use lib.ListN.{length}
use Rattle.rules.specs.Faults.{Numbered}
use Rattle.chip_registers.specs.Store.{store_length}
use Rattle.chip_queue.specs.declared.Waiting.{Waiting}
use Rattle.chip.specs.State.{fresh, good_state, HasArrays}
use Rattle.chip.specs.Call.{Chip}
use Rattle.chip.proofs.Good.{fresh_whole, fresh_good, put_length, put_good, dot_length, dot_good}
use Rattle.chip.proofs.CallCheck.{GoesOn, allowed_says}
use Rattle.chip_history.specs.Calls.{Call, RefusedBy, end}
use Rattle.chip_history.specs.Ledger.{accepted, blanked, applied}
use Rattle.chip_history.proofs.Refused.{good_not_11}
use Rattle.chip_history.proofs.Calls.{Law, law_calls}

-- ---- the store's length

-- as many words after as before
abbrev SameLength : Chip → List (List Waiting) → List Waiting → Chip → Type 0
SameLength first dark took last = length last.1 ≡ length first.1

-- no write and no dot changes the length of the store
same_length : Law SameLength
same_length =
    record {
      none = λ chip. refl;
      then = λ first middle last dark dark' took took' p q. q ∙ p;
      puts = λ chip address value register whole p. put_length chip register value;
      step = λ chip whole on. dot_length chip;
    }

-- every sequence leaves as many words in the store
pub stays_length : (chip : Chip) (calls : List Call) → HasArrays chip.0 → length (end chip calls).1 ≡ length chip.1
stays_length = law_calls SameLength same_length

-- ---- the state's rule

-- the rule after, if before
abbrev StillGood : Chip → List (List Waiting) → List Waiting → Chip → Type 0
StillGood first dark took last = good_state first.0 ≡ true → good_state last.0 ≡ true

-- writes and dots keep the rule
still_good : Law StillGood
still_good =
    record {
      none = λ chip good. good;
      then = λ first middle last dark dark' took took' p q good. q (p good);
      puts = λ chip address value register whole p good. put_good chip register value whole p.free good p.here p.fine;
      step = λ chip whole on good. dot_good chip whole good;
    }

-- every sequence keeps the rule
pub stays_good : (chip : Chip) (calls : List Call) → HasArrays chip.0 → good_state chip.0 ≡ true → good_state (end chip calls).0 ≡ true
stays_good = law_calls StillGood still_good

-- after any calls from a fresh state, none is refused by 11
pub never_bad : (store : List ℕ) (calls : List Call) (call : Call) (refusal : Numbered) → RefusedBy (end (fresh, store) calls) call refusal → refusal.number ≡ 11 → ⊥
never_bad store calls = good_not_11 (end (fresh, store) calls) (stays_good (fresh, store) calls fresh_whole fresh_good)

-- ---- a chip on which nothing goes on

-- where no call goes on, none was accepted, none applied, and all is as before
abbrev Idle : Chip → List (List Waiting) → List Waiting → Chip → Type 0
Idle first dark took last = (GoesOn first → ⊥) → (dark ≡ []) × (took ≡ []) × (last ≡ first)

-- a value is put, and a dot steps, only where calls go on
idle : Law Idle
idle =
    record {
      none = λ chip off. (refl, refl, refl);
      then = λ first middle last dark dark' took took' p q off.
          let e = p off in
          let f = q (rw e.2 off) in
          (rw (e.0, f.0), rw (e.1, f.1), f.2 ∙ e.2);
      puts = λ chip address value register whole p off. absurd (off p.on);
      step = λ chip whole on off. absurd (off on);
    }

-- with a store of another length nothing is accepted, nothing applied, and all stays as it was
pub wrong_store : (chip : Chip) (calls : List Call) → HasArrays chip.0 → (length chip.1 ≡ store_length → ⊥)
    → (accepted chip calls ≡ []) × (applied chip calls ≡ []) × (blanked chip calls ≡ []) × (end chip calls ≡ chip)
wrong_store chip calls whole wrong =
    let e = law_calls Idle idle chip calls whole (λ on. wrong (allowed_says chip.0 (length chip.1) on).1) in
    (e.1, rw e.0, e.0, e.2)
