-- The moment of a colour write: the one with k before it in the queue is applied at exactly the blanked dot that has k before it, so within 64. Assumes nothing.
use Prim.Native.Nat.{ℕ, suc, ◌-◌, ◌≤◌, ◌<◌}
use mathlib.Core.Path.{◌≡◌, refl, sym, ap, ◌∙◌}
use mathlib.Core.Bool.{true}
use mathlib.Core.List.{List, [], ◌∷◌, ◌++◌, append-nil}
use native.Mathlib.Omega.{arith}
use lib.ListN.{length, get_or}
use Rattle.chip_queue.specs.Queue.{zero_slot, waiting_in}
use Rattle.chip_queue.specs.Waiting.{target}
use Rattle.chip_queue.specs.declared.Waiting.{Waiting}
use Rattle.chip_queue.proofs.Rule as rule
use Rattle.chip_queue.proofs.Rule.{good_each, write_says}
use Rattle.chip.specs.State.{fresh, good_state, HasArrays}
use Rattle.chip.specs.Call.{Chip}
use Rattle.chip.proofs.Good.{good_says, fresh_whole, fresh_good}
use Rattle.chip_history.specs.Calls.{Call, write, left_by, end}
use Rattle.chip_history.specs.Ledger.{accepts, accepted, blanks, blanked}
use Rattle.chip_history.proofs.Calls.{stays_whole}
use Rattle.chip_history.proofs.Stays.{stays_good}
use Rattle.chip_history.proofs.Acts.{acts_waits, acts_exact}
use Rattle.chip_history.proofs.Ledger.{calls_act, ledger_from, few_wait, waiting_count}
use Rattle.chip_history.proofs.Entries.{latest_last, map_entry}

module _ (chip : Chip) (calls : List Call) (whole : HasArrays chip.0) (good : good_state chip.0 ≡ true) (k : ℕ) (waits : k < chip.0.queue.waiting) where
  -- it stands in the list of those that wait
  stands : k < length (waiting_in chip.0.queue)
  unfolding end
  stands = rw (waiting_count chip [] whole good) waits

  -- until k blanked dots have come it waits, by as many places further on; the next blanked dot applies it and nothing else
  pub exact_dot :
      (length (blanked chip calls) ≤ k
      → (get_or (waiting_in (end chip calls).0.queue) (k - length (blanked chip calls)) zero_slot ≡ get_or (waiting_in chip.0.queue) k zero_slot)
      × (k - length (blanked chip calls) < (end chip calls).0.queue.waiting))
      × (k < length (blanked chip calls) → get_or (blanked chip calls) k [] ≡ get_or (waiting_in chip.0.queue) k zero_slot ∷ [])
  exact_dot = (
    λ few. let e = acts_waits (calls_act chip calls whole) k zero_slot stands few in (e.0, rw (waiting_count chip calls whole good) at e.1),
    acts_exact (calls_act chip calls whole) k zero_slot stands,
  )

  -- once 64 blanked dots have come, a write that waited has been applied
  pub within_64 : 64 ≤ length (blanked chip calls) → get_or (blanked chip calls) k [] ≡ get_or (waiting_in chip.0.queue) k zero_slot ∷ []
  unfolding end
  within_64 enough = exact_dot.1 (omega (arith, few_wait chip [] whole good))

  -- right after its own dot, its entry of the map holds its colour
  pub lands : length (blanked chip calls) ≡ suc k
      → get_or (end chip calls).1 (target (get_or (waiting_in chip.0.queue) k zero_slot)) 0 ≡ (get_or (waiting_in chip.0.queue) k zero_slot).value
  lands last =
      let own = get_or (waiting_in chip.0.queue) k zero_slot in
      let fine = good_each (waiting_in chip.0.queue) k (rule.good_says chip.0.queue (good_says chip.0 good).3).1 stands in
      map_entry own.word (write_says own fine).0 chip calls whole
      ∙ latest_last own.word (blanked chip calls) k own (get_or chip.1 (target own) 0) last (exact_dot.1 (omega arith)) refl

-- from a fresh state: whatever was called, what then waits is applied within the next 64 blanked dots
pub fresh_within_64 : (store : List ℕ) (before calls : List Call) (k : ℕ) → let chip : Chip = end (fresh, store) before in
    k < chip.0.queue.waiting → 64 ≤ length (blanked chip calls) → get_or (blanked chip calls) k [] ≡ get_or (waiting_in chip.0.queue) k zero_slot ∷ []
fresh_within_64 store before calls k waits =
    within_64 (end (fresh, store) before) calls (stays_whole (fresh, store) before fresh_whole) (stays_good (fresh, store) before fresh_whole fresh_good) k waits

-- an accepted colour write stands behind all that waited, so with n waiting it is the one with n before it
pub accepted_stands : (chip : Chip) (address value : ℕ) (taken : Waiting) → HasArrays chip.0 → accepts chip (write address value) ≡ taken ∷ []
    → waiting_in (left_by chip (write address value)).0.queue ≡ waiting_in chip.0.queue ++ (taken ∷ [])
unfolding end accepted blanks blanked
accepted_stands chip address value taken whole is =
    sym (ap (λ (writes : List Waiting). waiting_in chip.0.queue ++ writes) (sym (append-nil _ ∙ is)) ∙ ledger_from chip (write address value ∷ []) whole)
