-- The state after a change: where the queue stays, and that the change is known by it. Assumes nothing.
use Prim.Native.Nat.{ℕ, ◌+◌, ◌<◌}
use mathlib.Core.Path.{◌≡◌, refl, ap, ap₂, sym, ◌∙◌}
use mathlib.Core.List.{List}
use native.Mathlib.Omega.{arith}
use lib.ListN.{get_or}
use lib.Seq.{get_or-set_same}
use Rattle.chip_timing.specs.declared.Position.{Position}
use Rattle.chip_queue.specs.Queue.{zero_slot, pushed}
use Rattle.chip_queue.specs.declared.Waiting.{Waiting}
use Rattle.chip_queue.specs.declared.Queue.{Queue}
use Rattle.chip_queue.proofs.Order.{pushed_is}
use Rattle.chip_queue.proofs.Slots.{waiting_without}
use Rattle.chip.specs.Change.{beside_queue, queue_by, changed_by, Tells}
use Rattle.chip.specs.declared.state.State.{State}
use Rattle.chip.specs.declared.change.QueueChange.{QueueChange}
use Rattle.chip.specs.declared.change.QueueChange.TheVariants.{Same, Joined, Drained}
use Rattle.chip.specs.declared.change.Change.{Change}

-- where the queue stays, control words and position make the state after a change
pub queue_stays : (state : State) (change : Change) → change.queue ≡ Same → beside_queue state change ≡ changed_by state change
queue_stays state change same =
    ap (λ (queue : QueueChange). record { control = change.control; at = change.at; queue = queue_by state.queue queue }) (sym same)

module _ (queue : Queue) where
  -- where a write joins, one more waits
  one_more : (write : Waiting) → queue.waiting < 64 → (pushed queue write).waiting ≡ queue.waiting + 1
  one_more write more = ap (λ (next : Queue). next.waiting) (pushed_is queue write more)

  -- a write that joins stands behind those that waited
  joins_behind : (write : Waiting) → Tells queue (Joined write) → get_or (pushed queue write).slots queue.waiting zero_slot ≡ write
  joins_behind write tells =
      ap (λ (next : Queue). get_or next.slots queue.waiting zero_slot) (pushed_is queue write tells.0)
      ∙ get_or-set_same queue.slots queue.waiting write zero_slot tells.1

  -- what becomes of the queue is known by the queue that is left
  queue_known : (one other : QueueChange) → Tells queue one → Tells queue other → queue_by queue one ≡ queue_by queue other → one ≡ other
  queue_known Same Same tells tells' is = refl
  queue_known Same (Joined write) tells tells' is = absurd (omega (arith, ap (λ (next : Queue). next.waiting) is, one_more write tells'.0))
  queue_known Same (Drained taken) tells tells' is = absurd (omega (arith, ap (λ (next : Queue). next.waiting) is, waiting_without queue taken, tells'.0, tells'.1))
  queue_known (Joined write) Same tells tells' is = absurd (omega (arith, ap (λ (next : Queue). next.waiting) is, one_more write tells.0))
  queue_known (Joined write) (Joined write') tells tells' is =
      ap Joined (sym (joins_behind write tells) ∙ ap (λ (next : Queue). get_or next.slots queue.waiting zero_slot) is ∙ joins_behind write' tells')
  queue_known (Joined write) (Drained taken) tells tells' is =
      absurd (omega (arith, ap (λ (next : Queue). next.waiting) is, one_more write tells.0, waiting_without queue taken))
  queue_known (Drained taken) Same tells tells' is = absurd (omega (arith, ap (λ (next : Queue). next.waiting) is, waiting_without queue taken, tells.0, tells.1))
  queue_known (Drained taken) (Joined write) tells tells' is =
      absurd (omega (arith, ap (λ (next : Queue). next.waiting) is, one_more write tells'.0, waiting_without queue taken))
  queue_known (Drained taken) (Drained taken') tells tells' is =
      let same : taken ≡ taken' = omega (arith, ap (λ (next : Queue). next.waiting) is, waiting_without queue taken, waiting_without queue taken', tells.1, tells'.1) in
      ap Drained same

-- a change is known by the state that it leaves
pub change_known : (state : State) (one other : Change) → Tells state.queue one.queue → Tells state.queue other.queue
    → changed_by state one ≡ changed_by state other → one ≡ other
change_known state one other tells tells' is =
    ap₂ (λ (control : List ℕ) (at : Position). record { control = control; at = at; queue = one.queue }) (ap (λ (after : State). after.control) is) (ap (λ (after : State). after.at) is)
    ∙ ap (λ (queue : QueueChange). record { control = other.control; at = other.at; queue = queue }) (queue_known state.queue one.queue other.queue tells tells' (ap (λ (after : State). after.queue) is))
