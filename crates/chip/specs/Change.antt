-- What a call changes of the state.
use Rattle.std.specs.Prelude.{◌≤◌, ◌<◌, length}
use Rattle.chip_queue.specs.Queue.{most_waiting, pushed, without}
use Rattle.chip_queue.specs.declared.Queue.{Queue}
use Rattle.chip.specs.declared.state.State.{State}
use Rattle.chip.specs.declared.change.QueueChange.{QueueChange}
use Rattle.chip.specs.declared.change.QueueChange.TheVariants.{Same, Joined, Drained}
use Rattle.chip.specs.declared.change.Change.{Change}

-- a change that leaves the state as it was
abbrev pub unchanged : State → Change
unchanged state = record { control = state.control; at = state.at; queue = Same }

-- a state with the control words and the position of a change; the queue stays (CHIP 2.4)
abbrev pub beside_queue : State → Change → State
beside_queue state change = record { control = change.control; at = change.at; queue = state.queue }

-- the queue after what becomes of it: as it was, with one more write, or without so many of the oldest (CHIP 3.3, 3.6)
abbrev pub queue_by : Queue → QueueChange → Queue
queue_by queue Same = queue
queue_by queue (Joined write) = pushed queue write
queue_by queue (Drained taken) = without queue taken

-- the state after a change (CHIP 2.4)
abbrev pub changed_by : State → Change → State
changed_by state change = record { control = change.control; at = change.at; queue = queue_by state.queue change.queue }

-- a change of the queue says no more than it does: a write joins only where there is room, and at least one leaves, of those that wait
abbrev pub Tells : Queue → QueueChange → Type 0
Tells queue Same = Unit {0}
Tells queue (Joined write) = (queue.waiting < most_waiting) × (queue.waiting < length queue.slots)
Tells queue (Drained taken) = (0 < taken) × (taken ≤ queue.waiting)
