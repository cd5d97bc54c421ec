-- What functions inside the crate answer to each other. No contract of a public function cites these.
use Rattle.std.specs.Prelude.{ℕ, zero, suc, ◌≤◌, ◌<◌, ◌≡◌, true, List, set, Option, Some, Result, Ok, Err}
use Rattle.rules.specs.Rule.{Outcome, ok, refused}
use Rattle.rules.specs.Faults.{Numbered}
use Rattle.refusals.specs.Refusal.{numbered}
use Rattle.chip_timing.specs.Signals.{signals_at}
use Rattle.chip_timing.specs.declared.Walk.{Walk}
use Rattle.chip_queue.specs.Waiting.{target}
use Rattle.chip_queue.specs.Queue.{oldest, without}
use Rattle.chip_queue.specs.declared.Queue.{Queue}
use Rattle.chip.specs.State.{windows_of}
use Rattle.chip.specs.Call.{Chip}
use Rattle.chip.specs.Dots.{after_dots}
use Rattle.chip.specs.declared.state.State.{State}
use Rattle.chip.specs.declared.pass.Pass.{Pass}
use Rattle.chip_registers.specs.declared.Register.{Register}
use Rattle.refusals.specs.declared.Refusal.{Refusal}

-- what becomes of a write by the verdict on its faults: it goes to the register that its address names, or is refused so
abbrev pub Judged : Outcome Numbered (Unit {0}) → Option Register → Result Register Refusal → Type 0
Judged test what (Ok register) = (test ≡ ok tt) × (what ≡ Some register)
Judged test what (Err refusal) = test ≡ refused (numbered refusal)

-- so many of the oldest writes of a queue in a store, one after the other
unfoldable pub stored_by : ℕ → Queue → List ℕ → List ℕ
stored_by zero queue store = store
stored_by (suc count) queue store =
    let write = oldest (without queue count) in set (stored_by count queue store) (target write) write.value

-- the chip behind dots that come so far: so many writes have left the queue for the store, and the beam is there
abbrev pub behind : Chip → Pass → Chip
behind chip pass =
    (record { control = chip.0.control; at = pass.at; queue = without chip.0.queue pass.taken }, stored_by pass.taken chip.0.queue chip.1)

-- a walk over some of the dots behind others: those left lead where all lead, and the first of them is blanked
abbrev pub WalksOn : State → Pass → ℕ → Walk → Type 0
WalksOn state pass count walk =
    (walk.left ≤ count)
    × (0 < walk.left → (signals_at (windows_of state) walk.at).blank ≡ true)
    × ((store : List ℕ) → after_dots count (behind (state, store) pass) ≡ after_dots walk.left (behind (state, store) (record { at = walk.at; taken = pass.taken })))
