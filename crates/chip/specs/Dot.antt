-- A dot, in three steps: the signals where the beam is, a waiting colour into the store where they say blank, the beam one position on.
use Rattle.std.specs.Prelude.{Bool, cond, ◌&&◌, ltb, length, set, Option, Some}
use Rattle.rules.specs.Rule.{Outcome}
use Rattle.rules.specs.Faults.{Numbered, unless}
use Rattle.chip_timing.specs.Signals.{signals_at}
use Rattle.chip_timing.specs.Move.{next_position}
use Rattle.chip_timing.specs.declared.Signals.{Signals}
use Rattle.chip_queue.specs.Waiting.{target}
use Rattle.chip_queue.specs.Queue.{oldest, popped}
use Rattle.chip.specs.State.{control_word, windows_of, with_position, with_queue}
use Rattle.chip.specs.Call.{Chip, call_faults}
use Rattle.chip.specs.declared.state.State.{State}

-- the signals at the position (CHIP 3.3)
abbrev pub signals_of : State → Signals
signals_of state = signals_at (windows_of state) state.at

-- whether a dot applies a write: it is blanked and something waits (CHIP 3.3)
unfoldable pub drains : State → Bool
drains state = (signals_of state).blank && ltb 0 state.queue.waiting

-- the oldest write leaves the queue for its place in the store (CHIP 3.3)
abbrev pub oldest_applied : Chip → Chip
oldest_applied chip =
    let write = oldest chip.0.queue in
    (with_queue chip.0 (popped chip.0.queue), set chip.1 (target write) write.value)

-- the oldest write is applied at a dot that is blanked where something waits; any other dot applies nothing (CHIP 3.3)
abbrev pub drained : Chip → Chip
drained chip = cond (drains chip.0) (oldest_applied chip) chip

-- the position moves on, by control word 1 (CHIP 3.4)
abbrev pub moved : State → State
moved state = with_position state (next_position state.at (control_word state 1))

-- what a dot leaves (CHIP 3.3)
unfoldable pub after_dot : Chip → Chip
after_dot chip = (moved (drained chip).0, (drained chip).1)

-- what a dot leaves and answers; it is refused by 11, then 5 (CHIP 3.3)
unfoldable pub dotted : Chip → Chip × Outcome Numbered (Option Signals)
dotted chip = unless (call_faults chip.0 (length chip.1)) chip (after_dot chip, Some (signals_of chip.0))
