-- A session by its parts, and what a step leaves of it.
use Rattle.std.specs.Prelude.{ℕ}
use Rattle.chip.specs.Change.{changed_by}
use Rattle.chip.specs.declared.state.State.{State}
use Rattle.session_rooms.specs.declared.Counts.{Counts}
use Rattle.session.specs.declared.session.Session.{Session}
use Rattle.session.specs.declared.step.Done.{Done}

-- a session of these parts
abbrev pub session_with : State → Counts → ℕ → Session
session_with state counts records = record { state = state; counts = counts; records = records }

-- the session after a step, by the state before it
abbrev pub session_by : State → Done → Session
session_by state done = session_with (changed_by state done.change) done.counts done.records
