-- A step as a call: what it is refused for, and what it leaves and answers.
use Rattle.std.specs.Prelude.{ℕ, ◌+◌, Bool, List, length, drop}
use Rattle.rules.specs.Rule.{Outcome}
use Rattle.rules.specs.Faults.{Numbered, Fault, unless}
use Rattle.session_answers.specs.Status.{Status}
use Rattle.session_rooms.specs.Rooms.{lent_faults}
use Rattle.session.specs.Record.{stepped}
use Rattle.session.specs.Lent.{Rooms, held_in, rooms_with, session_of}
use Rattle.session.specs.declared.session.Session.{Session}

-- 11 by the counts, then 5 by the rooms
abbrev pub step_faults : Session → Rooms → List Fault
step_faults session rooms =
    lent_faults session.counts
    (length rooms.store) (length rooms.table) (length rooms.normal) (length rooms.overlay) (length rooms.output)

-- the session, the place of the next record, and the rooms
abbrev pub Left : Type 0
Left = (Session × ℕ) × Rooms

-- what a step at a place of lent bytes leaves, and what it comes to (CHIP 9.5, 9.8)
unfoldable pub after_step : Session → Rooms → List ℕ → ℕ → Bool → Left × Status
after_step session rooms bytes place last =
    let step = stepped last (held_in session rooms) (drop place bytes) in
    (((session_of step.0.0, place + step.0.1), rooms_with rooms step.0.0), step.1)

-- what a call leaves and answers
unfoldable pub session_step : Session → Rooms → List ℕ → ℕ → Bool → Left × Outcome Numbered Status
session_step session rooms bytes place last =
    unless (step_faults session rooms) ((session, place), rooms) (after_step session rooms bytes place last)
