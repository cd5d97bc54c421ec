-- What the functions inside ask and say.
use Rattle.std.specs.Prelude.{ℕ, ◌+◌, ◌≤◌, List, length}
use Rattle.rules.specs.Rule.{Outcome, ok}
use Rattle.rules.specs.Faults.{Numbered}
use Rattle.chip.specs.Change.{changed_by}
use Rattle.chip.specs.Call.{Chip}
use Rattle.chip.specs.declared.state.State.{State}
use Rattle.chip.specs.declared.change.Change.{Change}
use Rattle.session_records.specs.declared.record.Record.{Record}
use Rattle.session_records.specs.declared.record.Record.TheVariants.{End, Write, Dots, Table, Normal, Overlay, Line}
use Rattle.session_listing.specs.Text.{EntrySays}
use Rattle.session_listing.specs.declared.entry.ListingEntry.{ListingEntry}
use Rattle.session_answers.specs.Status.{Status, listed}
use Rattle.session_answers.specs.declared.StepAnswer.TheVariants.{Listed}
use Rattle.session_rooms.specs.declared.Counts.{Counts}
use Rattle.session.specs.Record.{entry_of, acted}
use Rattle.session.specs.Lent.{Rooms, held_in, left_in}
use Rattle.session.specs.Done.{session_with}
use Rattle.session.specs.declared.session.Session.{Session}
use Rattle.session.specs.declared.acts.Acted.{Acted}

-- a session with this state in place of its own
abbrev pub with_state : Session → State → Session
with_state session state = record { state = state; counts = session.counts; records = session.records }

-- a session after one more record
abbrev pub counted : Session → Session
counted session = record { state = session.state; counts = session.counts; records = session.records + 1 }

-- the session after a record, by the state before it
abbrev pub left_by : State → Acted → Session
left_by state acted = session_with (changed_by state acted.change) acted.counts acted.records

-- after one more record, which changed this and lists this entry
abbrev pub listed_as : Change → Counts → ℕ → ListingEntry → Acted
listed_as change counts records entry = record { change = change; counts = counts; records = records + 1; answer = Listed entry }

-- after a record that asked the chip: what a call left and answered becomes the session's, with this entry where it is done
abbrev pub asked_in : {A : Type 0} → Session → EntrySays → Chip × Outcome Numbered A → (Session × List ℕ) × Outcome Numbered Status
asked_in session entry after = ((counted (with_state session after.0.0), after.0.1), ok (listed (entry_of entry after.1)))

-- what is held lies within the rooms
pub record HeldWithin (session : Session) (rooms : Rooms) : Type 0 where
  pub table_within : session.counts.table ≤ length rooms.table
  pub normal_within : session.counts.normal ≤ length rooms.normal
  pub overlay_within : session.counts.overlay ≤ length rooms.overlay

-- there is room for a record's body
abbrev pub BodyFits : Session → Rooms → Record → List ℕ → Type 0
BodyFits session rooms End body = Unit {0}
BodyFits session rooms (Write address value) body = Unit {0}
BodyFits session rooms (Dots count) body = Unit {0}
BodyFits session rooms Table body = session.counts.table + length body ≤ length rooms.table
BodyFits session rooms Normal body = length body ≤ length rooms.normal
BodyFits session rooms Overlay body = length body ≤ length rooms.overlay
BodyFits session rooms (Line y) body = Unit {0}

-- what a record with this body leaves, and what it comes to
unfoldable pub acted_in : Session → Rooms → Record → List ℕ → (Session × Rooms) × Outcome Numbered Status
acted_in session rooms which body =
    let after = acted (held_in session rooms) which body in
    (left_in rooms after.0, ok after.1)
