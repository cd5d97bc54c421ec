-- What a turn leaves of the session, and what writing and reading may leave of a course and of the input.
use Rattle.std.specs.Prelude.{ℕ, ◌≡◌, List, ◌++◌, ◌⊎◌, length, take}
use Rattle.chip.specs.Change.{changed_by}
use Rattle.chip.specs.declared.state.State.{State}
use Rattle.session.specs.Done.{session_with}
use Rattle.session.specs.declared.session.Session.{Session}
use Rattle.replay.specs.Run.{unread_in, going_so, written_out, taken_in, nothing_read}
use Rattle.replay.specs.declared.course.Going.{Going}
use Rattle.replay.specs.declared.course.Going.TheVariants.{On, Full, Read, Over, Unread, Unwritten}
use Rattle.replay.specs.declared.course.Course.{Course}
use Rattle.replay.specs.declared.turn.Turned.{Turned}

-- the session after a turn, by the state before it
abbrev pub turned_to : State → Turned → Session
turned_to state turned = session_with (changed_by state turned.change) turned.counts turned.records

-- after writing: no text waits, and the run goes on so; or it breaks off
abbrev pub AfterWriting : Course → Going → Course → Type 0
AfterWriting course going next = (next ≡ written_out course going) ⊎ (next ≡ going_so course Unwritten)

-- after reading: a piece stands behind the unread bytes, which stand at the front; or none does, and the run goes on or breaks off
pub data AfterReading (course : Course) (input : List ℕ) (next : Course) (more : List ℕ) : Type 0 where
  took : (piece : List ℕ) → next ≡ taken_in course (length (unread_in course input)) (length piece) → take next.to more ≡ unread_in course input ++ piece
      → AfterReading course input next more
  again : next ≡ nothing_read course (length (unread_in course input)) On → take next.to more ≡ unread_in course input → AfterReading course input next more
  failed : next ≡ nothing_read course (length (unread_in course input)) Unread → take next.to more ≡ unread_in course input → AfterReading course input next more

-- after writing and then reading: it breaks off where not all is written, and nothing is read
abbrev pub AfterBoth : Course → List ℕ → Course → List ℕ → Type 0
AfterBoth course input next more = ((next ≡ going_so course Unwritten) × (more ≡ input)) ⊎ AfterReading (written_out course Read) input next more

-- after what a turn asks for is done: the text is written out where it leaves no room, before a read and at the end
abbrev pub AfterServing : Going → Course → List ℕ → Course → List ℕ → Type 0
AfterServing On course input next more = (next ≡ course) × (more ≡ input)
AfterServing Full course input next more = AfterWriting course On next × (more ≡ input)
AfterServing Read course input next more = AfterBoth course input next more
AfterServing Over course input next more = AfterWriting course Over next × (more ≡ input)
AfterServing Unread course input next more = (next ≡ course) × (more ≡ input)
AfterServing Unwritten course input next more = (next ≡ course) × (more ≡ input)
