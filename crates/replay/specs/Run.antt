-- A run over a file: how far it is, and what a turn of it does.
use Rattle.std.specs.Prelude.{ℕ, ◌+◌, Bool, false, true, cond, List, eqb, leb, length, take}
use Rattle.std.proofs.Math.Seq.{slice}
use Rattle.rules.specs.Rule.{Outcome, ok, refused}
use Rattle.rules.specs.Faults.{Numbered}
use Rattle.session_listing.specs.Text.{says_refused, text}
use Rattle.session_listing.specs.Room.{room_of, placed}
use Rattle.session_answers.specs.Status.{Status, listed, ended, needs_more, stopped, text_of}
use Rattle.session.specs.Lent.{Rooms, laid}
use Rattle.session.specs.Step.{Left, session_step}
use Rattle.session.specs.declared.session.Session.{Session}
use Rattle.replay.specs.declared.course.Going.{Going}
use Rattle.replay.specs.declared.course.Going.TheVariants.{On, Full, Read, Over, Unread, Unwritten}
use Rattle.replay.specs.declared.course.Course.{Course}

-- how far a run is: where the unread bytes of the input start and end, whether the file ends with them, where the text that waits ends, and how it goes on
abbrev pub course_of : ℕ → ℕ → Bool → ℕ → Going → Course
course_of from to last put going = record { from = from; to = to; last = last; put = put; going = going }

-- before the first byte is read
abbrev pub begun : Course
begun = course_of 0 0 false 0 On

-- a run that goes on so
abbrev pub going_so : Course → Going → Course
going_so course going = course_of course.from course.to course.last course.put going

-- another turn can be made
abbrev pub goes_on_turning : Going → Bool
goes_on_turning On = true
goes_on_turning Full = false
goes_on_turning Read = false
goes_on_turning Over = false
goes_on_turning Unread = false
goes_on_turning Unwritten = false

-- a run: how far it is, its session and rooms, the input and the text
pub record RunAt : Type 0 where
  pub course : Course
  pub session : Session
  pub rooms : Rooms
  pub input : List ℕ
  pub lines : List ℕ

-- the five of them as one
abbrev pub run_of : Course → Session → Rooms → List ℕ → List ℕ → RunAt
run_of course session rooms input lines = record { course = course; session = session; rooms = rooms; input = input; lines = lines }

-- the bytes of the input that are unread
abbrev pub unread_in : Course → List ℕ → List ℕ
unread_in course input = slice course.from course.to input

-- the text that waits
abbrev pub text_waiting : Course → List ℕ → List ℕ
text_waiting course lines = take course.put lines

-- how a run goes on after a step that comes to this: more bytes are read where it waits, and it is over with the end, a fault or a refusal
abbrev pub going_after : Outcome Numbered Status → Going
going_after (ok (listed entry)) = On
going_after (ok ended) = Over
going_after (ok needs_more) = Read
going_after (ok (stopped refusal)) = Over
going_after (refused refusal) = Over

-- the text that it adds
abbrev pub added_by : List ℕ → Outcome Numbered Status → List ℕ
added_by output (ok status) = text_of output status
added_by output (refused refusal) = text (says_refused refusal) output

-- text put behind a place: where it ends, and the lines with it
abbrev pub put_behind : List ℕ → ℕ → List ℕ → ℕ × List ℕ
put_behind lines put bytes = (put + length bytes, placed lines put bytes)

-- a run after a step that left and came to this: at the next place, with the added text behind the text that waits
abbrev pub after_taking : RunAt → Left × Outcome Numbered Status → RunAt
after_taking run step =
    let more = put_behind run.lines run.course.put (added_by step.0.1.output step.1) in
    run_of (course_of step.0.0.1 run.course.to run.course.last more.0 (going_after step.1)) step.0.0.0 step.0.1 run.input more.1

-- behind the text that waits there is room for the longest entry that an output can show
abbrev pub has_room : ℕ → ℕ → ℕ → Bool
has_room lines put output = leb (put + room_of output) lines

-- a turn: one step on the unread bytes, where there is room for its text; else the text has to be written out first
unfoldable pub turned : RunAt → RunAt
turned run =
    cond (has_room (length run.lines) run.course.put (length run.rooms.output))
    (after_taking run (session_step run.session run.rooms (take run.course.to run.input) run.course.from run.course.last))
    (run_of (going_so run.course Full) run.session run.rooms run.input run.lines)

-- after the text that waits is written out: none waits
abbrev pub written_out : Course → Going → Course
written_out course going = course_of course.from course.to course.last 0 going

-- bytes at the front of the input: how many, and the input with them
abbrev pub to_front : List ℕ → List ℕ → ℕ × List ℕ
to_front input bytes = (length bytes, laid input bytes)

-- after a read that put so many bytes behind those kept: where it put none, the file ends there
abbrev pub taken_in : Course → ℕ → ℕ → Course
taken_in course kept count = course_of 0 (kept + count) (eqb count 0) course.put On

-- after a read that put none, for another reason: the bytes kept are all there is so far
abbrev pub nothing_read : Course → ℕ → Going → Course
nothing_read course kept going = course_of 0 kept false course.put going
