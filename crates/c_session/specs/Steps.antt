-- What C is answered by a session's step, and the text that it puts.
use Rattle.std.specs.Prelude.{ℕ, ◌+◌, Bool, List, [], ◌∷◌, ◌++◌, ltb, length}
use Rattle.rules.specs.Rule.{Outcome, ok, refused}
use Rattle.rules.specs.Faults.{Numbered, Fault, unless}
use Rattle.c_numbers.specs.Numbers.{nothing, refused_by}
use Rattle.c_numbers.specs.declared.Refused.{Refused}
use Rattle.session_listing.specs.Text.{EntrySays}
use Rattle.session_listing.specs.Text as entry
use Rattle.session_listing.specs.Room.{room_of}
use Rattle.session_answers.specs.Status.{Status, listed, ended, needs_more, stopped, text_of}
use Rattle.session_rooms.specs.Rooms.{longest_line}
use Rattle.session.specs.Lent.{Rooms, laid}
use Rattle.session.specs.Step.{step_faults, Left, after_step}
use Rattle.session.specs.declared.session.Session.{Session}
use Rattle.c_session.specs.declared.steps.StatusNumbers.{StatusNumbers}
use Rattle.c_session.specs.declared.steps.SteppedNumbers.{SteppedNumbers}

-- the bytes in which every entry's text has room: 32, and 7 for each pixel of the longest line
abbrev pub text_room : ℕ
text_room = room_of longest_line

-- a text too short is 5 at place 6
abbrev pub short_text : Numbered
short_text = record { number = 5; values = 6 ∷ [] }

-- a text of so many bytes is too short
abbrev pub text_fault : ℕ → Fault
text_fault lent = record { holds = ltb lent text_room; refusal = short_text }

-- 11, 5 by the rooms, 5 by the text
abbrev pub step_text_faults : Session → Rooms → List ℕ → List Fault
step_text_faults session rooms lent = step_faults session rooms ++ text_fault (length lent) ∷ []

-- what a call leaves, and what it comes to
abbrev pub called : Session → Rooms → List ℕ → List ℕ → ℕ → Bool → Left × Outcome Numbered Status
called session rooms lent bytes place last =
    unless (step_text_faults session rooms lent) ((session, place), rooms) (after_step session rooms bytes place last)

-- the refusal that an entry lists
abbrev pub entry_refusal : EntrySays → Refused
entry_refusal entry.says_ok = nothing
entry_refusal (entry.says_at x y) = nothing
entry_refusal (entry.says_line y width) = nothing
entry_refusal (entry.says_refused refusal) = refused_by refusal

-- 0 where the call is refused, 1 for an entry, 2 for the end, 3 for a wait, 4 for a fault of the file
abbrev pub status_in_numbers : Outcome Numbered Status → StatusNumbers
status_in_numbers (refused refusal) = record { status = 0; refusal = refused_by refusal }
status_in_numbers (ok (listed entry)) = record { status = 1; refusal = entry_refusal entry }
status_in_numbers (ok ended) = record { status = 2; refusal = nothing }
status_in_numbers (ok needs_more) = record { status = 3; refusal = nothing }
status_in_numbers (ok (stopped refusal)) = record { status = 4; refusal = refused_by refusal }

-- the text: that of what it comes to, none where the call is refused (CHIP 9.7)
abbrev pub text_by : Outcome Numbered Status → List ℕ → List ℕ
text_by (ok status) output = text_of output status
text_by (refused refusal) output = []

-- a step's answer: session and next place, status and refusal, and how many bytes of text were put
abbrev pub step_answer : Session × ℕ → StatusNumbers → ℕ → SteppedNumbers
step_answer left numbers put =
    record {
      session = left.0;
      next = left.1;
      text = put;
      refusal = numbers.refusal;
      status = numbers.status;
    }

-- what it answers and leaves: by what the call left and came to, with the text at the front of the lent bytes
abbrev pub step_left : Left × Outcome Numbered Status → List ℕ → SteppedNumbers × (Rooms × List ℕ)
step_left all lent =
    let text = text_by all.1 all.0.1.output in
    (step_answer all.0.0 (status_in_numbers all.1) (length text), (all.0.1, laid lent text))

-- what a call answers and leaves (CHIP 9.7)
unfoldable pub step_in_numbers : Session → Rooms → List ℕ → List ℕ → ℕ → Bool → SteppedNumbers × (Rooms × List ℕ)
step_in_numbers session rooms lent bytes place last = step_left (called session rooms lent bytes place last) lent
