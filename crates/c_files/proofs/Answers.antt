-- From a new session no call of C's is refused, and none lists a refusal by 11. Assumes nothing.
use Prim.Native.Nat.{ℕ, ◌≤◌}
use mathlib.Core.Path.{◌≡◌, refl, ap, sym, subst, ◌∙◌}
use mathlib.Core.Bool.{Bool}
use mathlib.Core.List.{List}
use native.Mathlib.Omega.{arith}
use lib.ListN.{length, drop}
use Rattle.rules.specs.Rule.{Outcome, ok}
use Rattle.rules.specs.Faults.{Numbered}
use Rattle.session_listing.specs.Text as entry
use Rattle.session_answers.specs.Status.{Status, listed, ended, needs_more, stopped}
use Rattle.session.specs.Held.{nothing_held}
use Rattle.session.specs.Record.{stepped}
use Rattle.session.specs.Lent.{Rooms, held_in, session_of}
use Rattle.session.specs.Step.{Left}
use Rattle.session.specs.declared.session.Session.{Session}
use Rattle.session_files.specs.Steps.{none}
use Rattle.session_files.specs.Calls.{Zeroed}
use Rattle.session_files.specs.Good.{GoodHeld, StatusNot11}
use Rattle.session_files.proofs.Calls.{calls_right}
use Rattle.session_files.proofs.Answered.{Ready, left, call_comes, stays_ready, first_ready}
use Rattle.session_files.proofs.Good.{first_good, next_ready, next_good, call_not_11}
use Rattle.c_session.specs.Steps.{text_room, status_in_numbers, step_left, step_in_numbers}
use Rattle.c_session.specs.declared.steps.SteppedNumbers.{SteppedNumbers}
use Rattle.c_session.proofs.Texts.{step_of_session}
use Rattle.c_files.specs.CallsOfC.{CallsOfC, adds, moves, lists, waits, ends, stops, EachAnswers, AnswerNot11}
use Rattle.c_files.proofs.Told.{Told, told}
use Rattle.c_files.proofs.Lists.{calls_of_c}

module _ (session : Session) (rooms : Rooms) (lent bytes : List ℕ) (place : ℕ) (last : Bool) (ready : Ready session rooms) (long : text_room ≤ length lent) where
  -- a call answers what the step over what is held comes to, and puts its text
  pub call_answers : step_in_numbers session rooms lent bytes place last ≡ step_left (left session rooms bytes place last, ok (stepped last (held_in session rooms) (drop place bytes)).1) lent
  call_answers =
      sym (step_of_session session rooms lent bytes place last long)
      ∙ ap (λ (all : Left × Outcome Numbered Status). step_left all lent) (call_comes session rooms bytes place last ready refl)

  -- its status is 1, 2, 3 or 4, and never 0: it is not refused
  pub never_0 : let status = (step_in_numbers session rooms lent bytes place last).0.status in (1 ≤ status) × (status ≤ 4)
  never_0 = subst (λ (all : SteppedNumbers × (Rooms × List ℕ)). (1 ≤ all.0.status) × (all.0.status ≤ 4)) (sym call_answers) (by (stepped last (held_in session rooms) (drop place bytes)).1)
    where
      -- by what the step comes to
      by : (status : Status) → (1 ≤ (status_in_numbers (ok status)).status) × ((status_in_numbers (ok status)).status ≤ 4)
      by (listed entry) = (omega arith, omega arith)
      by ended = (omega arith, omega arith)
      by needs_more = (omega arith, omega arith)
      by (stopped refusal) = (omega arith, omega arith)

  -- what it leaves is ready for the next
  pub c_stays_ready : let after = step_in_numbers session rooms lent bytes place last in Ready after.0.session after.1.0
  c_stays_ready = subst (λ (all : SteppedNumbers × (Rooms × List ℕ)). Ready all.0.session all.1.0) (sym call_answers) (stays_ready session rooms bytes place last ready)

-- the refusal of a status that lists none by 11 is none by 11
number_not_11 : (status : Status) → StatusNot11 status → (status_in_numbers (ok status)).refusal.number ≡ 11 → ⊥
number_not_11 (listed entry.says_ok) not_11 e = omega arith
number_not_11 (listed (entry.says_at x y)) not_11 e = omega arith
number_not_11 (listed (entry.says_line y width)) not_11 e = omega arith
number_not_11 (listed (entry.says_refused refusal)) not_11 e = not_11 e
number_not_11 ended not_11 e = omega arith
number_not_11 needs_more not_11 e = omega arith
number_not_11 (stopped refusal) not_11 e = not_11 e

module _ {session : Session} {rooms left : Rooms} {bytes : List ℕ} {place : ℕ} {pieces : List (List ℕ)} {answer : SteppedNumbers} {text : List ℕ}
    (ready : Ready session rooms) (good : GoodHeld (held_in session rooms)) (all : Told session rooms bytes place pieces answer left text) where
  -- its answer has no refusal by 11
  answer_not_11 : AnswerNot11 answer
  answer_not_11 = rw all.refusal_is (number_not_11 all.status (call_not_11 session rooms bytes place (none pieces) ready all.call_is good))

  -- what it leaves is ready for the next
  ready_next : Ready answer.session left
  ready_next = next_ready session rooms bytes place (none pieces) ready all.call_is

  -- it leaves a chip that keeps its rule
  good_next : GoodHeld (held_in answer.session left)
  good_next = next_good session rooms bytes place (none pieces) ready all.call_is good

-- wherever the chip keeps its rule, no answer of the calls that follow has a refusal by 11
pub answers_not_11 : {session : Session} {rooms : Rooms} {bytes : List ℕ} {place : ℕ} {pieces : List (List ℕ)} {written : List ℕ}
    → Ready session rooms → GoodHeld (held_in session rooms) → (calls : CallsOfC session rooms bytes place pieces written) → EachAnswers AnswerNot11 calls
answers_not_11 ready good (adds behind others) = answers_not_11 ready good others
answers_not_11 ready good (moves same others) = answers_not_11 ready good others
answers_not_11 {session} {rooms} {bytes} {place} {pieces} ready good (lists {left = left} {answer = answer} {text = text} call one others) =
    let all = told session rooms bytes place pieces answer left text call (λ none. omega arith) in
    (answer_not_11 ready good all, answers_not_11 (ready_next ready good all) (good_next ready good all) others)
answers_not_11 {session} {rooms} {bytes} {place} {pieces} ready good (waits {left = left} {answer = answer} {text = text} call three others) =
    let all = told session rooms bytes place pieces answer left text call (λ none. omega arith) in
    (answer_not_11 ready good all, answers_not_11 (ready_next ready good all) (good_next ready good all) others)
answers_not_11 {session} {rooms} {bytes} {place} {pieces} ready good (ends {left = left} {answer = answer} {text = text} call two) =
    answer_not_11 ready good (told session rooms bytes place pieces answer left text call (λ none. omega arith))
answers_not_11 {session} {rooms} {bytes} {place} {pieces} ready good (stops {left = left} {answer = answer} {text = text} call four) =
    answer_not_11 ready good (told session rooms bytes place pieces answer left text call (λ none. omega arith))

-- from a zeroed store, no answer of C's calls on a new session has a refusal by 11
pub c_never_11 : {rooms : Rooms} {bytes : List ℕ} {pieces : List (List ℕ)} {written : List ℕ} → Zeroed rooms
    → (calls : CallsOfC (session_of nothing_held) rooms bytes 0 pieces written) → EachAnswers AnswerNot11 calls
c_never_11 {rooms} zeroed calls = answers_not_11 (first_ready zeroed (calls_right (calls_of_c calls).0)) (first_good rooms) calls
