-- What an answer in numbers tells of the session's call behind it. Assumes nothing.
use Prim.Native.Nat.{ℕ, ◌<◌, ◌≤◌}
use mathlib.Core.Path.{◌≡◌, refl, ap, ap₂, sym, ◌∙◌}
use mathlib.Core.Bool.{Bool, not}
use mathlib.Core.List.{List, [], ◌∷◌}
use mathlib.Core.Logic.{◌⊎◌, inl, inr}
use borrow.Author.Tests.{ne_eqb}
use lib.Dec.{eqb}
use lib.ListN.{length, take, drop}
use lib.Seq.{take_at}
use Rattle.rules.specs.Rule.{Outcome, ok, refused}
use Rattle.rules.specs.Faults.{Numbered}
use Rattle.rules.proofs.Cases.{le_or_lt}
use Rattle.session_answers.specs.Status.{Status, text_of}
use Rattle.session.specs.Lent.{Rooms}
use Rattle.session.specs.Step.{Left, session_step}
use Rattle.session.specs.declared.session.Session.{Session}
use Rattle.session_files.specs.Steps.{none}
use Rattle.c_session.specs.Steps.{text_room, status_in_numbers, step_left}
use Rattle.c_session.specs.declared.steps.SteppedNumbers.{SteppedNumbers}
use Rattle.c_session.proofs.Texts.{step_short, step_of_session}
use Rattle.c_files.specs.CallsOfC.{SaysLast, CallOfC}

-- the number says what the pieces say
pub says_none : (last : ℕ) (pieces : List (List ℕ)) → SaysLast last pieces → not (eqb last 0) ≡ none pieces
says_none last [] says = rw (ne_eqb last 0 says) refl
says_none last (piece ∷ pieces) says = rw says refl

module _ (session : Session) (rooms : Rooms) (bytes : List ℕ) (place : ℕ) (pieces : List (List ℕ)) (answer : SteppedNumbers) (left : Rooms) (text : List ℕ) where
  -- the session's call behind an answer, what it came to, the number of that, and its text
  pub record Told : Type 0 where
    pub status : Status
    pub call_is : session_step session rooms bytes place (none pieces) ≡ (((answer.session, answer.next), left), ok status)
    pub number_is : answer.status ≡ (status_in_numbers (ok status)).status
    pub refusal_is : answer.refusal ≡ (status_in_numbers (ok status)).refusal
    pub text_told : text ≡ text_of left.output status

  module _ (call : CallOfC session rooms bytes place pieces answer left text) (done : answer.status ≡ 0 → ⊥) where
    -- a call that isn't refused is lent a text that is long enough
    long_enough : text_room ≤ length call.lent
    long_enough = by (le_or_lt text_room (length call.lent))
      where
        -- one that is too short is refused
        by : (text_room ≤ length call.lent) ⊎ (length call.lent < text_room) → text_room ≤ length call.lent
        by (inl long) = long
        by (inr short) =
            absurd (done (ap (λ (all : SteppedNumbers × (Rooms × List ℕ)). all.0.status) (sym (step_short session rooms call.lent bytes place (not (eqb call.last 0)) short ∙ call.is))))

    -- what the session's call left and came to is in the answer
    answered_so : step_left (session_step session rooms bytes place (none pieces)) call.lent ≡ (answer, (left, call.after))
    answered_so =
        ap (λ (last : Bool). step_left (session_step session rooms bytes place last) call.lent) (sym (says_none call.last pieces call.says_last))
        ∙ step_of_session session rooms call.lent bytes place (not (eqb call.last 0)) long_enough
        ∙ call.is

    -- the answer goes by what the session's call came to
    by_outcome : {outcome : Outcome Numbered Status} → (session_step session rooms bytes place (none pieces)).1 ≡ outcome
        → step_left ((session_step session rooms bytes place (none pieces)).0, outcome) call.lent ≡ (answer, (left, call.after))
    by_outcome e =
        ap (λ (outcome : Outcome Numbered Status). step_left ((session_step session rooms bytes place (none pieces)).0, outcome) call.lent) (sym e) ∙ answered_so

    -- by what the session's call came to
    told_by : (outcome : Outcome Numbered Status) → (session_step session rooms bytes place (none pieces)).1 ≡ outcome → Told
    told_by (ok status) e =
        let all = session_step session rooms bytes place (none pieces) in
        let so : step_left (all.0, ok status) call.lent ≡ (answer, (left, call.after)) = by_outcome e in
        let put : List ℕ = text_of all.0.1.output status in
        let left_is : all.0 ≡ ((answer.session, answer.next), left) = ap (λ (all : SteppedNumbers × (Rooms × List ℕ)). ((all.0.session, all.0.next), all.1.0)) so in
        record {
          status = status;
          call_is = ap₂ (λ (left : Left) (outcome : Outcome Numbered Status). (left, outcome)) left_is e;
          number_is = ap (λ (all : SteppedNumbers × (Rooms × List ℕ)). all.0.status) (sym so);
          refusal_is = ap (λ (all : SteppedNumbers × (Rooms × List ℕ)). all.0.refusal) (sym so);
          text_told =
              sym call.text_is
              ∙ ap (λ (all : SteppedNumbers × (Rooms × List ℕ)). take all.0.text all.1.1) (sym so)
              ∙ take_at put (drop (length put) call.lent) (length put) refl
              ∙ ap (λ (left : Left). text_of left.1.output status) left_is;
        }
    told_by (refused refusal) e = absurd (done (ap (λ (all : SteppedNumbers × (Rooms × List ℕ)). all.0.status) (sym (by_outcome e))))

    -- every call that isn't refused tells all of it
    pub told : Told
    told = told_by (session_step session rooms bytes place (none pieces)).1 refl
