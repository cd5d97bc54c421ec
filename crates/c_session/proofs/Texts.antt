-- A step's text: the fault of one that is too short comes last, and one that is long enough holds every entry. Assumes nothing.
use Prim.Native.Nat.{ℕ, ◌+◌, ◌<◌, ◌≤◌}
use mathlib.Core.Path.{◌≡◌, refl, sym, ap, ◌∙◌}
use mathlib.Core.Bool.{Bool, true, false, cond}
use mathlib.Core.List.{List, [], ◌∷◌}
use native.Mathlib.Nat.{zero-add}
use native.Mathlib.Omega.{arith}
use borrow.Author.Tests.{lt-ltb, le-ltb, le-leb}
use lib.ListN.{length}
use Rattle.rules.specs.Rule.{Outcome, ok, refused}
use Rattle.rules.specs.Faults.{Numbered, Fault}
use Rattle.rules.specs.Checked.{verdict}
use Rattle.rules.proofs.Last.{first_or, last_clear, last_holds}
use Rattle.c_numbers.specs.Numbers.{refused_by}
use Rattle.session_listing.specs.Text.{EntrySays, text}
use Rattle.session_listing.specs.Text as entry
use Rattle.session_listing.specs.Room.{room_for}
use Rattle.session_listing.proofs.Fits.{shown_short}
use Rattle.session_answers.specs.Status.{Status, listed, ended, needs_more, stopped}
use Rattle.session_rooms.specs.Rooms.{longest_line}
use Rattle.session.specs.Lent.{Rooms, laid}
use Rattle.session.specs.Step.{step_faults, Left, after_step, session_step}
use Rattle.session.specs.declared.session.Session.{Session}
use Rattle.session.proofs.Stepping.{answered_fitted}
use Rattle.c_session.specs.Steps.{text_room, short_text, text_fault, status_in_numbers, text_by, step_answer, step_left, step_in_numbers}
use Rattle.c_session.specs.Inner.{put_entry, put_text, or_text}
use Rattle.c_session.specs.declared.steps.SteppedNumbers.{SteppedNumbers}

-- by its test a fault comes first, or what comes of the others
by_fault : (test : Bool) (one other : Numbered) (rest : Outcome Numbered (Unit {0})) → or_text rest ≡ refused_by other
    → or_text (cond test (refused one) rest) ≡ refused_by (cond test one other)
by_fault true one other rest e = refl
by_fault false one other rest e = e

-- the refusal by the rooms, or else by the text, is the first of all faults
by_rooms_or_text : (faults : List Fault) → or_text (verdict faults) ≡ refused_by (first_or faults short_text)
by_rooms_or_text [] = refl
by_rooms_or_text (fault ∷ faults) = by_fault fault.holds fault.refusal (first_or faults short_text) (verdict faults) (by_rooms_or_text faults)

module _ (output lent : List ℕ) (long : text_room ≤ length lent) where
  -- in a text long enough an entry has room
  entry_put : (entry : EntrySays) → length output ≤ longest_line → put_entry entry output lent ≡ (length (text entry output), laid lent (text entry output))
  entry_put entry short =
      rw (le-leb (0 + room_for entry output) (length lent) (omega (arith, shown_short entry output, short, long)), zero-add (length (text entry output))) refl

  -- in a text long enough there is room for whatever a call comes to
  text_put : (outcome : Outcome Numbered Status) → ((status : Status) → outcome ≡ ok status → length output ≤ longest_line)
      → put_text outcome output lent ≡ (length (text_by outcome output), laid lent (text_by outcome output))
  text_put (ok (listed entry)) short = entry_put entry (short (listed entry) refl)
  text_put (ok ended) short = refl
  text_put (ok needs_more) short = refl
  text_put (ok (stopped refusal)) short = entry_put (entry.says_refused refusal) (short (stopped refusal) refl)
  text_put (refused refusal) short = refl

module _ (session : Session) (rooms : Rooms) (lent bytes : List ℕ) (place : ℕ) (last : Bool) where
  -- with a text too short a step is refused
  pub step_short : length lent < text_room
      → ◌≡◌ {A = SteppedNumbers × (Rooms × List ℕ)}
      (step_answer (session, place) (record { status = 0; refusal = or_text (verdict (step_faults session rooms)) }) 0, (rooms, lent))
      (step_in_numbers session rooms lent bytes place last)
  unfolding step_in_numbers
  step_short short =
      rw (by_rooms_or_text (step_faults session rooms))
      (ap (λ (all : Left × Outcome Numbered Status). step_left all lent)
      (sym (last_holds ((session, place), rooms) (after_step session rooms bytes place last) (step_faults session rooms) (text_fault (length lent)) (lt-ltb (length lent) text_room short))))

  -- with a text long enough it is the session's step, with its text in front
  pub step_of_session : text_room ≤ length lent → step_left (session_step session rooms bytes place last) lent ≡ step_in_numbers session rooms lent bytes place last
  unfolding step_in_numbers session_step
  step_of_session long =
      ap (λ (all : Left × Outcome Numbered Status). step_left all lent)
      (sym (last_clear ((session, place), rooms) (after_step session rooms bytes place last) (step_faults session rooms) (text_fault (length lent)) (le-ltb (length lent) text_room long)))

  -- a step and its text, from what the session's step and the putting of its text left, with the session after it
  pub step_made : {next : Session} {left : Left × Outcome Numbered Status} {put : ℕ × List ℕ} → next ≡ left.0.0.0 → left ≡ session_step session rooms bytes place last
      → put ≡ put_text left.1 left.0.1.output lent → length left.0.1.output ≡ length rooms.output → text_room ≤ length lent
      → ◌≡◌ {A = SteppedNumbers × (Rooms × List ℕ)}
      (step_answer (next, left.0.0.1) (status_in_numbers left.1) put.0, (left.0.1, put.1))
      (step_in_numbers session rooms lent bytes place last)
  step_made {next} {left} {put} is stepped text_is same long =
      ap (λ (session : Session). (step_answer (session, left.0.0.1) (status_in_numbers left.1) put.0, (left.0.1, put.1))) is
      ∙ ap (λ (one : ℕ × List ℕ). (step_answer left.0.0 (status_in_numbers left.1) one.0, (left.0.1, one.1)))
      (text_is
      ∙ text_put left.0.1.output lent long left.1
      (λ status e. omega (arith, same, (answered_fitted session rooms bytes place last (ap (λ (all : Left × Outcome Numbered Status). all.1) (sym stepped) ∙ e)).output_long)))
      ∙ ap (λ (all : Left × Outcome Numbered Status). step_left all lent) stepped
      ∙ step_of_session long
