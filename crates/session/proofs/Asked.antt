-- After a record that asked the chip. Assumes nothing.
use Prim.Native.Nat.{ℕ, ◌+◌}
use mathlib.Core.Path.{◌≡◌, ap, sym, subst, ◌∙◌}
use mathlib.Core.List.{List}
use Rattle.rules.specs.Rule.{Outcome, ok}
use Rattle.rules.specs.Faults.{Numbered}
use Rattle.chip.specs.Change.{changed_by, Tells}
use Rattle.chip.specs.Call.{Chip}
use Rattle.chip.specs.declared.state.State.{State}
use Rattle.chip.specs.declared.change.Change.{Change}
use Rattle.session_listing.specs.Text.{EntrySays, entry_says}
use Rattle.session_listing.specs.declared.entry.ListingEntry.{ListingEntry}
use Rattle.session_answers.specs.Status.{listed, step_outcome}
use Rattle.session_rooms.specs.declared.Counts.{Counts}
use Rattle.line.specs.Cells.{Lent}
use Rattle.line.specs.Drawn.{drawn}
use Rattle.line.specs.declared.request.Request.{Request}
use Rattle.session.specs.Record.{entry_of}
use Rattle.session.specs.Done.{session_with}
use Rattle.session.specs.Inner.{left_by, listed_as, asked_in}
use Rattle.session.specs.declared.acts.Acted.{Acted}

-- what a call changed and answered is what is asked for
pub asked_by : {A : Type 0} (state : State) (counts : Counts) (records : ℕ) (entry : EntrySays) (change : Change) (words : List ℕ) (answer : Outcome Numbered A) (after : Chip × Outcome Numbered A)
    {shown : ListingEntry} {left : Acted}
    → left ≡ listed_as change counts records shown → (((changed_by state change, words), answer) ≡ after) × Tells state.queue change.queue → entry_says shown ≡ entry_of entry answer
    → (((left_by state left, words), step_outcome left.answer) ≡ asked_in (session_with state counts records) entry after) × Tells state.queue left.change.queue
asked_by {A} state counts records entry change words answer after left_is after_is shown_is = (
  ap (λ (left : Acted). ((left_by state left, words), step_outcome left.answer)) left_is
      ∙ ap (λ (shown : EntrySays). ((session_with (changed_by state change) counts (records + 1), words), ok (listed shown))) shown_is
      ∙ ap (λ (after : Chip × Outcome Numbered A). asked_in (session_with state counts records) entry after) after_is.0,
  subst (λ (left : Acted). Tells state.queue left.change.queue) (sym left_is) after_is.1,
)

-- a line hands the state back as it was
pub handed_back : (request : Request) (lent : Lent) (output : List ℕ) {state : State} {words : List ℕ} {answer : Outcome Numbered (Unit {0})}
    → ((state, words), answer) ≡ drawn request lent output → ((request.state, words), answer) ≡ drawn request lent output
unfolding drawn
handed_back request lent output {state} {words} {answer} is =
    ap (λ (state : State). ((state, words), answer)) (sym (ap (λ (after : (State × List ℕ) × Outcome Numbered (Unit {0})). after.0.0) is)) ∙ is
