-- What an answer adds to the listing, and whether the run is over with it, is what the listing says. Assumes nothing.
use Prim.Native.Nat.{ℕ}
use mathlib.Core.Path.{◌≡◌, refl, ap, sym}
use mathlib.Core.Bool.{false, not}
use mathlib.Core.List.{List, []}
use Rattle.std.specs.Prelude.{Option, Some, None}
use Rattle.rules.specs.Rule.{Outcome, ok, refused}
use Rattle.rules.specs.Faults.{Numbered}
use Rattle.rules.proofs.Cases.{impossible}
use Rattle.session_listing.specs.Text.{entry_says, text}
use Rattle.session_listing.specs.declared.entry.ListingEntry.{ListingEntry}
use Rattle.session_answers.specs.Status.{Status, needs_more, text_of, goes_on, step_outcome}
use Rattle.session_answers.specs.Answers.{adds, over}
use Rattle.session_answers.specs.declared.StepAnswer.{StepAnswer}
use Rattle.session_answers.specs.declared.StepAnswer.TheVariants as answer

-- what an answer comes to, where it is no refusal
abbrev pub status_of : Status → Outcome Numbered Status → Status
status_of other (ok status) = status
status_of other (refused refusal) = other

-- the text of what an answer adds
abbrev added_text : List ℕ → Option ListingEntry → List ℕ
added_text output (Some entry) = text (entry_says entry) output
added_text output None = []

-- an answer that is no refusal of the call adds the text of what the step comes to
pub adds_text : (output : List ℕ) (answer : StepAnswer) {status : Status} → step_outcome answer ≡ ok status → added_text output (adds answer) ≡ text_of output status
adds_text output (answer.Listed entry) is = ap (λ (outcome : Outcome Numbered Status). text_of output (status_of needs_more outcome)) is
adds_text output answer.End is = ap (λ (outcome : Outcome Numbered Status). text_of output (status_of needs_more outcome)) is
adds_text output answer.More is = ap (λ (outcome : Outcome Numbered Status). text_of output (status_of needs_more outcome)) is
adds_text output (answer.Stopped refusal) is = ap (λ (outcome : Outcome Numbered Status). text_of output (status_of needs_more outcome)) is
adds_text output (answer.Refused refusal) is = impossible cc

-- the run is over with an answer exactly where the listing doesn't go on, unless it waits for more bytes
pub over_goes : (answer : StepAnswer) {status : Status} → step_outcome answer ≡ ok status → (status ≡ needs_more → ⊥) → over answer ≡ not (goes_on status)
over_goes (answer.Listed entry) is going = ap (λ (outcome : Outcome Numbered Status). not (goes_on (status_of needs_more outcome))) is
over_goes answer.End is going = ap (λ (outcome : Outcome Numbered Status). not (goes_on (status_of needs_more outcome))) is
over_goes answer.More is going = absurd (going (ap (status_of needs_more) (sym is)))
over_goes (answer.Stopped refusal) is going = ap (λ (outcome : Outcome Numbered Status). not (goes_on (status_of needs_more outcome))) is
over_goes (answer.Refused refusal) is going = impossible cc

-- an answer that waits adds nothing, and the run isn't over with it
pub waits_adds : (answer : StepAnswer) → step_outcome answer ≡ ok needs_more → (adds answer ≡ None) × (over answer ≡ false)
waits_adds (answer.Listed entry) is = impossible cc
waits_adds answer.End is = impossible cc
waits_adds answer.More is = (refl, refl)
waits_adds (answer.Stopped refusal) is = impossible cc
waits_adds (answer.Refused refusal) is = impossible cc
