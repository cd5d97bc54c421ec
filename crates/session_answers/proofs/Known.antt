-- An answer is known by what it says. Assumes nothing.
use mathlib.Core.Path.{◌≡◌, refl, ap, sym, ◌∙◌}
use Rattle.rules.specs.Rule.{Outcome, ok, refused}
use Rattle.rules.specs.Faults.{Numbered}
use Rattle.refusals.proofs.Known.{refusal_of, known}
use Rattle.session_listing.specs.Text.{EntrySays, entry_says}
use Rattle.session_listing.specs.Text as text
use Rattle.session_listing.specs.declared.entry.ListingEntry.{ListingEntry}
use Rattle.session_listing.specs.declared.entry.ListingEntry.TheVariants as entry
use Rattle.session_answers.specs.Status.{Status, listed, ended, needs_more, stopped, step_outcome}
use Rattle.session_answers.specs.declared.StepAnswer.{StepAnswer}
use Rattle.session_answers.specs.declared.StepAnswer.TheVariants as answer

-- the entry that says so
abbrev entry_of : EntrySays → ListingEntry
entry_of text.says_ok = entry.Ok
entry_of (text.says_at x y) = entry.At x y
entry_of (text.says_line y width) = entry.Line y width
entry_of (text.says_refused refusal) = entry.Refused (refusal_of refusal)

-- an entry is known by what it says
entry_back : (entry : ListingEntry) → entry_of (entry_says entry) ≡ entry
entry_back entry.Ok = refl
entry_back (entry.At x y) = refl
entry_back (entry.Line y width) = refl
entry_back (entry.Refused refusal) = ap entry.Refused (known refusal)

-- the answer that says so
abbrev answer_of : Outcome Numbered Status → StepAnswer
answer_of (ok (listed entry)) = answer.Listed (entry_of entry)
answer_of (ok ended) = answer.End
answer_of (ok needs_more) = answer.More
answer_of (ok (stopped refusal)) = answer.Stopped (refusal_of refusal)
answer_of (refused refusal) = answer.Refused (refusal_of refusal)

-- an answer is known by what it says
back : (answer : StepAnswer) → answer_of (step_outcome answer) ≡ answer
back (answer.Listed entry) = ap answer.Listed (entry_back entry)
back answer.End = refl
back answer.More = refl
back (answer.Stopped refusal) = ap answer.Stopped (known refusal)
back (answer.Refused refusal) = ap answer.Refused (known refusal)

-- two answers that say the same are the same
pub step_answer_known : (answer other : StepAnswer) → step_outcome answer ≡ step_outcome other → answer ≡ other
step_answer_known answer other says = sym (back answer) ∙ ap answer_of says ∙ back other
