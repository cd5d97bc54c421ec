-- What a step of a session comes to, and what that adds to the listing.
use Rattle.std.specs.Prelude.{ℕ, Bool, true, false, List, []}
use Rattle.rules.specs.Rule.{Outcome, ok, refused}
use Rattle.rules.specs.Faults.{Numbered}
use Rattle.refusals.specs.Refusal.{numbered}
use Rattle.session_listing.specs.Text.{EntrySays, entry_says, text}
use Rattle.session_listing.specs.Text as entry
use Rattle.session_answers.specs.declared.StepAnswer.{StepAnswer}
use Rattle.session_answers.specs.declared.StepAnswer.TheVariants as answer

-- what a step comes to: an entry of the listing, the end, a wait for more bytes, or a fault of the file
pub data Status : Type 0 where
  listed : EntrySays → Status
  ended : Status
  needs_more : Status
  stopped : Numbered → Status

-- its text; a fault of the file is listed too (CHIP 9.5, 9.7)
abbrev pub text_of : List ℕ → Status → List ℕ
text_of output (listed entry) = text entry output
text_of output ended = []
text_of output needs_more = []
text_of output (stopped refusal) = text (entry.says_refused refusal) output

-- the run goes on after it (CHIP 9.5)
abbrev pub goes_on : Status → Bool
goes_on (listed entry) = true
goes_on ended = false
goes_on needs_more = false
goes_on (stopped refusal) = false

-- what a step's answer says: what the step comes to, or the call's refusal
abbrev pub step_outcome : StepAnswer → Outcome Numbered Status
step_outcome (answer.Listed entry) = ok (listed (entry_says entry))
step_outcome answer.End = ok ended
step_outcome answer.More = ok needs_more
step_outcome (answer.Stopped refusal) = ok (stopped (numbered refusal))
step_outcome (answer.Refused refusal) = refused (numbered refusal)
