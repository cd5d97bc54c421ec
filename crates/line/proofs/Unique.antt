-- No second answer meets the contract of a line, and no line leaves another output. Assumes nothing.
use mathlib.Core.Path.{ap, ◌∙◌}
use Rattle.rules.specs.Unique.{OneOutcome}
use Rattle.rules.proofs.Unique.{by_outcome}
use Rattle.refusals.specs.declared.Refusal.{Refusal}
use Rattle.refusals.specs.Refusal.{outcome_of}
use Rattle.refusals.proofs.Known.{answer_known}
use Rattle.std.specs.Prelude.{Result}
use Rattle.chip.specs.declared.state.State.{State}
use Rattle.chip.specs.declared.answered.Answered.{Answered}
use Rattle.line.proofs.draw.draw.Reads as draw

-- one state, output and answer of a drawn line
pub draw_unique : OneOutcome (λ k exit. exit.1.1.1.1.1.0.now) draw.Post
draw_unique =
    by_outcome (λ k (r : Answered (Unit {0})). r.state) (λ k (r : Answered (Unit {0})). outcome_of r.answer)
    (λ k (r : Answered (Unit {0})) (r' : Answered (Unit {0})) states says.
    ap (λ (state : State). record { state = state; answer = r.answer }) states
    ∙ ap (λ (answer : Result (Unit {0}) Refusal). record { state = r'.state; answer = answer }) (answer_known r.answer r'.answer says))
    _ (λ k exit. exit.1.1.1.1.1.0.now) _
