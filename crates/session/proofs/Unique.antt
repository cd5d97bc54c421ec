-- No second answer meets a contract of this crate, and no step leaves other rooms. Assumes nothing.
use Prim.Native.Nat.{ℕ}
use mathlib.Core.Path.{ap, sym, ◌∙◌}
use Rattle.rules.specs.Rule.{Outcome}
use Rattle.rules.specs.Faults.{Numbered}
use Rattle.rules.specs.Unique.{OneAnswer, OneOutcome}
use Rattle.rules.proofs.Unique.{by_equation, by_outcome}
use Rattle.chip.specs.declared.change.Change.{Change}
use Rattle.chip.proofs.Changes.{change_known}
use Rattle.session_answers.specs.Status.{Status, step_outcome}
use Rattle.session_answers.specs.declared.StepAnswer.{StepAnswer}
use Rattle.session_answers.proofs.Known.{step_answer_known}
use Rattle.session.specs.Lent.{rooms_of}
use Rattle.session.specs.Step.{Left}
use Rattle.session.specs.declared.session.Session.{Session}
use Rattle.session.specs.declared.step.Stepped.{Stepped}
use Rattle.session.proofs.session.Session.new.Reads as new
use Rattle.session.proofs.step.record_step.Reads as record_step
use Rattle.session.proofs.step.step.Reads as step

-- one session alone meets the contract of `new`
pub new_unique : OneAnswer new.Post
new_unique = by_equation _ _

-- one answer, with one session, place and rooms, meets the contract of `step`
pub step_unique : OneOutcome
    (λ k exit. rooms_of exit.1.1.1.1.0.now exit.1.1.1.1.1.0.now exit.1.1.1.1.1.1.0.now exit.1.1.1.1.1.1.1.0.now exit.1.1.1.1.1.1.1.1.0.now)
    step.Post
step_unique =
    by_outcome (λ k (r : Stepped). (r.session, r.place)) (λ k (r : Stepped). step_outcome r.answer)
    (λ k (r : Stepped) (r' : Stepped) lefts says.
    ap (λ (left : Session × ℕ). record { session = left.0; place = left.1; answer = r.answer }) lefts
    ∙ ap (λ (answer : StepAnswer). record { session = r'.session; place = r'.place; answer = answer }) (step_answer_known r.answer r'.answer says))
    _
    (λ k exit. rooms_of exit.1.1.1.1.0.now exit.1.1.1.1.1.0.now exit.1.1.1.1.1.1.0.now exit.1.1.1.1.1.1.1.0.now exit.1.1.1.1.1.1.1.1.0.now)
    _

-- what a step changes is one change, with one place, one answer and one set of rooms
pub record_step_unique : OneOutcome
    (λ k exit. rooms_of exit.1.1.1.1.1.1.0.now exit.1.1.1.1.1.1.1.0.now exit.1.1.1.1.1.1.1.1.0.now exit.1.1.1.1.1.1.1.1.1.0.now exit.1.1.1.1.1.1.1.1.1.1.0.now)
    record_step.Post
record_step_unique k args one other exit exit' meets meets' =
    let is = meets.0 ∙ sym meets'.0 in
    let change = change_known args.0 one.change other.change meets.1 meets'.1 (ap (λ (after : Left × Outcome Numbered Status). after.0.0.0.state) is) in
    let answer = step_answer_known one.answer other.answer (ap (λ (after : Left × Outcome Numbered Status). after.1) is) in (
      ap (λ (change : Change). record { change = change; counts = one.counts; records = one.records; place = one.place; answer = one.answer }) change
          ∙ ap (λ (after : Left × Outcome Numbered Status). record { change = other.change; counts = after.0.0.0.counts; records = after.0.0.0.records; place = after.0.0.1; answer = one.answer }) is
          ∙ ap (λ (answer : StepAnswer). record { change = other.change; counts = other.counts; records = other.records; place = other.place; answer = answer }) answer,
      ap (λ (after : Left × Outcome Numbered Status). after.0.1) is,
    )
