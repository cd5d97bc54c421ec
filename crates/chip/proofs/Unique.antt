-- No second answer meets a contract of this crate, and none leaves another store. Assumes nothing.
use Prim.Native.Nat.{ℕ}
use mathlib.Core.Path.{◌≡◌, ap, sym, ◌∙◌}
use mathlib.Core.List.{List}
use Rattle.std.specs.Prelude.{Option, Result}
use Rattle.rules.specs.Rule.{Outcome}
use Rattle.rules.specs.Faults.{Numbered}
use Rattle.rules.specs.Unique.{OneAnswer, OneOutcome}
use Rattle.rules.proofs.Unique.{by_equation, by_saying, by_outcome}
use Rattle.refusals.specs.Refusal.{outcome_of}
use Rattle.refusals.specs.declared.Refusal.{Refusal}
use Rattle.refusals.proofs.Known.{answer_known}
use Rattle.chip_timing.specs.declared.Signals.{Signals}
use Rattle.chip.specs.Call.{Chip}
use Rattle.chip.specs.Change.{changed_by, Tells}
use Rattle.chip.specs.declared.state.State.{State}
use Rattle.chip.specs.declared.change.Change.{Change}
use Rattle.chip.specs.declared.answered.Answered.{Answered}
use Rattle.chip.specs.declared.answered.ChangeAnswered.{ChangeAnswered}
use Rattle.chip.proofs.Changes.{change_known}
use Rattle.chip.proofs.state.State.new.Reads as new
use Rattle.chip.proofs.state.State.unchanged.Reads as unchanged
use Rattle.chip.proofs.state.State.beside_queue.Reads as beside_queue
use Rattle.chip.proofs.state.State.queue_changed.Reads as queue_changed
use Rattle.chip.proofs.state.State.changed.Reads as changed
use Rattle.chip.proofs.state.State.write_change.Reads as write_change
use Rattle.chip.proofs.state.State.dot_change.Reads as dot_change
use Rattle.chip.proofs.state.State.dots_change.Reads as dots_change
use Rattle.chip.proofs.state.State.good.Reads as good
use Rattle.chip.proofs.state.State.write.Reads as write
use Rattle.chip.proofs.state.State.read.Reads as read
use Rattle.chip.proofs.state.State.dot.Reads as dot
use Rattle.chip.proofs.state.State.dots.Reads as dots

-- one state is fresh
pub new_unique : OneAnswer new.Post
new_unique = by_equation _ _

-- one answer says whether a state keeps its rule
pub good_unique : OneAnswer good.Post
good_unique = by_equation _ _

-- one change leaves a state as it is
pub unchanged_unique : OneAnswer unchanged.Post
unchanged_unique = by_equation _ _

-- one state is left by what becomes of a queue
pub queue_changed_unique : OneAnswer queue_changed.Post
queue_changed_unique = by_equation _ _

-- one state is left by a change where the queue stays
pub beside_queue_unique : OneAnswer beside_queue.Post
beside_queue_unique = by_equation _ _

-- one state is left by a change
pub changed_unique : OneAnswer changed.Post
changed_unique = by_equation _ _

-- ---- an answer is known by what it says

-- the state and what the answer says make the whole of what a call hands back
same_answered : {A : Type 0} (one other : Answered A) → one.state ≡ other.state → outcome_of one.answer ≡ outcome_of other.answer → one ≡ other
same_answered {A} one other states says =
    ap (λ (state : State). record { state = state; answer = one.answer }) states
    ∙ ap (λ (answer : Result A Refusal). record { state = other.state; answer = answer }) (answer_known one.answer other.answer says)

-- a change that says no more than it does makes, with an answer and a store, what a call comes to
abbrev Makes : {A : Type 0} → State → ChangeAnswered A → List ℕ → Chip × Outcome Numbered A → Type 0
Makes before made store all = (((changed_by before made.change, store), outcome_of made.answer) ≡ all) × Tells before.queue made.change.queue

-- the change and what the answer says make the whole of what a call changes
same_change : {A : Type 0} (before : State) (one other : ChangeAnswered A) {store store' : List ℕ} {all : Chip × Outcome Numbered A}
    → Makes before one store all → Makes before other store' all → (one ≡ other) × (store ≡ store')
same_change {A} before one other {store} {store'} {all} makes makes' =
    let is = makes.0 ∙ sym makes'.0 in (
      ap (λ (change : Change). record { change = change; answer = one.answer })
          (change_known before one.change other.change makes.1 makes'.1 (ap (λ (after : Chip × Outcome Numbered A). after.0.0) is))
          ∙ ap (λ (answer : Result A Refusal). record { change = other.change; answer = answer })
          (answer_known one.answer other.answer (ap (λ (after : Chip × Outcome Numbered A). after.1) is)),
      ap (λ (after : Chip × Outcome Numbered A). after.0.1) is,
    )

-- ---- write

-- a write has one answer and leaves one store
pub write_unique : OneOutcome (λ k exit. exit.1.0.now) write.Post
write_unique =
    by_outcome (λ k (r : Answered (Unit {0})). r.state) (λ k (r : Answered (Unit {0})). outcome_of r.answer) (λ k. same_answered) _ (λ k exit. exit.1.0.now) _

-- what a write changes is one change, with one answer and one store
pub write_change_unique : OneOutcome (λ k exit. exit.1.0.now) write_change.Post
write_change_unique k args one other exit exit' = same_change args.0 one other

-- ---- read

-- a read has one answer
pub read_unique : OneAnswer read.Post
read_unique = by_saying (λ k (r : Answered ℕ). r.state) (λ k (r : Answered ℕ). outcome_of r.answer) (λ k. same_answered) _ _ _

-- ---- dots

-- a dot has one answer and leaves one store
pub dot_unique : OneOutcome (λ k exit. exit.1.0.now) dot.Post
dot_unique =
    by_outcome (λ k (r : Answered (Option Signals)). r.state) (λ k (r : Answered (Option Signals)). outcome_of r.answer) (λ k. same_answered) _ (λ k exit. exit.1.0.now) _

-- so many dots have one answer and leave one store
pub dots_unique : OneOutcome (λ k exit. exit.1.0.now) dots.Post
dots_unique =
    by_outcome (λ k (r : Answered (Option Signals)). r.state) (λ k (r : Answered (Option Signals)). outcome_of r.answer) (λ k. same_answered) _ (λ k exit. exit.1.0.now) _

-- what a dot changes is one change, with one answer and one store
pub dot_change_unique : OneOutcome (λ k exit. exit.1.0.now) dot_change.Post
dot_change_unique k args one other exit exit' = same_change args.0 one other

-- what so many dots change is one change, with one answer and one store
pub dots_change_unique : OneOutcome (λ k exit. exit.1.0.now) dots_change.Post
dots_change_unique k args one other exit exit' = same_change args.0 one other
