-- Contracts that give the answer by an equation leave one answer. Assumes nothing.
use mathlib.Core.Path.{◌≡◌, ap, sym, ◌∙◌}
use Rattle.rules.specs.Unique.{OneAnswer, OneOutcome}

module _ {K : Type 0} {Args Answer : K → Type 0} (Exit : K → Type 0) (is : (k : K) → Args k → Answer k) where
  -- a contract that says what the answer is leaves one
  pub by_equation : OneAnswer {Exit = Exit} (λ k args answer exit. answer ≡ is k args)
  by_equation k args answer other exit exit' p q = p ∙ sym q

  -- and so does one that says more of it
  pub by_equation_and : (More : (k : K) → Args k → Answer k → Exit k → Type 0)
      → OneAnswer {Exit = Exit} (λ k args answer exit. (answer ≡ is k args) × More k args answer exit)
  by_equation_and More k args answer other exit exit' p q = p.0 ∙ sym q.0

-- the answer and what lent memory holds at the end, as a pair
pub by_pair : {K : Type 0} {Args Answer : K → Type 0} {Memory : Type 0} (Exit : K → Type 0) (left : (k : K) → Exit k → Memory)
    (is : (k : K) → Args k → Answer k × Memory) → OneOutcome {Exit = Exit} left (λ k args answer exit. (answer, left k exit) ≡ is k args)
by_pair {K} {Args} {Answer} {Memory} Exit left is k args answer other exit exit' p q =
    let e = p ∙ sym q in
    (ap (λ (all : Answer k × Memory). all.0) e, ap (λ (all : Answer k × Memory). all.1) e)

-- the state that an answer hands back and the lent memory, as a pair, and beside them what the answer says
module _ {K : Type 0} {Args Answer : K → Type 0} {State Memory Said : Type 0} (state : (k : K) → Answer k → State) (said : (k : K) → Answer k → Said)
    (same : (k : K) (answer other : Answer k) → state k answer ≡ state k other → said k answer ≡ said k other → answer ≡ other) where
  -- where state and saying make the answer, such an equation leaves one answer
  pub by_saying : (Exit : K → Type 0) (memory : (k : K) → Args k → Memory) (is : (k : K) → Args k → (State × Memory) × Said)
      → OneAnswer {Exit = Exit} (λ k args answer exit. ((state k answer, memory k args), said k answer) ≡ is k args)
  by_saying Exit memory is k args answer other exit exit' p q =
      let e = p ∙ sym q in
      same k answer other (ap (λ (all : (State × Memory) × Said). all.0.0) e) (ap (λ (all : (State × Memory) × Said). all.1) e)

  -- where memory is lent to be changed, such an equation leaves one outcome too
  pub by_outcome : (Exit : K → Type 0) (left : (k : K) → Exit k → Memory) (is : (k : K) → Args k → (State × Memory) × Said)
      → OneOutcome {Exit = Exit} left (λ k args answer exit. ((state k answer, left k exit), said k answer) ≡ is k args)
  by_outcome Exit left is k args answer other exit exit' p q =
      let e = p ∙ sym q in (
        same k answer other (ap (λ (all : (State × Memory) × Said). all.0.0) e) (ap (λ (all : (State × Memory) × Said). all.1) e),
        ap (λ (all : (State × Memory) × Said). all.0.1) e,
      )
