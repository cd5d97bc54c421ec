-- A rule answers, refuses, or asks what a cell holds and goes on by that.
-- R are the refusals that it can give, Q the cells that it can ask for, A its answers.
use Rattle.std.specs.Prelude.{ℕ, ◌≡◌}
use mathlib.Core.List.{List, [], ◌∷◌, Memᴰ}

pub data Rule (R Q A : Type 0) : Type 0 where
  done : A → Rule R Q A
  stop : R → Rule R Q A
  ask : Q → (ℕ → Rule R Q A) → Rule R Q A

-- what comes of a rule: its answer or its refusal
pub data Outcome (R A : Type 0) : Type 0 where
  ok : A → Outcome R A
  refused : R → Outcome R A

module _ {R Q A : Type 0} where
  -- the outcome where the cells hold what the memory says
  abbrev pub run : (Q → ℕ) → Rule R Q A → Outcome R A
  run memory (done answer) = ok answer
  run memory (stop refusal) = refused refusal
  run memory (ask cell next) = run memory (next (memory cell))

  -- the cells asked for, in order
  abbrev pub reads : (Q → ℕ) → Rule R Q A → List Q
  reads memory (done answer) = []
  reads memory (stop refusal) = []
  reads memory (ask cell next) = cell ∷ reads memory (next (memory cell))

-- two memories hold the same in each of these cells
abbrev pub Agree : {Q : Type 0} → (Q → ℕ) → (Q → ℕ) → List Q → Type 0
Agree {Q} memory other cells = (cell : Q) → Memᴰ cell cells → memory cell ≡ other cell

-- the rule that answers what a cell holds
abbrev pub get : {R Q : Type 0} → Q → Rule R Q ℕ
get cell = ask cell done

module _ {R Q A B : Type 0} where
  infixl 20 ◌>>=◌
  -- one rule and then another, which goes by the answer of the first; a refusal ends both. `do` stands for it
  abbrev pub ◌>>=◌ : Rule R Q A → (A → Rule R Q B) → Rule R Q B
  done answer >>= after = after answer
  stop refusal >>= after = stop refusal
  ask cell next >>= after = ask cell (λ held. next held >>= after)

module _ {R S P Q A : Type 0} (name : R → S) (into : P → Q) where
  -- a rule over few refusals and few cells, taken into more of both
  abbrev pub within : Rule R P A → Rule S Q A
  within (done answer) = done answer
  within (stop refusal) = stop (name refusal)
  within (ask cell next) = ask (into cell) (λ held. within (next held))

module _ {R A : Type 0} where
  -- what follows an answer; a refusal stays
  abbrev pub and_then : {B : Type 0} → Outcome R A → (A → Outcome R B) → Outcome R B
  and_then (ok answer) after = after answer
  and_then (refused refusal) after = refused refusal

module _ {Q A : Type 0} where
  -- the answer of a rule that has no refusals
  abbrev pub value : (Q → ℕ) → Rule ⊥ Q A → A
  value memory (done answer) = answer
  value memory (stop refusal) = absurd refusal
  value memory (ask cell next) = value memory (next (memory cell))
