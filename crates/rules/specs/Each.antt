-- A rule at each of some positions, left to right, up to the first refusal.
use Rattle.std.specs.Prelude.{ℕ, zero, suc, List, [], ◌∷◌}
use Rattle.rules.specs.Rule.{Rule, done, ◌>>=◌}

module _ {R Q A : Type 0} where
  -- the answers at `from`, `from` + 1, .., as many as `count`, or the first refusal
  abbrev pub each : (ℕ → Rule R Q A) → ℕ → ℕ → Rule R Q (List A)
  each rule zero from = done []
  each rule (suc count) from = do
    answer ← rule from
    answers ← each rule count (suc from)
    done (answer ∷ answers)

  -- a second pass: a rule for each of the values found, which stand at `from`, `from` + 1, ..
  abbrev pub each_of : {B : Type 0} → (B → ℕ → Rule R Q A) → List B → ℕ → Rule R Q (List A)
  each_of rule [] from = done []
  each_of rule (found ∷ others) from = do
    answer ← rule found from
    answers ← each_of rule others (suc from)
    done (answer ∷ answers)
