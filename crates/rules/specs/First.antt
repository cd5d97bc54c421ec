-- The first of some numbered cells that passes a test.
use Rattle.std.specs.Prelude.{ℕ, zero, suc, Bool, cond}
use Rattle.rules.specs.Rule.{Rule, done, stop, ask}

module _ {R Q : Type 0} (missing : R) (cell : ℕ → Q) (passes : ℕ → Bool) where
  -- the number of the first of `count` cells, from the one at `from` on, that passes; where none does, the refusal `missing`
  abbrev pub first_from : ℕ → ℕ → Rule R Q ℕ
  first_from zero from = stop missing
  first_from (suc count) from = ask (cell from) (λ held. let rest = first_from count (suc from) in cond (passes held) (done from) rest)
