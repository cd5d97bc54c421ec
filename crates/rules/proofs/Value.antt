-- Rules without refusals: their values, put together as the rules are, and which cells they read. Assumes nothing.
use Prim.Native.Nat.{ℕ}
use mathlib.Core.Path.{◌≡◌, refl, subst}
use mathlib.Core.Logic.{◌⊎◌, inl, inr}
use Rattle.rules.specs.Rule.{Rule, done, stop, ask, ok, run, reads, ◌>>=◌, within, value}
use Rattle.rules.proofs.Lists.{Among}
use Rattle.rules.proofs.Parts.{Read, by_first, by_second, read_either, either_read}
use Rattle.rules.proofs.Asks.{NeverRefuses}

module _ {Q A B : Type 0} (memory : Q → ℕ) where
  -- the value of one rule and then another
  pub value_then : (rule : Rule ⊥ Q A) (after : A → Rule ⊥ Q B) → value memory (rule >>= after) ≡ value memory (after (value memory rule))
  value_then (done answer) after = refl
  value_then (stop refusal) after = absurd refusal
  value_then (ask cell next) after = value_then (next (memory cell)) after

module _ {Q A : Type 0} (memory : Q → ℕ) where
  -- the outcome is the value
  pub run_value : (rule : Rule ⊥ Q A) → run memory rule ≡ ok (value memory rule)
  run_value (done answer) = refl
  run_value (stop refusal) = absurd refusal
  run_value (ask cell next) = run_value (next (memory cell))

module _ {S P Q A : Type 0} (name : ⊥ → S) (into : P → Q) where
  -- taken into more cells and refusals, the outcome is the value
  pub run_within_value : (memory : Q → ℕ) (rule : Rule ⊥ P A) → run memory (within name into rule) ≡ ok (value (λ cell. memory (into cell)) rule)
  run_within_value memory (done answer) = refl
  run_within_value memory (stop refusal) = absurd refusal
  run_within_value memory (ask cell next) = run_within_value memory (next (memory (into cell)))

  -- a rule without refusals refuses nothing when it is taken into more
  pub never_within : (rule : Rule ⊥ P A) → NeverRefuses (within name into rule)
  never_within (done answer) = tt
  never_within (stop refusal) = absurd refusal
  never_within (ask cell next) = λ held. never_within (next held)

module _ {Q A B : Type 0} (memory : Q → ℕ) (rule : Rule ⊥ Q A) (after : A → Rule ⊥ Q B) {cell : Q} where
  -- what one rule and then another read, the first reads, or the second by the value of the first
  pub read_value : Among cell (reads memory (rule >>= after)) → Among cell (reads memory rule) ⊎ Among cell (reads memory (after (value memory rule)))
  read_value here = by (read_either memory rule after here)
    where
      -- the answer of the first is its value
      by : Read memory rule after cell → Among cell (reads memory rule) ⊎ Among cell (reads memory (after (value memory rule)))
      by (by_first there) = inl there
      by (by_second first found there) =
          let is : first ≡ value memory rule = cc (found, run_value memory rule) in inr (subst (λ (a : A). Among cell (reads memory (after a))) is there)

  -- what the first reads, or the second by the value of the first, the two read
  pub value_read : Among cell (reads memory rule) ⊎ Among cell (reads memory (after (value memory rule))) → Among cell (reads memory (rule >>= after))
  value_read (inl there) = either_read memory rule after (by_first there)
  value_read (inr there) = either_read memory rule after (by_second (value memory rule) (run_value memory rule) there)
