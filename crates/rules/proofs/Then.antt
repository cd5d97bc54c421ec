-- Rules put together: one after another, by a test, and within a larger kind of cell. Assumes nothing.
use Prim.Native.Nat.{ℕ}
use mathlib.Core.Bool.{Bool, true, false, cond}
use mathlib.Core.Path.{◌≡◌, refl, ap, ◌∙◌}
use mathlib.Core.List.{List, [], ◌∷◌, ◌++◌, append-nil}
use Rattle.rules.specs.Rule.{Rule, done, stop, ask, Outcome, ok, refused, run, reads, ◌>>=◌, and_then, within}

module _ {R A : Type 0} where
  -- what an answer leads to read; a refusal reads nothing more
  abbrev pub and_then_reads : {Q : Type 0} → Outcome R A → (A → List Q) → List Q
  and_then_reads (ok answer) after = after answer
  and_then_reads (refused refusal) after = []

  -- an outcome under other names for its refusals
  abbrev pub renamed : {S : Type 0} → (R → S) → Outcome R A → Outcome S A
  renamed name (ok answer) = ok answer
  renamed name (refused refusal) = refused (name refusal)

module _ {R Q A B : Type 0} (memory : Q → ℕ) where
  -- the outcome of one rule and then another
  pub run_then : (rule : Rule R Q A) (after : A → Rule R Q B) → run memory (rule >>= after) ≡ and_then (run memory rule) (λ a. run memory (after a))
  run_then (done answer) after = refl
  run_then (stop refusal) after = refl
  run_then (ask cell on) after = run_then (on (memory cell)) after

  -- what the two read
  pub reads_then : (rule : Rule R Q A) (after : A → Rule R Q B)
      → reads memory (rule >>= after) ≡ reads memory rule ++ and_then_reads (run memory rule) (λ a. reads memory (after a))
  reads_then (done answer) after = refl
  reads_then (stop refusal) after = refl
  reads_then (ask cell on) after = ap (λ (cells : List Q). cell ∷ cells) (reads_then (on (memory cell)) after)

  module _ (rule : Rule R Q A) (after : A → Rule R Q B) where
    -- the first answers: the outcome is the second one's
    pub run_ok : {answer : A} → run memory rule ≡ ok answer → run memory (rule >>= after) ≡ run memory (after answer)
    run_ok e = run_then rule after ∙ ap (λ (o : Outcome R A). and_then o (λ a. run memory (after a))) e

    -- the first refuses: that is the outcome
    pub run_refused : {refusal : R} → run memory rule ≡ refused refusal → run memory (rule >>= after) ≡ refused refusal
    run_refused e = run_then rule after ∙ ap (λ (o : Outcome R A). and_then o (λ a. run memory (after a))) e

    -- the first answers: both are read
    pub reads_ok : {answer : A} → run memory rule ≡ ok answer → reads memory (rule >>= after) ≡ reads memory rule ++ reads memory (after answer)
    reads_ok e =
        reads_then rule after ∙ ap (λ (o : Outcome R A). reads memory rule ++ and_then_reads o (λ a. reads memory (after a))) e

    -- the first refuses: nothing more is read
    pub reads_refused : {refusal : R} → run memory rule ≡ refused refusal → reads memory (rule >>= after) ≡ reads memory rule
    reads_refused e =
        reads_then rule after
        ∙ (ap (λ (o : Outcome R A). reads memory rule ++ and_then_reads o (λ a. reads memory (after a))) e ∙ append-nil (reads memory rule))

module _ {R Q A : Type 0} (memory : Q → ℕ) where
  -- the outcome of a rule by a test
  pub run_cond : (test : Bool) (yes_rule no_rule : Rule R Q A)
      → run memory (cond test yes_rule no_rule) ≡ cond test (run memory yes_rule) (run memory no_rule)
  run_cond true yes_rule no_rule = refl
  run_cond false yes_rule no_rule = refl

  -- what a rule by a test reads
  pub reads_cond : (test : Bool) (yes_rule no_rule : Rule R Q A)
      → reads memory (cond test yes_rule no_rule) ≡ cond test (reads memory yes_rule) (reads memory no_rule)
  reads_cond true yes_rule no_rule = refl
  reads_cond false yes_rule no_rule = refl

module _ {R S P Q A : Type 0} (name : R → S) (into : P → Q) (memory : Q → ℕ) where
  -- the outcome of a rule taken into more cells and refusals
  pub run_within : (rule : Rule R P A) → run memory (within name into rule) ≡ renamed name (run (λ cell. memory (into cell)) rule)
  run_within (done answer) = refl
  run_within (stop refusal) = refl
  run_within (ask cell on) = run_within (on (memory (into cell)))
