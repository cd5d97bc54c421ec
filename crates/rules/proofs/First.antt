-- The search for the first cell that passes: what its outcome tells of the cells. Assumes nothing.
use Prim.Native.Nat.{ℕ, zero, suc, ◌+◌, ◌-◌, ◌≤◌, ◌<◌}
use mathlib.Core.Path.{◌≡◌, refl, sym, ap, ◌∙◌}
use mathlib.Core.Bool.{Bool, true, false, cond}
use mathlib.Core.List.{List, [], ◌∷◌}
use mathlib.Core.Logic.{⊎_elim}
use native.Mathlib.Omega.{arith}
use native.Mathlib.Nat.{sub_self, eq-or-lt_of_le}
use Rattle.rules.specs.Rule.{done, ok, refused, run, reads}
use Rattle.rules.specs.First.{first_from}
use Rattle.rules.specs.Lists.{values}
use Rattle.rules.proofs.Cases.{impossible}
use Rattle.rules.proofs.Then.{run_cond, reads_cond}

module _ {R Q : Type 0} (missing : R) (cell : ℕ → Q) (passes : ℕ → Bool) (memory : Q → ℕ) where
  -- the outcome of a search goes by the test of its first cell, and then by the search behind that
  step : (count from : ℕ)
      → run memory (first_from missing cell passes (suc count) from)
      ≡ cond (passes (memory (cell from))) (ok from) (run memory (first_from missing cell passes count (suc from)))
  step count from = run_cond memory (passes (memory (cell from))) (done from) (first_from missing cell passes count (suc from))

  -- what it tells that the search from `from` on answers `at`
  pub record Found (count from at : ℕ) : Type 0 where
    pub after : from ≤ at
    pub below : at < from + count
    pub passed : passes (memory (cell at)) ≡ true
    pub failed : (i : ℕ) → from ≤ i → i < at → passes (memory (cell i)) ≡ false
    pub read : reads memory (first_from missing cell passes count from) ≡ values cell (suc (at - from)) from

  -- a search reads its first cell, and where that fails what the search behind it reads
  reads_step : (count from : ℕ) (test : Bool) → passes (memory (cell from)) ≡ test
      → reads memory (first_from missing cell passes (suc count) from)
      ≡ cell from ∷ cond test [] (reads memory (first_from missing cell passes count (suc from)))
  reads_step count from test e =
      ap (λ (cells : List Q). cell from ∷ cells)
      (reads_cond memory (passes (memory (cell from))) (done from) (first_from missing cell passes count (suc from))
      ∙ ap (λ (t : Bool). cond t [] (reads memory (first_from missing cell passes count (suc from)))) e)

  -- a search whose first cell passes finds that
  found_here : (count from : ℕ) {at : ℕ} → passes (memory (cell from)) ≡ true → from ≡ at → Found (suc count) from at
  found_here count from {at} test e = record {
    after = omega arith;
    below = omega arith;
    passed = rw (← e) test;
    failed = λ i low high. absurd (omega arith);
    read = rw (← e, sub_self) (reads_step count from true test);
  }

  -- a search whose first cell fails finds what the search behind it finds
  found_later : (count from : ℕ) {at : ℕ} → passes (memory (cell from)) ≡ false → Found count (suc from) at → Found (suc count) from at
  found_later count from {at} test later =
      let deep : at - from ≡ suc (at - suc from) = omega (arith, later.after) in
      record {
        after = omega (arith, later.after);
        below = omega (arith, later.below);
        passed = later.passed;
        failed = λ i low high. ⊎_elim (λ same. rw same at test) (λ above. later.failed i above high) (eq-or-lt_of_le low);
        read = rw deep (reads_step count from false test ∙ ap (λ (cells : List Q). cell from ∷ cells) later.read);
      }

  -- a search that answers found its first cell or a later one
  by_test : (count from : ℕ) {at : ℕ} (test : Bool) → passes (memory (cell from)) ≡ test
      → cond test (ok from) (run memory (first_from missing cell passes count (suc from))) ≡ ok at
      → (run memory (first_from missing cell passes count (suc from)) ≡ ok at → Found count (suc from) at) → Found (suc count) from at
  by_test count from {at} true test e later = found_here count from test (cc)
  by_test count from {at} false test e later = found_later count from test (later e)

  -- from an answer, what it tells
  pub found_from : (count from : ℕ) {at : ℕ} → run memory (first_from missing cell passes count from) ≡ ok at → Found count from at
  found_from zero from {at} e = impossible (cc)
  found_from (suc count) from {at} e =
      by_test count from (passes (memory (cell from))) refl (sym (step count from) ∙ e) (found_from count (suc from))

  -- what it tells that the search from `from` on finds nothing
  pub record Missing (count from : ℕ) (refusal : R) : Type 0 where
    pub named : refusal ≡ missing
    pub failed : (i : ℕ) → from ≤ i → i < from + count → passes (memory (cell i)) ≡ false
    pub read : reads memory (first_from missing cell passes count from) ≡ values cell count from

  -- a search that finds nothing has a first cell that fails, and finds nothing behind it
  missing_by : (count from : ℕ) {refusal : R} (test : Bool) → passes (memory (cell from)) ≡ test
      → cond test (ok from) (run memory (first_from missing cell passes count (suc from))) ≡ refused refusal
      → (run memory (first_from missing cell passes count (suc from)) ≡ refused refusal → Missing count (suc from) refusal) → Missing (suc count) from refusal
  missing_by count from {refusal} true test e later = impossible (cc)
  missing_by count from {refusal} false test e later =
      let rest : Missing count (suc from) refusal = later e in
      record {
        named = rest.named;
        failed = λ i low high. ⊎_elim (λ same. rw same at test) (λ above. rest.failed i above (omega arith)) (eq-or-lt_of_le low);
        read = reads_step count from false test ∙ ap (λ (cells : List Q). cell from ∷ cells) rest.read;
      }

  -- from a refusal, what it tells
  pub missing_from : (count from : ℕ) {refusal : R} → run memory (first_from missing cell passes count from) ≡ refused refusal → Missing count from refusal
  missing_from zero from {refusal} e = record { named = cc; failed = λ i low high. absurd (omega arith); read = refl }
  missing_from (suc count) from e =
      missing_by count from (passes (memory (cell from))) refl (sym (step count from) ∙ e) (missing_from count (suc from))
