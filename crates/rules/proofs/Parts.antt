-- Rules put together, taken apart: what comes of one and then another, and of one within more cells, and which cells they read. Assumes nothing.
use Prim.Native.Nat.{ℕ}
use mathlib.Core.Path.{◌≡◌, refl, sym, ap, subst, ◌∙◌}
use mathlib.Core.List.Memᴰ
use mathlib.Core.List.{List}
use mathlib.Core.Logic.{⊎_elim}
use Rattle.rules.specs.Rule.{Rule, done, stop, ask, Outcome, ok, refused, run, reads, ◌>>=◌, within, and_then}
use Rattle.rules.proofs.Cases.{impossible}
use Rattle.rules.proofs.Lists.{Among}
use Rattle.rules.proofs.Then.{and_then_reads, run_then, reads_then}

-- ---- one rule and then another

module _ {R Q A B : Type 0} (memory : Q → ℕ) (rule : Rule R Q A) (after : A → Rule R Q B) where
  -- both answer
  pub record Both (answer : B) : Type 0 where
    pub first : A
    pub found : run memory rule ≡ ok first
    pub next : run memory (after first) ≡ ok answer

  -- where the two together answer, both do
  pub both : {answer : B} → run memory (rule >>= after) ≡ ok answer → Both answer
  both {answer} e = by (run memory rule) refl (sym (run_then memory rule after) ∙ e)
    where
      -- the first answers, as it would else refuse both
      by : (outcome : Outcome R A) → run memory rule ≡ outcome → and_then outcome (λ a. run memory (after a)) ≡ ok answer → Both answer
      by (ok first) found next = record { first = first; found = found; next = next }
      by (refused refusal) found next = impossible (cc)

  -- the first refuses, or it answers and the second refuses
  pub data Either (refusal : R) : Type 0 where
    at_first : run memory rule ≡ refused refusal → Either refusal
    at_second : (first : A) → run memory rule ≡ ok first → run memory (after first) ≡ refused refusal → Either refusal

  -- where the two together refuse, one does
  pub either : {refusal : R} → run memory (rule >>= after) ≡ refused refusal → Either refusal
  either {refusal} e = by (run memory rule) refl (sym (run_then memory rule after) ∙ e)
    where
      -- the first refuses, or it answers and so the second refuses
      by : (outcome : Outcome R A) → run memory rule ≡ outcome → and_then outcome (λ a. run memory (after a)) ≡ refused refusal → Either refusal
      by (ok first) found next = at_second first found next
      by (refused other) found next = at_first (cc)

  -- a cell that the first reads, or that the second reads by the answer of the first
  pub data Read (cell : Q) : Type 0 where
    by_first : Among cell (reads memory rule) → Read cell
    by_second : (first : A) → run memory rule ≡ ok first → Among cell (reads memory (after first)) → Read cell

  -- what the two together read, one does
  pub read_either : {cell : Q} → Among cell (reads memory (rule >>= after)) → Read cell
  read_either {cell} here =
      ⊎_elim by_first (by (run memory rule) refl)
      (Memᴰ.append_cases (reads memory rule) (subst (Among cell) (reads_then memory rule after) here))
    where
      -- what is read behind the first is read by the second
      by : (outcome : Outcome R A) → run memory rule ≡ outcome → Among cell (and_then_reads outcome (λ a. reads memory (after a))) → Read cell
      by (ok first) found here = by_second first found here
      by (refused refusal) found here = absurd (Memᴰ.not-nil here)

  -- what one of the two reads, they read together
  pub either_read : {cell : Q} → Read cell → Among cell (reads memory (rule >>= after))
  either_read {cell} (by_first here) = subst (Among cell) (sym (reads_then memory rule after)) (Memᴰ.append_left _ here)
  either_read {cell} (by_second first found here) =
      subst (Among cell) (sym (reads_then memory rule after))
      (Memᴰ.append_right (reads memory rule)
      (subst (λ (outcome : Outcome R A). Among cell (and_then_reads outcome (λ a. reads memory (after a)))) (sym found) here))

-- ---- within more cells

-- a cell is what a cell of these becomes
pub record Becomes {P Q : Type 0} (into : P → Q) (cells : List P) (cell : Q) : Type 0 where
  pub inner : P
  pub is : cell ≡ into inner
  pub here : Among inner cells

module _ {R S P Q A : Type 0} (name : R → S) (into : P → Q) (memory : Q → ℕ) where
  -- what a rule taken into more cells reads is what its own cells become
  pub read_within : (rule : Rule R P A) {cell : Q} → Among cell (reads memory (within name into rule)) → Becomes into (reads (λ c. memory (into c)) rule) cell
  read_within (done answer) here = absurd (Memᴰ.not-nil here)
  read_within (stop refusal) here = absurd (Memᴰ.not-nil here)
  read_within (ask asked next) {cell} here =
      ⊎_elim (λ same. record { inner = asked; is = same; here = Memᴰ.head refl }) (λ later. more (read_within (next (memory (into asked))) later))
      (Memᴰ.cases_cons here)
    where
      -- a cell that comes from a later one comes from one of all
      more : Becomes into (reads (λ c. memory (into c)) (next (memory (into asked)))) cell → Becomes into (reads (λ c. memory (into c)) (ask asked next)) cell
      more found = record { inner = found.inner; is = found.is; here = Memᴰ.tail found.here }

  -- all that the cells of a rule become is read by the rule taken into more cells
  pub within_read : (rule : Rule R P A) {inner : P} → Among inner (reads (λ c. memory (into c)) rule) → Among (into inner) (reads memory (within name into rule))
  within_read (done answer) here = absurd (Memᴰ.not-nil here)
  within_read (stop refusal) here = absurd (Memᴰ.not-nil here)
  within_read (ask asked next) here =
      ⊎_elim (λ same. Memᴰ.head (ap into same)) (λ later. Memᴰ.tail (within_read (next (memory (into asked))) later)) (Memᴰ.cases_cons here)
