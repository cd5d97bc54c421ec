-- Which cells a pass over positions reads: those of the positions up to the first that refuses. Assumes nothing.
use Prim.Native.Nat.{ℕ, zero, suc, ◌+◌, ◌≤◌, ◌<◌}
use mathlib.Core.Path.{◌≡◌}
use mathlib.Core.List.Memᴰ
use mathlib.Core.List.{◌∷◌}
use mathlib.Core.Logic.{⊎_elim}
use native.Mathlib.Omega.{arith}
use native.Mathlib.Nat.{eq-or-lt_of_le}
use Rattle.rules.specs.Rule.{Rule, done, ok, run, reads, ◌>>=◌}
use Rattle.rules.specs.Each.{each}
use Rattle.rules.proofs.Lists.{Among}
use Rattle.rules.proofs.Parts.{Read, by_first, by_second, read_either, either_read}
use Rattle.rules.proofs.Each.{AllAnswer, answer_none, answer_more}

module _ {R Q A : Type 0} (memory : Q → ℕ) (rule : ℕ → Rule R Q A) where
  -- a cell that one of `count` positions from `from` on reads, before which all answer
  pub record ReadAt (count from : ℕ) (cell : Q) : Type 0 where
    pub position : ℕ
    pub low : from ≤ position
    pub high : position < from + count
    pub earlier : AllAnswer memory rule from position
    pub here : Among cell (reads memory (rule position))

  -- what a pass reads, one of its positions does
  pub read_each : (count from : ℕ) {cell : Q} → Among cell (reads memory (each rule count from)) → ReadAt count from cell
  read_each zero from here = absurd (Memᴰ.not-nil here)
  read_each (suc count) from {cell} here = by (λ there. read_each count (suc from) there) (read_either memory (rule from) _ here)
    where
      -- a cell that the first position reads
      at_once : Among cell (reads memory (rule from)) → ReadAt (suc count) from cell
      at_once there = record { position = from; low = omega arith; high = omega arith; earlier = answer_none memory rule from; here = there }

      -- a cell that is read behind a position that answers
      later : {answer : A} → run memory (rule from) ≡ ok answer → ReadAt count (suc from) cell → ReadAt (suc count) from cell
      later found rest =
          record {
            position = rest.position;
            low = omega (arith, rest.low);
            high = omega (arith, rest.high);
            earlier = answer_more memory rule found rest.earlier;
            here = rest.here;
          }

      -- putting the answers together reads nothing, so it is a later position that reads
      behind : (Among cell (reads memory (each rule count (suc from))) → ReadAt count (suc from) cell) → {answer : A} → run memory (rule from) ≡ ok answer
          → Read memory (each rule count (suc from)) (λ answers. done (answer ∷ answers)) cell → ReadAt (suc count) from cell
      behind rec found (by_first there) = later found (rec there)
      behind rec found (by_second answers e there) = absurd (Memᴰ.not-nil there)

      -- the first position reads the cell, or one behind it
      by : (Among cell (reads memory (each rule count (suc from))) → ReadAt count (suc from) cell)
          → Read memory (rule from) (λ answer. each rule count (suc from) >>= (λ answers. done (answer ∷ answers))) cell → ReadAt (suc count) from cell
      by rec (by_first there) = at_once there
      by rec (by_second answer found there) = behind rec found (read_either memory (each rule count (suc from)) _ there)

  -- what a position reads before which all answer, the pass reads
  pub each_read : (count from position : ℕ) {cell : Q} → from ≤ position → position < from + count → AllAnswer memory rule from position
      → Among cell (reads memory (rule position)) → Among cell (reads memory (each rule count from))
  each_read zero from position low high earlier here = absurd (omega arith)
  each_read (suc count) from position {cell} low high earlier here =
      ⊎_elim (λ same. either_read memory (rule from) _ (by_first (rw same here)))
      (λ above. let found = earlier from (omega arith) above in
      either_read memory (rule from) _ (by_second found.0 found.1
      (either_read memory (each rule count (suc from)) _
      (by_first (each_read count (suc from) position above (omega arith) (λ i low' high'. earlier i (omega arith) high') here)))))
      (eq-or-lt_of_le low)
