-- A second pass, over what a first one found: what it answers and which cells it reads. Assumes nothing.
use Prim.Native.Nat.{ℕ, zero, suc, ◌+◌, ◌≤◌, ◌<◌}
use mathlib.Core.Path.{◌≡◌, refl, sym, ap, subst}
use mathlib.Core.List.Memᴰ
use mathlib.Core.List.{List, [], ◌∷◌}
use mathlib.Core.Logic.{⊎_elim}
use native.Mathlib.Omega.{arith}
use native.Mathlib.Nat.{add-zero, eq-or-lt_of_le}
use lib.ListN.{length, get_or}
use Rattle.rules.specs.Rule.{Rule, done, ok, run, reads, ◌>>=◌}
use Rattle.rules.specs.Lists.{values}
use Rattle.rules.specs.Each.{each, each_of}
use Rattle.rules.proofs.Lists.{Among}
use Rattle.rules.proofs.Parts.{both, Read, by_first, by_second, read_either, either_read}

-- a second pass over what a first one found is a pass over the positions, so the laws of `each` are its laws
pub each_of_values : {R Q A B : Type 0} (rule : B → ℕ → Rule R Q A) (found : ℕ → B) (count from : ℕ)
    → each_of rule (values found count from) from ≡ each (λ i. rule (found i) i) count from
each_of_values rule found zero from = refl
each_of_values {R} {Q} {A} rule found (suc count) from =
    ap (λ (r : Rule R Q (List A)). rule (found from) from >>= (λ a. r >>= (λ l. done (a ∷ l)))) (each_of_values rule found count (suc from))

module _ {R Q B : Type 0} (memory : Q → ℕ) (rule : B → ℕ → Rule R Q ℕ) (bound : ℕ) where
  -- a second pass whose rules all answer numbers below a bound
  pub each_of_below : 0 < bound → ((b : B) (i answer : ℕ) → run memory (rule b i) ≡ ok answer → answer < bound)
      → (found : List B) (from : ℕ) {answers : List ℕ} → run memory (each_of rule found from) ≡ ok answers → (i : ℕ) → get_or answers i 0 < bound
  each_of_below some below [] from {answers} e i = let none : answers ≡ [] = cc in rw none some
  each_of_below some below (b ∷ others) from {answers} e i =
      let one = both memory (rule b from) _ e in
      let rest = both memory (each_of rule others (suc from)) _ one.next in
      let is : answers ≡ one.first ∷ rest.first = cc rest.next in
      rw is (by rest.first i (below b from one.first one.found) (each_of_below some below others (suc from) rest.found))
    where
      -- the first answer, or one of the later ones
      by : {first : ℕ} (later : List ℕ) (i : ℕ) → first < bound → ((j : ℕ) → get_or later j 0 < bound) → get_or (first ∷ later) i 0 < bound
      by later zero here behind = here
      by later (suc j) here behind = behind j

module _ {R Q A B : Type 0} (memory : Q → ℕ) (rule : B → ℕ → Rule R Q A) where
  -- as many answers as values found
  pub each_of_length : (found : List B) (from : ℕ) {answers : List A} → run memory (each_of rule found from) ≡ ok answers → length answers ≡ length found
  each_of_length [] from {answers} e = let none : answers ≡ [] = cc in rw none refl
  each_of_length (b ∷ others) from {answers} e =
      let first = both memory (rule b from) _ e in
      let rest = both memory (each_of rule others (suc from)) _ first.next in
      let is : answers ≡ first.first ∷ rest.first = cc rest.next in
      rw is (ap suc (each_of_length others (suc from) rest.found))

  -- what two passes answer at a position: what the first found there, and what the second makes of it
  pub record AnswerOf (first : ℕ → Rule R Q B) (position : ℕ) (answer : A) : Type 0 where
    pub value : B
    pub found : run memory (first position) ≡ ok value
    pub made : run memory (rule value position) ≡ ok answer

  -- each answer of the second pass is such
  pub answer_each_of : (first : ℕ → Rule R Q B) (none : A) (count from : ℕ) {found : List B} {answers : List A} → run memory (each first count from) ≡ ok found
      → run memory (each_of rule found from) ≡ ok answers → (i : ℕ) → i < count → AnswerOf first (from + i) (get_or answers i none)
  answer_each_of first none zero from e made i below = absurd (omega arith)
  answer_each_of first none (suc count) from {found} {answers} e made i below =
      let one = both memory (first from) _ e in
      let rest = both memory (each first count (suc from)) _ one.next in
      let is : found ≡ one.first ∷ rest.first = cc rest.next in
      by one.first rest.first one.found (subst (λ (l : List B). run memory (each_of rule l from) ≡ ok answers) is made)
      (λ others behind j h. answer_each_of first none count (suc from) rest.found behind j h) i below
    where
      -- the answer at the first position, or at a later one
      at : {b : B} {answer : A} (others : List A) → run memory (first from) ≡ ok b → run memory (rule b from) ≡ ok answer
          → ((j : ℕ) → j < count → AnswerOf first (suc from + j) (get_or others j none))
          → (i : ℕ) → i < suc count → AnswerOf first (from + i) (get_or (answer ∷ others) i none)
      at {b} {answer} others found here later zero h =
          subst (λ (n : ℕ). AnswerOf first n answer) (sym (add-zero from)) (record { value = b; found = found; made = here })
      at {b} {answer} others found here later (suc j) h =
          let same : suc from + j ≡ from + suc j = omega arith in
          subst (λ (n : ℕ). AnswerOf first n (get_or others j none)) same (later j (omega arith))

      -- the second pass taken apart: its answer to the first value, and those to the later ones
      by : (b : B) (found_later : List B) {answers : List A} → run memory (first from) ≡ ok b → run memory (each_of rule (b ∷ found_later) from) ≡ ok answers
          → ((others : List A) → run memory (each_of rule found_later (suc from)) ≡ ok others → (j : ℕ) → j < count → AnswerOf first (suc from + j) (get_or others j none))
          → (i : ℕ) → i < suc count → AnswerOf first (from + i) (get_or answers i none)
      by b found_later {answers} found made later i h =
          let here = both memory (rule b from) _ made in
          let behind = both memory (each_of rule found_later (suc from)) _ here.next in
          let are : answers ≡ here.first ∷ behind.first = cc behind.next in
          rw are (at behind.first found here.found (later behind.first behind.found) i h)

  -- a cell that the second pass reads at a position, by what the first found there
  pub record ReadOf (first : ℕ → Rule R Q B) (count from : ℕ) (cell : Q) : Type 0 where
    pub position : ℕ
    pub low : from ≤ position
    pub high : position < from + count
    pub value : B
    pub found : run memory (first position) ≡ ok value
    pub here : Among cell (reads memory (rule value position))

  module _ (first : ℕ → Rule R Q B) where
    -- what the second pass reads, it reads at one of the positions
    pub read_each_of : (count from : ℕ) {found : List B} {cell : Q} → run memory (each first count from) ≡ ok found
        → Among cell (reads memory (each_of rule found from)) → ReadOf first count from cell
    read_each_of zero from {found} {cell} e here =
        let none : found ≡ [] = cc in absurd (Memᴰ.not-nil (subst (λ (l : List B). Among cell (reads memory (each_of rule l from))) none here))
    read_each_of (suc count) from {found} {cell} e here =
        let one = both memory (first from) _ e in
        let rest = both memory (each first count (suc from)) _ one.next in
        let is : found ≡ one.first ∷ rest.first = cc rest.next in
        by one.first rest.first (λ there. read_each_of count (suc from) rest.found there) one.found
        (read_either memory (rule one.first from) _ (subst (λ (l : List B). Among cell (reads memory (each_of rule l from))) is here))
      where
        -- a cell that is read at a later position
        later : ReadOf first count (suc from) cell → ReadOf first (suc count) from cell
        later rest =
            record {
              position = rest.position;
              low = omega (arith, rest.low);
              high = omega (arith, rest.high);
              value = rest.value;
              found = rest.found;
              here = rest.here;
            }

        -- putting the answers together reads nothing, so it is a later position that reads
        behind : (others : List B) {answer : A} → (Among cell (reads memory (each_of rule others (suc from))) → ReadOf first count (suc from) cell)
            → Read memory (each_of rule others (suc from)) (λ answers. done (answer ∷ answers)) cell → ReadOf first (suc count) from cell
        behind others rec (by_first there) = later (rec there)
        behind others rec (by_second answers e there) = absurd (Memᴰ.not-nil there)

        -- the first position reads the cell, or one behind it
        by : (b : B) (others : List B) → (Among cell (reads memory (each_of rule others (suc from))) → ReadOf first count (suc from) cell)
            → run memory (first from) ≡ ok b
            → Read memory (rule b from) (λ answer. each_of rule others (suc from) >>= (λ answers. done (answer ∷ answers))) cell → ReadOf first (suc count) from cell
        by b others rec found (by_first there) = record { position = from; low = omega arith; high = omega arith; value = b; found = found; here = there }
        by b others rec found (by_second answer e there) = behind others rec (read_either memory (each_of rule others (suc from)) _ there)

    -- where the second rule always answers, what it reads at a position the second pass reads
    pub each_of_read : ((b : B) (i : ℕ) → (answer : A) × (run memory (rule b i) ≡ ok answer)) → (count from : ℕ) {found : List B} {cell : Q}
        → run memory (each first count from) ≡ ok found → ReadOf first count from cell → Among cell (reads memory (each_of rule found from))
    each_of_read always zero from e at = absurd (omega (arith, at.low, at.high))
    each_of_read always (suc count) from {found} {cell} e at =
        let one = both memory (first from) _ e in
        let rest = both memory (each first count (suc from)) _ one.next in
        let is : found ≡ one.first ∷ rest.first = cc rest.next in
        let answered = always one.first from in
        subst (λ (l : List B). Among cell (reads memory (each_of rule l from))) (sym is)
        (⊎_elim
        (λ same.
        let value : at.value ≡ one.first = cc (at.found, one.found, same) in
        either_read memory (rule one.first from) _ (by_first (rw (← value, same) at.here)))
        (λ above.
        either_read memory (rule one.first from) _ (by_second answered.0 answered.1
        (either_read memory (each_of rule rest.first (suc from)) _
        (by_first (each_of_read always count (suc from) rest.found (record {
          position = at.position;
          low = above;
          high = omega (arith, at.high);
          value = at.value;
          found = at.found;
          here = at.here;
        }))))))
        (eq-or-lt_of_le at.low))
