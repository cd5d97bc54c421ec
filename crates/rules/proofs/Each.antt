-- A pass over positions that stops at the first refusal: what comes of it, and what that tells of the positions. Assumes nothing.
use Prim.Native.Nat.{ℕ, zero, suc, ◌+◌, ◌≤◌, ◌<◌}
use mathlib.Core.Path.{◌≡◌, refl, ap, ◌∙◌}
use mathlib.Core.List.{List, [], ◌∷◌}
use mathlib.Core.Logic.{⊎_elim}
use native.Mathlib.Omega.{arith}
use native.Mathlib.Nat.{eq-or-lt_of_le}
use lib.ListN.{length}
use Rattle.rules.specs.Rule.{Rule, done, ok, refused, run, ◌>>=◌}
use Rattle.rules.specs.Lists.{values}
use Rattle.rules.specs.Each.{each}
use Rattle.rules.proofs.Cases.{impossible}
use Rattle.rules.proofs.Then.{run_ok, run_refused}
use Rattle.rules.proofs.Parts.{both, Either, at_first, at_second, either}

module _ {R Q A : Type 0} (memory : Q → ℕ) (rule : ℕ → Rule R Q A) (answer_at : ℕ → A) where
  -- the positions from `from` on, `count` of them, all answer, each what `answer_at` says
  abbrev pub Answers : ℕ → ℕ → Type 0
  Answers count from = (i : ℕ) → from ≤ i → i < from + count → run memory (rule i) ≡ ok (answer_at i)

  module _ (count from : ℕ) (answers : Answers (suc count) from) where
    -- the first position answers
    here : run memory (rule from) ≡ ok (answer_at from)
    here = answers from (omega arith) (omega arith)

    -- the positions behind the first answer
    later : Answers count (suc from)
    later = λ i low high. answers i (omega arith) (omega arith)

  -- a pass whose positions all answer
  pub each_ok : (count from : ℕ) → Answers count from → run memory (each rule count from) ≡ ok (values answer_at count from)
  each_ok zero from answers = refl
  each_ok (suc count) from answers =
      run_ok memory (rule from) _ (here count from answers)
      ∙ run_ok memory (each rule count (suc from)) _ (each_ok count (suc from) (later count from answers))

module _ {R Q A : Type 0} (memory : Q → ℕ) (rule : ℕ → Rule R Q A) where
  -- the positions from `from` on and before `to` all answer
  abbrev pub AllAnswer : ℕ → ℕ → Type 0
  AllAnswer from to = (i : ℕ) → from ≤ i → i < to → (answer : A) × (run memory (rule i) ≡ ok answer)

  -- before the first position there is none
  pub answer_none : (from : ℕ) → AllAnswer from from
  answer_none from = λ i low high. absurd (omega arith)

  -- one position that answers, and those behind it
  pub answer_more : {from to : ℕ} {answer : A} → run memory (rule from) ≡ ok answer → AllAnswer (suc from) to → AllAnswer from to
  answer_more {from} {to} {answer} e later = λ i low high. ⊎_elim (λ same. (answer, rw same at e)) (λ above. later i above high) (eq-or-lt_of_le low)

  -- a position that refuses, and before which all answer, decides the pass
  pub each_refuses : (count from position : ℕ) {refusal : R} → from ≤ position → position < from + count → AllAnswer from position
      → run memory (rule position) ≡ refused refusal → run memory (each rule count from) ≡ refused refusal
  each_refuses zero from position low high earlier stops = absurd (omega arith)
  each_refuses (suc count) from position low high earlier stops =
      ⊎_elim (λ same. run_refused memory (rule from) _ (rw same stops))
      (λ above.
      run_ok memory (rule from) _ (earlier from (omega arith) above).1
      ∙ run_refused memory (each rule count (suc from)) _
      (each_refuses count (suc from) position above (omega arith) (λ i low' high'. earlier i (omega arith) high') stops))
      (eq-or-lt_of_le low)

  -- ---- the other way round

  -- where a pass answers, each of its positions does
  pub each_answers : (count from : ℕ) {answers : List A} → run memory (each rule count from) ≡ ok answers → AllAnswer from (from + count)
  each_answers zero from e = λ i low high. absurd (omega arith)
  each_answers (suc count) from e =
      let first = both memory (rule from) _ e in
      let rest = both memory (each rule count (suc from)) _ first.next in
      answer_more first.found (λ i low high. each_answers count (suc from) rest.found i low (omega arith))

  -- the first position that refuses
  pub record StopsAt (count from : ℕ) (refusal : R) : Type 0 where
    pub position : ℕ
    pub low : from ≤ position
    pub high : position < from + count
    pub earlier : AllAnswer from position
    pub stops : run memory (rule position) ≡ refused refusal

  -- where a pass refuses, it is one of its positions that does
  pub each_stops : (count from : ℕ) {refusal : R} → run memory (each rule count from) ≡ refused refusal → StopsAt count from refusal
  each_stops zero from e = impossible (cc)
  each_stops (suc count) from {refusal} e = by (λ h. each_stops count (suc from) h) (either memory (rule from) _ e)
    where
      -- a refusal behind a position that answers
      later : {answer : A} → run memory (rule from) ≡ ok answer → StopsAt count (suc from) refusal → StopsAt (suc count) from refusal
      later found rest =
          record {
            position = rest.position;
            low = omega (arith, rest.low);
            high = omega (arith, rest.high);
            earlier = answer_more found rest.earlier;
            stops = rest.stops;
          }

      -- putting the answers together refuses nothing, so it is a later position that does
      behind : (run memory (each rule count (suc from)) ≡ refused refusal → StopsAt count (suc from) refusal) → {answer : A} → run memory (rule from) ≡ ok answer
          → Either memory (each rule count (suc from)) (λ answers. done (answer ∷ answers)) refusal → StopsAt (suc count) from refusal
      behind rec found (at_first h) = later found (rec h)
      behind rec found (at_second answers e h) = impossible (cc)

      -- the first position refuses, or one behind it
      by : (run memory (each rule count (suc from)) ≡ refused refusal → StopsAt count (suc from) refusal)
          → Either memory (rule from) (λ answer. each rule count (suc from) >>= (λ answers. done (answer ∷ answers))) refusal → StopsAt (suc count) from refusal
      by rec (at_first h) = record { position = from; low = omega arith; high = omega arith; earlier = answer_none from; stops = h }
      by rec (at_second answer found h) = behind rec found (either memory (each rule count (suc from)) _ h)

  -- a pass has as many answers as positions
  pub each_length : (count from : ℕ) {answers : List A} → run memory (each rule count from) ≡ ok answers → length answers ≡ count
  each_length zero from {answers} e = let none : answers ≡ [] = cc in rw none refl
  each_length (suc count) from {answers} e =
      let first = both memory (rule from) _ e in
      let rest = both memory (each rule count (suc from)) _ first.next in
      let is : answers ≡ first.first ∷ rest.first = cc rest.next in
      rw is (ap suc (each_length count (suc from) rest.found))
