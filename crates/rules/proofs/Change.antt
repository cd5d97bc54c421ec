-- A loop that changes the front of a list, one store or four stores a turn. Assumes nothing.
use Prim.Native.Nat.{ℕ, zero, suc, ◌+◌, ◌≤◌, ◌<◌}
use mathlib.Core.Path.{◌≡◌, refl, sym, ap, ap₂, ◌∙◌}
use mathlib.Core.List.{List, [], ◌∷◌, ◌++◌}
use native.Mathlib.Omega.{arith}
use native.Mathlib.Nat.{add-zero, add-suc, suc-add, not-suc-le-zero}
use native.Mathlib.Numerals.{add-one}
use lib.ListN.{length, get_or, set, drop, length-set}
use Rattle.rules.specs.Lists.{values, filled, changed}
use Rattle.rules.proofs.Fill.{filled_same}

-- nothing is changed yet
changed_zero : {A : Type 0} (change : ℕ → A → A) (from : ℕ) (list : List A) → changed change from list 0 ≡ list
changed_zero change from [] = refl
changed_zero change from (a ∷ list) = refl

module _ {A : Type 0} (change : ℕ → A → A) (none : A) where
  -- a store behind the elements that are changed changes one more
  change_one : (count from : ℕ) (list : List A) → count < length list
      → set (changed change from list count) count (change (from + count) (get_or list count none)) ≡ changed change from list (suc count)
  change_one count from [] h = absurd (not-suc-le-zero h)
  change_one zero from (a ∷ list) h = rw (add-zero, changed_zero change (suc from) list)
  change_one (suc count) from (a ∷ list) h =
      ap {B = List A} (λ r. change from a ∷ r) (rw (add-suc, ← suc-add) (change_one count (suc from) list (omega arith)))

  -- an element behind those that are changed is as it was
  unchanged : (count from : ℕ) (list : List A) (place : ℕ) → count ≤ place → get_or (changed change from list count) place none ≡ get_or list place none
  unchanged count from [] place h = refl
  unchanged zero from (a ∷ list) place h = refl
  unchanged (suc count) from (a ∷ list) zero h = absurd (not-suc-le-zero h)
  unchanged (suc count) from (a ∷ list) (suc place) h = unchanged count (suc from) list place (omega arith)

-- where elements stay as they are, it doesn't matter whether they are changed
changed_upto : {A : Type 0} (change : ℕ → A → A) (from : ℕ) (list : List A) (m n : ℕ) → m ≤ n
    → ((p : ℕ) → from + m ≤ p → p < from + n → (a : A) → change p a ≡ a) → changed change from list m ≡ changed change from list n
changed_upto change from [] m n le idle = refl
changed_upto change from (a ∷ list) zero zero le idle = refl
changed_upto {A} change from (a ∷ list) zero (suc n) le idle =
    ap₂ (λ (b : A) (rest : List A). b ∷ rest)
    (sym (idle from (omega arith) (omega arith) a))
    (sym (changed_zero change (suc from) list) ∙ changed_upto change (suc from) list zero n (omega arith) (λ p low high b. idle p (omega arith) (omega arith) b))
changed_upto change from (a ∷ list) (suc m) zero le idle = absurd (not-suc-le-zero le)
changed_upto {A} change from (a ∷ list) (suc m) (suc n) le idle =
    ap {B = List A} (λ r. change from a ∷ r) (changed_upto change (suc from) list m n (omega arith) (λ p low high b. idle p (omega arith) (omega arith) b))

-- `now` is what a loop that changes the first `count` elements of `list` has made of it before its turn `i`
pub record Changing {A : Type 0} (change : ℕ → A → A) (from count : ℕ) (list now : List A) (i : ℕ) : Type 0 where
  pub in_range : i ≤ count
  pub fits : count ≤ length list
  pub long : length now ≡ length list
  pub is : now ≡ changed change from list i

module _ {A : Type 0} {change : ℕ → A → A} {from count : ℕ} {list : List A} where
  -- before the first store
  pub change_start : count ≤ length list → Changing change from count list list 0
  change_start h = record { in_range = omega arith; fits = h; long = refl; is = sym (changed_zero change from list) }

  -- an element that is not changed yet
  pub still : {now : List A} {i : ℕ} (place : ℕ) (none : A) → Changing change from count list now i → i ≤ place → get_or now place none ≡ get_or list place none
  still {i = i} place none changing h = ap (λ (l : List A). get_or l place none) changing.is ∙ unchanged change none i from list place h

  -- elements that stay as they are, passed over
  pub change_skip : {now : List A} {i : ℕ} (j : ℕ) → Changing change from count list now i → i ≤ j → j ≤ count
      → ((p : ℕ) → from + i ≤ p → p < from + j → (a : A) → change p a ≡ a) → Changing change from count list now j
  change_skip {i = i} j changing on in_range idle =
      record { in_range = in_range; fits = changing.fits; long = changing.long; is = changing.is ∙ changed_upto change from list i j on idle }

  -- one store on
  pub change_next : {now : List A} {i : ℕ} {a : A} (none : A) → Changing change from count list now i → i < count → a ≡ change (from + i) (get_or list i none)
      → Changing change from count list (set now i a) (i + 1)
  change_next {now = now} {i = i} {a = a} none changing more e = record {
    in_range = omega arith;
    fits = changing.fits;
    long = length-set now i a ∙ changing.long;
    is = rw (changing.is, e, add-one i) (change_one change none i from list (omega arith));
  }

  -- four stores on
  pub change_four : {now : List A} {i : ℕ} {a b c d : A} (none : A) → Changing change from count list now i → i + 4 ≤ count
      → a ≡ change (from + i) (get_or list i none) → b ≡ change (from + (i + 1)) (get_or list (i + 1) none)
      → c ≡ change (from + (i + 2)) (get_or list (i + 2) none) → d ≡ change (from + (i + 3)) (get_or list (i + 3) none)
      → Changing change from count list (set (set (set (set now i a) (i + 1) b) (i + 2) c) (i + 3) d) (i + 4)
  change_four {now} {i} {a} {b} {c} {d} none changing more ea eb ec ed =
      let two : i + 1 + 1 ≡ i + 2 = omega arith in
      let three : i + 2 + 1 ≡ i + 3 = omega arith in
      let four : i + 3 + 1 ≡ i + 4 = omega arith in
      let first = change_next none changing (omega arith) ea in
      let second : Changing change from count list (set (set now i a) (i + 1) b) (i + 2) = rw two at (change_next none first (omega arith) eb) in
      let third : Changing change from count list (set (set (set now i a) (i + 1) b) (i + 2) c) (i + 3) = rw three at (change_next none second (omega arith) ec) in
      rw four at (change_next none third (omega arith) ed)

  -- one store on, of the element that stands there
  pub change_here : {now : List A} {i : ℕ} {a : A} (none : A) → Changing change from count list now i → i < count → a ≡ change (from + i) (get_or now i none)
      → Changing change from count list (set now i a) (i + 1)
  change_here {i = i} none changing more e = change_next none changing more (e ∙ ap (change (from + i)) (still i none changing (omega arith)))

  -- four stores on, of the elements that stand there
  pub change_four_here : {now : List A} {i : ℕ} {a b c d : A} (none : A) → Changing change from count list now i → i + 4 ≤ count
      → a ≡ change (from + i) (get_or now i none) → b ≡ change (from + (i + 1)) (get_or now (i + 1) none)
      → c ≡ change (from + (i + 2)) (get_or now (i + 2) none) → d ≡ change (from + (i + 3)) (get_or now (i + 3) none)
      → Changing change from count list (set (set (set (set now i a) (i + 1) b) (i + 2) c) (i + 3) d) (i + 4)
  change_four_here {now} {i} none changing more ea eb ec ed = change_four none changing more (ea ∙ as_before i (omega arith)) (eb ∙ as_before (i + 1) (omega arith)) (ec ∙ as_before (i + 2) (omega arith)) (ed ∙ as_before (i + 3) (omega arith))
    where
      -- what an element becomes is what it became of the list before the loop
      as_before : (place : ℕ) → i ≤ place → change (from + place) (get_or now place none) ≡ change (from + place) (get_or list place none)
      as_before place h = ap (change (from + place)) (still place none changing h)

  -- after the last store
  pub change_over : {now : List A} {i : ℕ} → Changing change from count list now i → count ≤ i → now ≡ changed change from list count
  change_over {i = i} changing all = let e : i ≡ count = omega arith in rw (← e) changing.is

-- what an element of the front is changed to
pub changed_at : {A : Type 0} (change : ℕ → A → A) (none : A) (count from : ℕ) (list : List A) (place : ℕ) → place < count → count ≤ length list
    → get_or (changed change from list count) place none ≡ change (from + place) (get_or list place none)
changed_at change none zero from list place h fits = absurd (not-suc-le-zero h)
changed_at change none (suc count) from [] place h fits = absurd (not-suc-le-zero fits)
changed_at change none (suc count) from (a ∷ list) zero h fits = rw add-zero
changed_at change none (suc count) from (a ∷ list) (suc place) h fits =
    rw (add-suc, ← suc-add) (changed_at change none count (suc from) list place (omega arith) (omega arith))

-- a list that is filled, and then changed as far, is filled with the changed values
pub changed_filled : {A : Type 0} (change : ℕ → A → A) (at : ℕ → A) (from : ℕ) (room : List A) (count : ℕ)
    → changed change from (filled at from room count) count ≡ filled (λ p. change p (at p)) from room count
changed_filled {A} change at from room count = over count from (drop count room)
  where
    -- the values stand in front of any rest
    over : (n start : ℕ) (rest : List A) → changed change start (values at n start ++ rest) n ≡ values (λ p. change p (at p)) n start ++ rest
    over zero start rest = changed_zero change start rest
    over (suc n) start rest = ap {B = List A} (λ r. change start (at start) ∷ r) (over n (suc start) rest)

-- where the first `count` elements stay as they are, so does the list
pub changed_none : {A : Type 0} (change : ℕ → A → A) (none : A) (count from : ℕ) (list : List A)
    → ((i : ℕ) → i < count → change (from + i) (get_or list i none) ≡ get_or list i none) → changed change from list count ≡ list
changed_none change none count from [] same = refl
changed_none change none zero from (a ∷ list) same = refl
changed_none {A} change none (suc count) from (a ∷ list) same =
    ap₂ (λ (b : A) (rest : List A). b ∷ rest)
    (rw add-zero at (same 0 (omega arith)))
    (changed_none change none count (suc from) list (λ i h. rw (add-suc, ← suc-add) at (same (suc i) (omega arith))))

-- two functions that agree change a list alike
pub changed_same : {A : Type 0} (f g : ℕ → A → A) → ((p : ℕ) (a : A) → f p a ≡ g p a) → (from : ℕ) (list : List A) (count : ℕ)
    → changed f from list count ≡ changed g from list count
changed_same f g same from [] count = refl
changed_same f g same from (a ∷ list) zero = refl
changed_same {A} f g same from (a ∷ list) (suc count) = ap₂ (λ (b : A) (rest : List A). b ∷ rest) (same from a) (changed_same f g same (suc from) list count)

-- a run that is filled, and then changed as far, is filled with what the values are changed to
pub changed_run : {A : Type 0} (change : ℕ → A → A) (at at' : ℕ → A) (from : ℕ) (room mid after : List A) (count : ℕ) → mid ≡ filled at from room count
    → after ≡ changed change from mid count → ((p : ℕ) → change p (at p) ≡ at' p) → after ≡ filled at' from room count
changed_run {A} change at at' from room mid after count filling changing same =
    changing
    ∙ (ap (λ (list : List A). changed change from list count) filling
    ∙ (changed_filled change at from room count ∙ filled_same (λ p. change p (at p)) at' from room count (λ p low high. same p)))

-- where the change goes by the element alone, it doesn't matter from where on elements are counted
pub changed_anywhere : {A : Type 0} (change : A → A) (from from' : ℕ) (list : List A) (count : ℕ)
    → changed (λ _ a. change a) from list count ≡ changed (λ _ a. change a) from' list count
changed_anywhere change from from' [] count = refl
changed_anywhere change from from' (a ∷ list) zero = refl
changed_anywhere {A} change from from' (a ∷ list) (suc count) = ap {B = List A} (λ r. change a ∷ r) (changed_anywhere change (suc from) (suc from') list count)
