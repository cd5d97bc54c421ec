-- A loop that fills the front of a list, one store a turn, and runs that fill it one behind another. Assumes nothing.
use Prim.Native.Nat.{ℕ, zero, suc, ◌+◌, ◌-◌, ◌≤◌, ◌<◌}
use mathlib.Core.Path.{◌≡◌, refl, ap, ap₂, ◌∙◌}
use mathlib.Core.List.{List, [], ◌∷◌, ◌++◌, append_assoc, append-nil}
use native.Mathlib.Omega.{arith}
use native.Mathlib.Nat.{add-zero, zero-add, add-suc, suc-add, not-suc-le-zero}
use native.Mathlib.Numerals.{add-one}
use borrow.Rule.Slice.PartMut.{put_mid}
use lib.ListN.{length, get_or, set, take, drop, length-set, length-append, length-drop}
use lib.Seq.{take_at, drop_at, drop-drop, drop-length, take-length}
use Rattle.rules.specs.Lists.{values, filled}
use Rattle.rules.proofs.Lists.{length_values, values_add, value_at}

module _ {A : Type 0} (at : ℕ → A) where
  -- a store behind the elements that are filled fills one more
  one_more : (count from : ℕ) (room : List A) → count < length room
      → set (filled at from room count) count (at (from + count)) ≡ filled at from room (suc count)
  one_more count from [] h = absurd (not-suc-le-zero h)
  one_more zero from (a ∷ room) h = rw add-zero
  one_more (suc count) from (a ∷ room) h =
      ap {B = List A} (λ r. at from ∷ r) (rw (add-suc, ← suc-add) (one_more count (suc from) room (omega arith)))

-- `now` is what a loop that fills the first `count` elements of `room` has made of it before its turn `i`
pub record Filling {A : Type 0} (at : ℕ → A) (from count : ℕ) (room now : List A) (i : ℕ) : Type 0 where
  pub in_range : i ≤ count
  pub fits : count ≤ length room
  pub long : length now ≡ length room
  pub list : now ≡ filled at from room i

module _ {A : Type 0} {at : ℕ → A} {from count : ℕ} {room : List A} where
  -- before the first store
  pub fill_start : count ≤ length room → Filling at from count room room 0
  fill_start h = record { in_range = omega arith; fits = h; long = refl; list = refl }

  -- one store on
  pub fill_next : {now : List A} {i : ℕ} {a : A} → Filling at from count room now i → i < count → a ≡ at (from + i)
      → Filling at from count room (set now i a) (i + 1)
  fill_next {now} {i} {a} fill more e = record {
    in_range = omega arith;
    fits = fill.fits;
    long = length-set now i a ∙ fill.long;
    list = rw (fill.list, e, add-one i) (one_more at i from room (omega arith));
  }

  -- four stores on
  pub fill_four : {now : List A} {i : ℕ} {a b c d : A} → Filling at from count room now i → i + 4 ≤ count
      → a ≡ at (from + i) → b ≡ at (from + (i + 1)) → c ≡ at (from + (i + 2)) → d ≡ at (from + (i + 3))
      → Filling at from count room (set (set (set (set now i a) (i + 1) b) (i + 2) c) (i + 3) d) (i + 4)
  fill_four {now} {i} {a} {b} {c} {d} fill more ea eb ec ed =
      let two : i + 1 + 1 ≡ i + 2 = omega arith in
      let three : i + 2 + 1 ≡ i + 3 = omega arith in
      let four : i + 3 + 1 ≡ i + 4 = omega arith in
      let first = fill_next fill (omega arith) ea in
      let second : Filling at from count room (set (set now i a) (i + 1) b) (i + 2) = rw two at (fill_next first (omega arith) eb) in
      let third : Filling at from count room (set (set (set now i a) (i + 1) b) (i + 2) c) (i + 3) = rw three at (fill_next second (omega arith) ec) in
      rw four at (fill_next third (omega arith) ed)

  -- after the last store
  pub fill_over : {now : List A} {i : ℕ} → Filling at from count room now i → count ≤ i → now ≡ filled at from room count
  fill_over {now} {i} fill all = let e : i ≡ count = omega arith in rw (← e) fill.list

module _ {A : Type 0} (f g : ℕ → A) where
  -- two functions that agree on a stretch have the same values there
  values_same : (count from : ℕ) → ((p : ℕ) → from ≤ p → p < from + count → f p ≡ g p) → values f count from ≡ values g count from
  values_same zero from same = refl
  values_same (suc count) from same =
      ap₂ (λ (a : A) (rest : List A). a ∷ rest)
      (same from (omega arith) (omega arith))
      (values_same count (suc from) (λ p low high. same p (omega arith) (omega arith)))

-- values counted from a start are those of the function counted from there
values_from : {A : Type 0} (f : ℕ → A) (x count from : ℕ) → values (λ i. f (x + i)) count from ≡ values f count (x + from)
values_from f x zero from = refl
values_from {A} f x (suc count) from = ap {B = List A} (λ r. f (x + from) ∷ r) (values_from f x count (suc from) ∙ rw add-suc)

-- a list filled with the values from a start on is filled with those of the function counted from there
pub filled_from : {A : Type 0} (f : ℕ → A) (x : ℕ) (room : List A) (count : ℕ) → filled (λ i. f (x + i)) 0 room count ≡ filled f x room count
filled_from {A} f x room count = let same : values (λ i. f (x + i)) count 0 ≡ values f count x = rw add-zero at (values_from f x count 0) in ap (λ (front : List A). front ++ drop count room) same

-- two functions that agree on a run fill the same
pub filled_same : {A : Type 0} (f g : ℕ → A) (from : ℕ) (room : List A) (count : ℕ)
    → ((p : ℕ) → from ≤ p → p < from + count → f p ≡ g p) → filled f from room count ≡ filled g from room count
filled_same {A} f g from room count same = ap (λ (front : List A). front ++ drop count room) (values_same f g count from same)

-- what a look-up finds in a list that was filled from 0 on
pub looked_up : {A : Type 0} (at : ℕ → A) (room : List A) (count place : ℕ) (none : A) {now : List A} → now ≡ filled at 0 room count → place < count
    → get_or now place none ≡ at place
looked_up {A = A} at room count place none e h = ap (λ (list : List A). get_or list place none) e ∙ value_at at count 0 (drop count room) place none h ∙ rw zero-add

-- a list whose front is filled is as long as it was
pub filled_length : {A : Type 0} (at : ℕ → A) (from : ℕ) (room : List A) (count : ℕ) → count ≤ length room → length (filled at from room count) ≡ length room
filled_length at from room count fits = simp (length-append, length-drop, length_values) (omega arith)

module _ {A : Type 0} where
  -- `&mut list[x..]` lends what stands from x on
  pub tail_lent : (x : ℕ) (list : List A) → take (length list - x) (drop x list) ≡ drop x list
  tail_lent x list = rw (← length-drop x list) (take-length (drop x list))

  -- what was lent so comes back behind the first x
  pub tail_back : (x : ℕ) (list last : List A) → put_mid x (length list - x) list last ≡ take x list ++ last
  tail_back x list last = rw (← length-drop x list, drop-length, append-nil)

module _ {A : Type 0} (f g : ℕ → A) where
  -- a run of so many, into what stands from x on
  run_on : (x count : ℕ) (room out last : List A) → out ≡ filled f 0 room x → last ≡ filled g x (take (length out - x) (drop x out)) count
      → ((p : ℕ) → x ≤ p → p < x + count → g p ≡ f p) → put_mid x (length out - x) out last ≡ filled f 0 room (x + count)
  run_on x count room out last before drawn same =
      tail_back x out last
      ∙ rw (drawn, tail_lent x out, before, take_at (values f x 0) (drop x room) x (length_values f x 0), drop_at (values f x 0) (drop x room) x (length_values f x 0), drop-drop, values_same g f count x same, values_add f x count 0, zero-add, append_assoc)

  -- a run up to `stop`, drawn by a callee that was lent `&mut out[x..]`, makes a list filled to x one filled to `stop`
  pub fill_run : (x stop : ℕ) (room out last : List A) → x ≤ stop → out ≡ filled f 0 room x
      → last ≡ filled g x (take (length out - x) (drop x out)) (stop - x)
      → ((p : ℕ) → x ≤ p → p < stop → g p ≡ f p) → put_mid x (length out - x) out last ≡ filled f 0 room stop
  fill_run x stop room out last below before drawn same =
      let sum : x + (stop - x) ≡ stop = omega arith in
      rw sum at (run_on x (stop - x) room out last before drawn (λ p low high. same p low (omega arith)))
