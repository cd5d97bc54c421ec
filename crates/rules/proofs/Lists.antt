-- The values at successive positions: how many, one stretch behind another, each at its place, and which are among them. Assumes nothing.
use Prim.Native.Nat.{ℕ, zero, suc, ◌+◌, ◌≤◌, ◌<◌}
use mathlib.Core.Path.{◌≡◌, refl, sym, ap, ◌∙◌}
use mathlib.Core.List.Memᴰ
use mathlib.Core.List.{List, [], ◌∷◌, ◌++◌, Memᴰ}
use mathlib.Core.Logic.{⊎_elim}
use native.Mathlib.Omega.{arith}
use native.Mathlib.Nat.{add-zero, zero-add, add-suc, suc-add, eq-or-lt_of_le, le_of_suc-le-suc, not-suc-le-zero}
use lib.ListN.{length, get_or}
use Rattle.rules.specs.Lists.{values}

module _ {A : Type 0} (at : ℕ → A) where
  -- as many as were asked for
  pub length_values : (count from : ℕ) → length (values at count from) ≡ count
  length_values zero from = refl
  length_values (suc count) from = ap suc (length_values count (suc from))

  -- one stretch and then the next
  pub values_add : (m n from : ℕ) → values at (m + n) from ≡ values at m from ++ values at n (from + m)
  values_add zero n from = rw (zero-add, add-zero)
  values_add (suc m) n from =
      rw suc-add (ap (λ (rest : List A). at from ∷ rest) (values_add m n (suc from) ∙ rw (suc-add, add-suc)))

  -- each stands at its place, whatever follows them
  pub value_at : (count from : ℕ) (rest : List A) (place : ℕ) (none : A) → place < count → get_or (values at count from ++ rest) place none ≡ at (from + place)
  value_at zero from rest place none h = absurd (not-suc-le-zero h)
  value_at (suc count) from rest zero none h = rw add-zero
  value_at (suc count) from rest (suc place) none h = value_at count (suc from) rest place none (le_of_suc-le-suc h) ∙ rw (suc-add, add-suc)

-- where the lists of two functions are the same, both have the same value at each place
pub same_values : {A : Type 0} (one other : ℕ → A) (count : ℕ) → values one count 0 ≡ values other count 0 → (place : ℕ) → place < count → one place ≡ other place
same_values {A = A} one other count e place h =
    let at_one : get_or (values one count 0 ++ []) place (one 0) ≡ one place = value_at one count 0 [] place (one 0) h ∙ rw zero-add in
    let at_other : get_or (values other count 0 ++ []) place (one 0) ≡ other place = value_at other count 0 [] place (one 0) h ∙ rw zero-add in
    sym at_one ∙ ap (λ (all : List A). get_or (all ++ []) place (one 0)) e ∙ at_other

-- ---- which are among them

-- one of some cells, or of any other things
abbrev pub Among : {A : Type 0} → A → List A → Type 0
Among one all = Memᴰ one all

module _ {A : Type 0} (at : ℕ → A) where
  -- it is the value at one of `count` positions from `from` on
  pub record ValueAt (count from : ℕ) (one : A) : Type 0 where
    pub position : ℕ
    pub low : from ≤ position
    pub high : position < from + count
    pub is : one ≡ at position

  -- what is among the values is one of them
  pub value_among : (count from : ℕ) {one : A} → Among one (values at count from) → ValueAt count from one
  value_among zero from here = absurd (Memᴰ.not-nil here)
  value_among (suc count) from {one} here =
      ⊎_elim (λ same. record { position = from; low = omega arith; high = omega arith; is = same })
      (λ later. more (value_among count (suc from) later)) (Memᴰ.cases_cons here)
    where
      -- a value behind the first is one of all
      more : ValueAt count (suc from) one → ValueAt (suc count) from one
      more found = record { position = found.position; low = omega (arith, found.low); high = omega (arith, found.high); is = found.is }

  -- each value is among the values
  pub among_values : (count from position : ℕ) → from ≤ position → position < from + count → Among (at position) (values at count from)
  among_values zero from position low high = absurd (omega arith)
  among_values (suc count) from position low high =
      ⊎_elim (λ same. Memᴰ.head (ap at (sym same))) (λ above. Memᴰ.tail (among_values count (suc from) position above (omega arith)))
      (eq-or-lt_of_le low)
