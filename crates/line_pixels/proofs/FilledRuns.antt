-- Runs of words that a closure answers: what is changed whatever it was is filled, and numbers counted from a start. Assumes nothing.
use Prim.Native.Nat.{ℕ, zero, suc, ◌+◌, ◌≤◌}
use mathlib.Core.Path.{◌≡◌, refl, ap, ◌∙◌}
use mathlib.Core.List.{List, [], ◌∷◌}
use native.Mathlib.Omega.{arith}
use native.Mathlib.Nat.{le_refl, add-zero, add-suc, not-suc-le-zero}
use lib.ListN.{length}
use Rattle.rules.specs.Lists.{filled, changed}
use Rattle.rules.proofs.Fill.{filled_from}

-- elements that are changed whatever they were are filled
filled_by : {A : Type 0} (at : ℕ → A) (from : ℕ) (list : List A) (count : ℕ) → count ≤ length list
    → changed (λ p _. at p) from list count ≡ filled at from list count
filled_by at from [] zero fits = refl
filled_by at from [] (suc count) fits = absurd (not-suc-le-zero fits)
filled_by at from (a ∷ list) zero fits = refl
filled_by {A} at from (a ∷ list) (suc count) fits = ap {B = List A} (λ r. at from ∷ r) (filled_by at (suc from) list count (omega arith))

-- a list all of whose elements are changed whatever they were is filled
pub all_filled : {A : Type 0} (at : ℕ → A) (list : List A) {after : List A} → after ≡ changed (λ p _. at p) 0 list (length list) → after ≡ filled at 0 list (length list)
all_filled at list is = is ∙ filled_by at 0 list (length list) (le_refl (length list))

-- elements that are counted from a start are changed by those numbers
changed_on : {A : Type 0} (change : ℕ → A → A) (x from : ℕ) (list : List A) (count : ℕ) → changed (λ i. change (x + i)) from list count ≡ changed change (x + from) list count
changed_on change x from [] count = refl
changed_on change x from (a ∷ list) zero = refl
changed_on {A} change x from (a ∷ list) (suc count) = ap {B = List A} (λ r. change (x + from) a ∷ r) (changed_on change x (suc from) list count ∙ rw add-suc)

-- a run whose words are changed by their pixels' numbers, which are counted from x on
pub changed_from : {A : Type 0} (change : ℕ → A → A) (x : ℕ) (list : List A) (count : ℕ) → changed (λ i. change (x + i)) 0 list count ≡ changed change x list count
changed_from change x list count = rw add-zero at (changed_on change x 0 list count)

-- a run that is filled by its pixels' numbers, which are counted from x on
pub filled_on : {A : Type 0} (shows : ℕ → A) (x : ℕ) (list : List A) {after : List A} → after ≡ filled (λ i. shows (x + i)) 0 list (length list) → after ≡ filled shows x list (length list)
filled_on shows x list is = is ∙ filled_from shows x list (length list)
