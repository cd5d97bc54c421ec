-- Lists of values at successive positions.
use Rattle.std.specs.Prelude.{ℕ, zero, suc, List, [], ◌∷◌, ◌++◌, drop}

-- the values at `from`, `from` + 1, .., as many as `count`
abbrev pub values : {A : Type 0} → (ℕ → A) → ℕ → ℕ → List A
values at zero from = []
values at (suc count) from = at from ∷ values at count (suc from)

-- lists one behind the other
abbrev pub joined : {A : Type 0} → List (List A) → List A
joined [] = []
joined (list ∷ lists) = list ++ joined lists

-- `list` with its first `count` elements replaced by the values at `from`, `from` + 1, ..
abbrev pub filled : {A : Type 0} → (ℕ → A) → ℕ → List A → ℕ → List A
filled at from list count = values at count from ++ drop count list

-- `list` with each of its first `count` elements changed, by its number counted from `from` on
abbrev pub changed : {A : Type 0} → (ℕ → A → A) → ℕ → List A → ℕ → List A
changed change from [] count = []
changed change from (a ∷ list) zero = a ∷ list
changed change from (a ∷ list) (suc count) = change from a ∷ changed change (suc from) list count
