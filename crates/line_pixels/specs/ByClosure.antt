-- What a closure that draws words answers, in the eyes of the function that calls it.
use Rattle.std.specs.Prelude.{ℕ, ◌<◌, ◌≡◌}

-- at each number below `count` a closure, of whose answers this holds, answers what the number shows
abbrev pub IsShown : (ℕ → ℕ → Type 0) → ℕ → (ℕ → ℕ) → Type 0
IsShown answers count shows = (i answer : ℕ) → i < count → answers i answer → answer ≡ shows i

-- at each number below `count`, and whatever the word there is, it answers what the word is changed to
abbrev pub IsChange : (ℕ → ℕ → ℕ → Type 0) → ℕ → (ℕ → ℕ → ℕ) → Type 0
IsChange answers count change = (i word answer : ℕ) → i < count → answers i word answer → answer ≡ change i word
