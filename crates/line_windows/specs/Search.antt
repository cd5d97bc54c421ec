-- The search for an end, of frame entries and of line entries alike.
use Rattle.std.specs.Prelude.{ℕ, ◌-◌, ◌<◌, leb}
use Rattle.rules.specs.Rule.{Rule}
use Rattle.rules.specs.First.{first_from}

-- of `count` entries the first, from entry `from` on, whose end is at least `position` (CHIP 4.4, 4.7)
unfoldable pub serving_from : {R Q : Type 0} → R → (ℕ → Q) → ℕ → ℕ → ℕ → Rule R Q ℕ
serving_from missing end count from position = first_from missing end (leb position) (count - from) from

-- of `count` entries the first whose end is at least `position` (CHIP 4.4, 4.7)
abbrev pub serving_entry : {R Q : Type 0} → R → (ℕ → Q) → ℕ → ℕ → Rule R Q ℕ
serving_entry missing end count position = serving_from missing end count 0 position

-- of `count` entries none serves `position`: each ends before it (CHIP 4.4, 4.7)
pub record NoneServes {Q : Type 0} (memory : Q → ℕ) (end : ℕ → Q) (count position : ℕ) : Type 0 where
  pub short : (entry : ℕ) → entry < count → memory (end entry) < position
