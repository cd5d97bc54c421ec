-- The move from one position to the next, and so many moves.
use Rattle.std.specs.Prelude.{ℕ, zero, suc, ◌+◌, cond, leb}
use Rattle.words.specs.Field.{field}
use Rattle.chip_timing.specs.declared.Position.{Position}

-- total width, which control word 1 has less 1 in 11..0 (CHIP 2.3)
abbrev pub total_width : ℕ → ℕ
total_width word = field word 11 0 + 1

-- total lines, which control word 1 has less 1 in 27..16 (CHIP 2.3)
abbrev pub total_lines : ℕ → ℕ
total_lines word = field word 27 16 + 1

-- p + 1, or 0 where p + 1 ≥ total (CHIP 3.4)
unfoldable pub onwards : ℕ → ℕ → ℕ
onwards p total = cond (leb total (p + 1)) 0 (p + 1)

-- x moves on; y does, likewise, where x + 1 ≥ total width (CHIP 3.4)
unfoldable pub next_position : Position → ℕ → Position
next_position at word =
    record {
      x = onwards at.x (total_width word);
      y = cond (leb (total_width word) (at.x + 1)) (onwards at.y (total_lines word)) at.y;
    }

-- the position after so many moves (CHIP 3.5)
unfoldable pub position_after : Position → ℕ → ℕ → Position
position_after at zero word = at
position_after at (suc count) word = position_after (next_position at word) count word
