-- The three moves, along the line, to the next line and to the first line; and that a position stays within 12 bits. Assumes nothing.
use Prim.Native.Nat.{ℕ, ◌+◌, ◌/◌, ◌^◌, ◌≤◌, ◌<◌}
use mathlib.Core.Path.{◌≡◌, refl}
use mathlib.Core.Bool.{Bool, true, false, cond}
use native.Mathlib.Omega.{arith}
use native.Mathlib.Nat.{mod-lt}
use borrow.Author.Tests.{le-leb, lt-leb, leb-false}
use lib.Dec.{leb, lit<}
use Rattle.words.specs.Field.{field}
use Rattle.chip_timing.specs.Move.{total_width, total_lines, onwards, next_position}
use Rattle.chip_timing.specs.declared.Position.{Position}

module _ (at : Position) (word : ℕ) where
  -- before the end of a line a move adds 1 to x and leaves y
  pub move_along : at.x < field word 11 0 → next_position at word ≡ record { x = at.x + 1; y = at.y }
  unfolding next_position onwards
  move_along more = simp (lt-leb (total_width word) (at.x + 1) (omega arith))

  module _ (over : field word 11 0 ≤ at.x) where
    -- at the end of a line a move leads to x 0 of the line that y moves on to
    pub move_end : next_position at word ≡ record { x = 0; y = onwards at.y (total_lines word) }
    unfolding next_position onwards
    move_end = simp (le-leb (total_width word) (at.x + 1) (omega arith))

    -- from the end of a line before the last a move leads to the start of the next line
    pub move_down : at.y < field word 27 16 → next_position at word ≡ record { x = 0; y = at.y + 1 }
    unfolding next_position onwards
    move_down more = simp (le-leb (total_width word) (at.x + 1) (omega arith), lt-leb (total_lines word) (at.y + 1) (omega arith))

    -- from the end of the last line a move leads to the start of line 0
    pub move_home : field word 27 16 ≤ at.y → next_position at word ≡ record { x = 0; y = 0 }
    unfolding next_position onwards
    move_home last = simp (le-leb (total_width word) (at.x + 1) (omega arith), le-leb (total_lines word) (at.y + 1) (omega arith))

-- by the test of a step on: past the last it comes to 0, else to one more, and neither is more than the last
onwards_le : (p last : ℕ) (test : Bool) → leb (last + 1) (p + 1) ≡ test → cond test 0 (p + 1) ≤ last
onwards_le p last true e = omega arith
onwards_le p last false e = omega (arith, leb-false (last + 1) (p + 1) e)

-- a step on comes to no more than the total less 1
onwards_below : (p last : ℕ) → onwards p (last + 1) ≤ last
unfolding onwards
onwards_below p last = onwards_le p last (leb (last + 1) (p + 1)) refl

-- of two numbers below a limit the one that a test chooses is below it
below_limit : (limit p q : ℕ) (test : Bool) → p < limit → q < limit → cond test p q < limit
below_limit limit p q true hp hq = hp
below_limit limit p q false hp hq = hq

module _ (at : Position) (word : ℕ) where
  -- x is within the line after a move
  pub next_x_le : (next_position at word).x ≤ field word 11 0
  unfolding next_position
  next_x_le = onwards_below at.x (field word 11 0)

  -- x has 12 bits after a move
  pub next_x_lt : (next_position at word).x < 2 ^ 12
  next_x_lt = omega (arith, next_x_le, mod-lt (word / 2 ^ 0) {m = 2 ^ 12} (lit< tt))

  -- y has 12 bits after a move if it had before
  pub next_y_lt : at.y < 2 ^ 12 → (next_position at word).y < 2 ^ 12
  unfolding next_position
  next_y_lt h =
      below_limit (2 ^ 12) (onwards at.y (total_lines word)) at.y (leb (total_width word) (at.x + 1))
      (omega (arith, onwards_below at.y (field word 27 16), mod-lt (word / 2 ^ 16) {m = 2 ^ 12} (lit< tt)))
      h
