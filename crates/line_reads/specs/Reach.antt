-- How far a line gets: to its end, or up to what it is refused for.
use Rattle.std.specs.Prelude.{ℕ, suc, Bool, true, false}

-- a search by ends goes up to the entry found, or where none serves through all
pub data Search : Type 0 where
  to_the_one_found : Search
  through_all : Search

-- how far a line gets: its search of frame entries, its search of line entries, how many pixels it meets, and whether they are coloured
pub record Reach : Type 0 where
  pub frames : Search
  pub lines : Search
  pub met : ℕ
  pub coloured : Bool

-- a line that is drawn meets every pixel of its width, and each has a colour (CHIP 7.1)
abbrev pub drawn_whole : ℕ → Reach
drawn_whole width = record { frames = to_the_one_found; lines = to_the_one_found; met = width; coloured = true }

-- 7: no frame entry serves, and no pixel is met (CHIP 7.2)
abbrev pub no_frame_entry : Reach
no_frame_entry = record { frames = through_all; lines = to_the_one_found; met = 0; coloured = false }

-- 8 at x: the pixels before x are met, and for x no line entry serves (CHIP 7.2)
abbrev pub no_line_entry : ℕ → Reach
no_line_entry x = record { frames = to_the_one_found; lines = through_all; met = x; coloured = false }

-- 9 at x: the pixels up to x are met, x too (CHIP 7.2)
abbrev pub undefined_entry : ℕ → Reach
undefined_entry x = record { frames = to_the_one_found; lines = to_the_one_found; met = suc x; coloured = false }
