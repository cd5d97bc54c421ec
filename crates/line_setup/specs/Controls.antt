-- What the control words say of a line.
use Rattle.std.specs.Prelude.{ℕ, ◌+◌, Bool, cond, List, eqb, get_or}
use Rattle.words.specs.Field.{field}
use Rattle.chip_timing.specs.Move.{total_width, total_lines}
use Rattle.line_setup.specs.declared.controls.Controls.{Controls}

-- the most pixels that a line can have (CHIP 2.3)
abbrev pub widest_line : ℕ
widest_line = 2048

-- a switch of control word 0 (CHIP 2.3)
unfoldable pub switch : ℕ → ℕ → Bool
switch word bit = eqb (field word bit bit) 1

-- the depth, by bit 4 of control word 0 (CHIP 2.3)
unfoldable pub depth_of : ℕ → ℕ
depth_of word = cond (switch word 4) 32 16

-- the fields of the control words; sizes and totals are a field plus 1 (CHIP 2.3)
unfoldable pub controls_of : List ℕ → Controls
controls_of control =
    record {
      -- word 0: the switches of overlay, ID table, cursor and cross-hair, and the depth
      overlay = switch (get_or control 0 0) 0;
      ids = switch (get_or control 0 0) 1;
      cursor = switch (get_or control 0 0) 2;
      crosshair = switch (get_or control 0 0) 3;
      depth = depth_of (get_or control 0 0);
      -- word 1: total width and total lines
      columns = total_width (get_or control 1 0);
      lines = total_lines (get_or control 1 0);
      -- word 6: x and y of the active origin
      left = field (get_or control 6 0) 11 0;
      top = field (get_or control 6 0) 27 16;
      -- word 7: active width and height
      width = field (get_or control 7 0) 10 0 + 1;
      height = field (get_or control 7 0) 26 16 + 1;
      -- word 8: x and y of the cursor
      cx = field (get_or control 8 0) 11 0;
      cy = field (get_or control 8 0) 27 16;
    }
