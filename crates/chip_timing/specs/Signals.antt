-- The signals of a position: horizontal and vertical sync, and blank.
use Rattle.std.specs.Prelude.{ℕ, Bool, ◌||◌, eqb}
use Rattle.words.specs.Field.{field}
use Rattle.chip_timing.specs.Window.{in_window}
use Rattle.chip_timing.specs.declared.Position.{Position}
use Rattle.chip_timing.specs.declared.Windows.{Windows}
use Rattle.chip_timing.specs.declared.Signals.{Signals}

-- whether p is in the window of a control word, which has on in 11..0 and off in 27..16 (CHIP 2.3, 3.1)
unfoldable pub window_holds : ℕ → ℕ → Bool
window_holds word p = in_window (field word 11 0) (field word 27 16) p

-- the window of a control word is empty: on and off are equal (CHIP 3.1)
unfoldable pub is_empty : ℕ → Bool
is_empty word = eqb (field word 11 0) (field word 27 16)

-- horizontal windows go by x and vertical ones by y; blank is either (CHIP 3.1, 3.2, 3.3)
unfoldable pub signals_at : Windows → Position → Signals
signals_at windows at =
    record {
      hsync = window_holds windows.hsync at.x;
      vsync = window_holds windows.vsync at.y;
      blank = window_holds windows.hblank at.x || window_holds windows.vblank at.y;
    }
