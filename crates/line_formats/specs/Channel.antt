-- A channel of a few bits, widened to 8 by repeating its bits from the top.
use Rattle.std.specs.Prelude.{ℕ, zero, suc, ◌+◌, ◌-◌, ◌*◌, ◌/◌, ◌^◌}
use Rattle.words.specs.Field.{bits}
use Rattle.words.specs.declared.Rgb.{Rgb}

-- a number of `width` bits, `count` times over, one behind the other (CHIP 5.7)
abbrev pub repeated : ℕ → ℕ → ℕ → ℕ
repeated value width zero = 0
repeated value width (suc count) = repeated value width count * 2 ^ width + value

-- the first 8 of the repeated bits (CHIP 5.7)
unfoldable pub widened : ℕ → ℕ → ℕ
widened value width = repeated value width 8 / 2 ^ (8 * width - 8)

-- the channel of a sample that has `width` bits, from bit `low` up (CHIP 5.6)
abbrev pub channel : ℕ → ℕ → ℕ → ℕ
channel sample low width = widened (bits sample low width) width

-- the colour of a sample whose channels have these widths: red lowest, then green, then blue (CHIP 5.6, 5.8)
abbrev pub colour_by_widths : ℕ → ℕ → ℕ → ℕ → Rgb
colour_by_widths sample red green blue =
    record {
      red = channel sample 0 red;
      green = channel sample red green;
      blue = channel sample (red + green) blue;
    }
