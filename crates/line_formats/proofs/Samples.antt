-- What a sample of each format is, in plain numbers: the bits used, the index of the map, the channels in order and widened. Assumes nothing.
use Prim.Native.Nat.{ℕ, ◌+◌, ◌*◌, ◌/◌, ◌%◌, ◌^◌, ◌<◌}
use mathlib.Core.Path.{◌≡◌, refl, ap, sym, ◌∙◌}
use native.Mathlib.Nat.{div-one, mod-lt, mod-eq_of_lt, mul_comm, mul_assoc, add-mul}
use native.Mathlib.Omega.{arith}
use lib.Dec.{lit<}
use lib.Pow.{pow-add, high, low, shr-shr}
use Rattle.words.specs.Field.{bits}
use Rattle.line_formats.specs.Channel.{widened, colour_by_widths}
use Rattle.line_formats.specs.Table.{widths_of, value_of, entry_in_bank, colour_in_format}
use Rattle.line_formats.specs.declared.Format.TheVariants.{Index8, Index12, Rgb332, Rgb444, Rgb555, Rgb888}
use Rattle.line_formats.proofs.Widening.{widened_2, widened_3, widened_4, widened_5, widened_8}

-- the formats use 8, 12, 8, 12, 15 and 24 bits
pub bits_used :
    ((widths_of Index8).bits ≡ 8) × ((widths_of Index12).bits ≡ 12) × ((widths_of Rgb332).bits ≡ 8) × ((widths_of Rgb444).bits ≡ 12) × ((widths_of Rgb555).bits ≡ 15) × ((widths_of Rgb888).bits ≡ 24)
bits_used = (refl, refl, refl, refl, refl, refl)

-- format 0 is map entry 256·bank + value
pub index_8_in_numbers : (bank sample : ℕ) → entry_in_bank bank (value_of Index8 sample) ≡ 256 * bank + sample % 256
index_8_in_numbers bank sample = omega arith

-- format 1 is the value
pub index_12_in_numbers : (sample : ℕ) → value_of Index12 sample ≡ sample % 4096
index_12_in_numbers sample = omega arith

-- channels that widen to these make this colour
made_of : (sample red green blue r g b : ℕ) → (colour_by_widths sample red green blue).red ≡ r → (colour_by_widths sample red green blue).green ≡ g
    → (colour_by_widths sample red green blue).blue ≡ b → colour_by_widths sample red green blue ≡ record { red = r; green = g; blue = b }
made_of sample red green blue r g b is_red is_green is_blue = rw (is_red, is_green, is_blue)

module _ (sample : ℕ) where
  -- RGB 3-3-2: red in the three lowest bits, then green, then blue in two; 3 bits widen to 32v + 4v + ⌊v/2⌋, 2 bits to 85v
  pub rgb_332_in_numbers : let r = sample % 8 in
      let g = sample / 8 % 8 in
      colour_in_format Rgb332 sample ≡ record { red = 32 * r + 4 * r + r / 2; green = 32 * g + 4 * g + g / 2; blue = sample / 64 % 4 * 85 }
  rgb_332_in_numbers =
      made_of sample 3 3 2 _ _ _
      (widened_3 (bits sample 0 3) (mod-lt (sample / 1) {m = 8} (lit< tt)) ∙ rw div-one)
      (widened_3 (bits sample 3 3) (mod-lt (sample / 8) {m = 8} (lit< tt)))
      (widened_2 (bits sample 6 2) (mod-lt (sample / 64) {m = 4} (lit< tt)))

  -- RGB 4-4-4: four bits each, red lowest; 4 bits widen to 17v
  pub rgb_444_in_numbers : colour_in_format Rgb444 sample ≡ record { red = 17 * (sample % 16); green = 17 * (sample / 16 % 16); blue = 17 * (sample / 256 % 16) }
  rgb_444_in_numbers =
      made_of sample 4 4 4 _ _ _
      (widened_4 (bits sample 0 4) (mod-lt (sample / 1) {m = 16} (lit< tt)) ∙ rw div-one)
      (widened_4 (bits sample 4 4) (mod-lt (sample / 16) {m = 16} (lit< tt)))
      (widened_4 (bits sample 8 4) (mod-lt (sample / 256) {m = 16} (lit< tt)))

  -- RGB 5-5-5: five bits each, red lowest; 5 bits widen to 8v + ⌊v/4⌋
  pub rgb_555_in_numbers : let r = sample % 32 in
      let g = sample / 32 % 32 in
      let b = sample / 1024 % 32 in
      colour_in_format Rgb555 sample ≡ record { red = 8 * r + r / 4; green = 8 * g + g / 4; blue = 8 * b + b / 4 }
  rgb_555_in_numbers =
      made_of sample 5 5 5 _ _ _
      (widened_5 (bits sample 0 5) (mod-lt (sample / 1) {m = 32} (lit< tt)) ∙ rw div-one)
      (widened_5 (bits sample 5 5) (mod-lt (sample / 32) {m = 32} (lit< tt)))
      (widened_5 (bits sample 10 5) (mod-lt (sample / 1024) {m = 32} (lit< tt)))

  -- RGB 8-8-8: the three low bytes, red lowest, as they are
  pub rgb_888_in_numbers : colour_in_format Rgb888 sample ≡ record { red = sample % 256; green = sample / 256 % 256; blue = sample / 65536 % 256 }
  rgb_888_in_numbers =
      made_of sample 8 8 8 _ _ _
      (widened_8 (bits sample 0 8) (mod-lt (sample / 1) {m = 256} (lit< tt)) ∙ rw div-one)
      (widened_8 (bits sample 8 8) (mod-lt (sample / 256) {m = 256} (lit< tt)))
      (widened_8 (bits sample 16 8) (mod-lt (sample / 65536) {m = 256} (lit< tt)))

-- ---- the order of channels, whatever their widths

module _ (r g b red green blue : ℕ) (r_fits : r < 2 ^ red) (g_fits : g < 2 ^ green) (b_fits : b < 2 ^ blue) where
  -- blue above green above red
  abbrev stacked : ℕ
  stacked = (b * 2 ^ green + g) * 2 ^ red + r

  -- the lowest bits are red's
  red_lowest : bits stacked 0 red ≡ r
  red_lowest = rw div-one (low (b * 2 ^ green + g) red r_fits)

  -- behind red comes green
  green_next : bits stacked red green ≡ g
  green_next = rw (high (b * 2 ^ green + g) red r_fits) (low b green g_fits)

  -- behind green comes blue
  blue_last : bits stacked (red + green) blue ≡ b
  blue_last = rw (← shr-shr stacked red green, high (b * 2 ^ green + g) red r_fits, high b green g_fits) (mod-eq_of_lt b_fits)

  -- the sum of the three is one above the other
  sum_stacked : r + g * 2 ^ red + b * 2 ^ (red + green) ≡ stacked
  sum_stacked =
      let top : b * 2 ^ (red + green) ≡ b * 2 ^ green * 2 ^ red = rw (pow-add 2 red green, mul_comm (2 ^ red) (2 ^ green)) (sym (mul_assoc b (2 ^ green) (2 ^ red))) in
      rw (top, add-mul (b * 2 ^ green) g (2 ^ red)) (omega arith)

  -- a sample r + g·2^red + b·2^(red + green) has the channels r, g and b, each widened from its own width
  pub red_green_blue : colour_by_widths (r + g * 2 ^ red + b * 2 ^ (red + green)) red green blue
      ≡ record { red = widened r red; green = widened g green; blue = widened b blue }
  red_green_blue =
      rw sum_stacked
      (made_of stacked red green blue _ _ _
      (ap (λ (v : ℕ). widened v red) red_lowest)
      (ap (λ (v : ℕ). widened v green) green_next)
      (ap (λ (v : ℕ). widened v blue) blue_last))
