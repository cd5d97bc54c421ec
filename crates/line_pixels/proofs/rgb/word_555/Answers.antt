-- Three channels of 5 bits, all widened at once.
use Rattle.std.proofs.Common.{ℕ, ◌+◌, ◌*◌, ◌/◌, ◌%◌, ◌<◌, ◌≡◌, ◌∙◌, sym, arith}
use Rattle.line_formats.proofs.Widening.{widened_5}
use Rattle.line_pixels.proofs.RgbRuns.{red_555, green_555, blue_555, word_by}
use Rattle.line_pixels.proofs.rgb.word_555.Goals as goal

module _ (half : ℕ) where
  -- of two bytes loaded as one number, the low bits are those of the first
  low_loaded : half % 256 % 4 ≡ half % 4
  low_loaded = omega arith

  -- the high bits are those of the second
  high_loaded : half / 256 / 32 ≡ half / 8192
  high_loaded = omega arith

  -- those between are the first's other bits
  between_loaded : half % 256 / 4 % 32 ≡ half / 4 % 32
  between_loaded = omega arith

module _ (red green blue : ℕ) (red_below : red < 32) (green_below : green < 32) (blue_below : blue < 32) where
  -- the top bits of red, of three channels each in a byte of its own
  top_of_red : (red * 65536 + green * 256 + blue) / 262144 % 8 ≡ red / 4
  top_of_red = omega arith

  -- those of green
  top_of_green : (red * 65536 + green * 256 + blue) / 1024 % 8 ≡ green / 4
  top_of_green = omega arith

  -- those of blue
  top_of_blue : (red * 65536 + green * 256 + blue) / 4 % 8 ≡ blue / 4
  top_of_blue = omega arith

  -- widened at once they are what each is, widened alone
  at_once :
      let spread = red * 65536 + green * 256 + blue in
      8 * spread + (spread / 4 % 8 + spread / 1024 % 8 * 256 + spread / 262144 % 8 * 65536)
      ≡ (8 * red + red / 4) * 65536 + (8 * green + green / 4) * 256 + (8 * blue + blue / 4)
  at_once = rw (top_of_red, top_of_green, top_of_blue) (omega arith)

pub returns : goal.returns
returns c =
    let half = c.args.half in
    let low = half % 256 in
    let high = half / 256 in
    let below : high < 256 = omega arith in
    rw (c.widened_5.ensures, c.spread_555.ensures)
    (at_once (half / 256 % 32) (half % 4 * 8 + half / 8192) (half / 4 % 32) (omega arith) (omega arith) (omega arith)
    ∙ sym
    (word_by 5 (λ (v : ℕ). 8 * v + v / 4) widened_5 (low * 256 + high)
    ∙ rw (red_555 low high below, green_555 low high below, blue_555 low high below, low_loaded half, high_loaded half, between_loaded half)))
