-- Each pixel gets the last three of its four bytes, the last the highest.
use Rattle.std.proofs.Common.{ℕ, ◌+◌, ◌*◌, ◌/◌, ◌^◌, ◌<◌, ◌≡◌, ◌∙◌, arith}
use Rattle.words.specs.Field.{bits}
use Rattle.words.specs.Channels.{word_of}
use Rattle.words.proofs.Bytes.{big_endian_4}
use Rattle.line_formats.specs.Table.{colour_in_format}
use Rattle.line_formats.specs.declared.Format.TheVariants.{Rgb888}
use Rattle.line_formats.proofs.Widening.{widened_8}
use Rattle.line_pixels.proofs.RgbRuns.{word_by}
use Rattle.line_pixels.proofs.rgb.colour_888.Goals as goal

-- four bytes, of which the first is dropped: loaded the first the lowest, the others stand as the channels do
module _ (a b c d : ℕ) (b_below : b < 256) (c_below : c < 256) (d_below : d < 256) where
  -- what a pixel holds, the first byte the highest
  abbrev pixel : ℕ
  pixel = a * 16777216 + b * 65536 + c * 256 + d

  -- red is the last byte
  red_of : bits pixel 0 8 ≡ d
  red_of = omega arith

  -- green is the third
  green_of : bits pixel 8 8 ≡ c
  green_of = omega arith

  -- blue is the second
  blue_of : bits pixel 16 8 ≡ b
  blue_of = omega arith

  -- the colour of the pixel
  colour_of : word_of (colour_in_format Rgb888 pixel) ≡ d * 2 ^ 16 + c * 2 ^ 8 + b
  colour_of = word_by 8 (λ (v : ℕ). v) widened_8 pixel ∙ rw (red_of, green_of, blue_of)

  -- it is what was loaded, without the first byte
  of_loaded : {loaded : ℕ} → loaded ≡ a + b * 256 + c * 65536 + d * 16777216 → a < 256 → loaded / 256 ≡ word_of (colour_in_format Rgb888 pixel)
  of_loaded is a_below = rw colour_of (omega arith)

pub returns : goal.returns
returns c =
    let loaded = c.le32.ensures in
    rw (big_endian_4 c.args.normal.now c.args.at) (of_loaded _ _ _ _ loaded.2 loaded.3 loaded.4 loaded.0 loaded.1)
