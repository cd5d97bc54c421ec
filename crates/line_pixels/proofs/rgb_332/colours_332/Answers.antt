-- The colour of a sample is that of its red together with that of all else.
use Rattle.std.proofs.Common.{rules, ℕ, List, ◌+◌, ◌*◌, ◌/◌, ◌%◌, ◌^◌, ◌≤◌, ◌<◌, ◌≡◌, ◌∙◌, sym, ap, get_or, length, arith}
use mathlib.Core.Path.{ap₂}
use lib.ListN.{replicate}
use lib.Pow.{shr-shr}
use Rattle.rules.specs.Lists.{filled}
use Rattle.rules.proofs.Fill.{looked_up}
use Rattle.words.specs.Field.{bits}
use Rattle.words.specs.Channels.{word_of}
use Rattle.line_formats.specs.Table.{colour_in_format}
use Rattle.line_formats.specs.declared.Format.TheVariants.{Rgb332}
use Rattle.line_formats.proofs.Widening.{widened_2, widened_3}
use Rattle.line_pixels.proofs.RgbRuns.{channel_by}
use Rattle.line_pixels.proofs.rgb_332.colours_332.Goals as goal

-- the colour of a sample
abbrev colour : ℕ → ℕ
colour sample = word_of (colour_in_format Rgb332 sample)

-- three bits widened
abbrev three : ℕ → ℕ
three v = 32 * v + 4 * v + v / 2

-- a colour's word in closed form
word_332 : (sample : ℕ) → colour sample ≡ three (bits sample 0 3) * 2 ^ 16 + three (bits sample 3 3) * 2 ^ 8 + bits sample 6 2 * 85
word_332 sample = cc (channel_by 3 three widened_3 sample 0, channel_by 3 three widened_3 sample 3, channel_by 2 (λ (v : ℕ). v * 85) widened_2 sample 6)

module _ (red : ℕ) (below : red < 8) where
  -- a sample of red alone has that red
  red_alone : bits red 0 3 ≡ red
  red_alone = omega arith

  -- no green
  no_green : bits red 3 3 ≡ 0
  no_green = omega arith

  -- and no blue
  no_blue : bits red 6 2 ≡ 0
  no_blue = omega arith

  -- its colour is that red alone
  colour_of_red : colour red ≡ three red * 65536
  colour_of_red = word_332 red ∙ rw (red_alone, no_green, no_blue) (omega arith)

module _ (other : ℕ) where
  -- a sample without red has none
  no_red : bits (8 * other) 0 3 ≡ 0
  no_red = omega arith

  -- green is the low bits of all else
  green_of : bits (8 * other) 3 3 ≡ other % 8
  green_of = omega arith

  -- blue is the others
  blue_of : bits (8 * other) 6 2 ≡ other / 8 % 4
  blue_of = omega arith

  -- its colour is that of green and blue
  colour_of_other : colour (8 * other) ≡ three (other % 8) * 256 + other / 8 % 4 * 85
  colour_of_other = word_332 (8 * other) ∙ rw (no_red, green_of, blue_of) (omega arith)

-- a colour is that of its red together with that of all else
sum_of : (sample : ℕ) → sample < 256 → colour (sample % 8) + colour (8 * (sample / 8)) ≡ colour sample
sum_of sample below =
    let red : bits sample 0 3 ≡ sample % 8 = omega arith in
    let green : bits sample 3 3 ≡ sample / 8 % 8 = omega arith in
    let blue : bits sample 6 2 ≡ sample / 8 / 8 % 4 = ap (λ (n : ℕ). n % 4) (sym (shr-shr sample 3 3)) in
    rw (colour_of_red (sample % 8) (omega arith), colour_of_other (sample / 8), word_332 sample, red, green, blue) (omega arith)

module _ {reds others : List ℕ} (none_red none_other : List ℕ) (reds_are : reds ≡ filled colour 0 none_red 8) (others_are : others ≡ filled (λ k. colour (8 * k)) 0 none_other 32) where
  -- a red is that of its sample
  red_of : (k : ℕ) → k < 8 → get_or reds k 0 ≡ colour k
  red_of k below = looked_up colour none_red 8 k 0 reds_are below

  -- what has no red too
  other_of : (k : ℕ) → k < 32 → get_or others k 0 ≡ colour (8 * k)
  other_of k below = looked_up (λ k. colour (8 * k)) none_other 32 k 0 others_are below

  -- the sums are the colours of all samples
  sums_are : (sums₀ : List ℕ) {sums : List ℕ} → sums ≡ filled (λ k. get_or reds (k % 8) 0 + get_or others (k / 8) 0) 0 sums₀ 256
      → (sample : ℕ) → sample < 256 → get_or sums sample 0 ≡ colour sample
  sums_are sums₀ is sample below =
      looked_up (λ k. get_or reds (k % 8) 0 + get_or others (k / 8) 0) sums₀ 256 sample 0 is below
      ∙ (ap₂ (λ (red other : ℕ). red + other) (red_of (sample % 8) (omega arith)) (other_of (sample / 8) (omega arith)) ∙ sum_of sample below)

  -- a red is no more than its channel, where it stands in a colour
  red_fits : (k : ℕ) → k < 8 → get_or reds k 0 ≤ 255 * 65536
  red_fits k below = rw (red_of k below, colour_of_red k below) (omega arith)

  -- what has no red doesn't reach it
  other_fits : (k : ℕ) → k < 32 → get_or others k 0 < 65536
  other_fits k below = rw (other_of k below, colour_of_other k) (omega arith)

pub sum_rows-requires : goal.sum_rows-requires
sum_rows-requires c =
    let reds = c.fill.ensures colour (λ i answer below post. search rules) in
    let others = c.fill-2.ensures (λ k. colour (8 * k)) (λ i answer below post. search rules) in
    let eight : length c.fill.new.words ≡ 8 = ap length reds in
    let thirty_two : length c.fill-2.new.words ≡ 32 = ap length others in
    rw (eight, thirty_two) (
      red_fits {reds = c.fill.new.words} {others = c.fill-2.new.words} (replicate 8 0) (replicate 32 0) reds others,
      other_fits {reds = c.fill.new.words} {others = c.fill-2.new.words} (replicate 8 0) (replicate 32 0) reds others,
      omega (arith, c.told-colours),
    )

pub returns : goal.returns
returns c =
    let reds = c.fill.ensures colour (λ i answer below post. search rules) in
    let others = c.fill-2.ensures (λ k. colour (8 * k)) (λ i answer below post. search rules) in
    let eight : length c.fill.new.words ≡ 8 = ap length reds in
    let thirty_two : length c.fill-2.new.words ≡ 32 = ap length others in
    sums_are {reds = c.fill.new.words} {others = c.fill-2.new.words} (replicate 8 0) (replicate 32 0) reds others c.args.colours.now (rw (eight, thirty_two) at c.sum_rows.ensures)
