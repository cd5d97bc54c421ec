-- Long runs in RGB 4-4-4 and 5-5-5 through gamma: what the two tables have, and why the sum of a pair and a blue is the plain colour of a pixel. Assumes nothing.
use Prim.Native.Nat.{ℕ, zero, suc, ◌+◌, ◌*◌, ◌/◌, ◌%◌, ◌^◌, ◌≤◌, ◌<◌}
use mathlib.Core.Path.{◌≡◌, refl, ap, ap₂, ◌∙◌}
use mathlib.Core.Bool.{false}
use mathlib.Core.Logic.{inl, inr}
use mathlib.Core.List.{List}
use native.Mathlib.Nat.{le_refl, mod-lt, div-lt_iff_lt-mul}
use native.Mathlib.Omega.{arith}
use lib.Dec.{lit≤}
use lib.ListN.{length, get_or, replicate, length-replicate}
use lib.Pow.{pow_pos}
use Rattle.rules.specs.Rule.{value}
use Rattle.rules.specs.Lists.{filled}
use Rattle.rules.proofs.Fill.{filled_length, looked_up}
use Rattle.words.specs.Field.{bits}
use Rattle.words.specs.Bytes.{big_endian}
use Rattle.words.specs.Channels.{word_of}
use Rattle.words.proofs.Bytes.{big_endian_2}
use Rattle.line_formats.specs.Channel.{widened, colour_by_widths}
use Rattle.line_formats.specs.Table.{colour_in_format}
use Rattle.line_formats.specs.declared.Format.TheVariants.{Rgb444, Rgb555}
use Rattle.line_formats.proofs.Widening.{widened_lt, widened_4, widened_5}
use Rattle.line_colour.specs.declared.entry.WindowEntry.{WindowEntry}
use Rattle.line_colour.proofs.Defined.{Says}
use Rattle.line_pixels.specs.Cells.{pixel_view}
use Rattle.line_pixels.specs.Colour.{through_gamma, plain_at}
use Rattle.line_pixels.specs.Inner.{gamma_red, gamma_green, gamma_blue, PairedBy, PairsFit, paired_444, paired_555}
use Rattle.line_pixels.specs.SamplePlace.{place_at}
use Rattle.line_pixels.proofs.GammaTables.{gamma_sum}
use Rattle.line_pixels.proofs.Halves.{AllBytes}
use Rattle.line_pixels.proofs.LayersCases.{plain_of_normal}
use Rattle.line_pixels.proofs.RgbRuns.{red_444, green_444, blue_444, red_555, green_555, blue_555, pixel_normal}

module _ (store : List ℕ) (quarters values : ℕ) {reds greens blues : List ℕ} (reds₀ greens₀ blues₀ : List ℕ)
    (reds_long : length reds₀ ≡ values) (greens_long : length greens₀ ≡ values) (blues_long : length blues₀ ≡ values)
    (reds_are : reds ≡ filled (λ v. gamma_red store (quarters * v / 4)) 0 reds₀ (length reds₀))
    (greens_are : greens ≡ filled (λ v. gamma_green store (quarters * v / 4)) 0 greens₀ (length greens₀))
    (blues_are : blues ≡ filled (λ v. gamma_blue store (quarters * v / 4)) 0 blues₀ (length blues₀)) where
  -- a table of a channel has as many words as the channel has values
  table_long : (channel : ℕ → ℕ) (before : List ℕ) {table : List ℕ} → length before ≡ values → table ≡ filled channel 0 before (length before) → length table ≡ values
  table_long channel before long is = ap length is ∙ (filled_length channel 0 before (length before) (le_refl (length before)) ∙ long)

  -- that of red
  pub reds_many : length reds ≡ values
  reds_many = table_long (λ v. gamma_red store (quarters * v / 4)) reds₀ reds_long reds_are

  -- that of green
  pub greens_many : length greens ≡ values
  greens_many = table_long (λ v. gamma_green store (quarters * v / 4)) greens₀ greens_long greens_are

  -- a red is that of the gamma word that its value picks
  red_of : (v : ℕ) → v < values → get_or reds v 0 ≡ gamma_red store (quarters * v / 4)
  red_of v below = looked_up (λ v. gamma_red store (quarters * v / 4)) reds₀ (length reds₀) v 0 reds_are (rw reds_long below)

  -- a green too
  green_of : (v : ℕ) → v < values → get_or greens v 0 ≡ gamma_green store (quarters * v / 4)
  green_of v below = looked_up (λ v. gamma_green store (quarters * v / 4)) greens₀ (length greens₀) v 0 greens_are (rw greens_long below)

  -- no red is more than its channel, where it stands in a colour
  pub reds_fit : (v : ℕ) → v < length reds → get_or reds v 0 ≤ 255 * 65536
  reds_fit v below = let below' : v < values = rw reds_many at below in omega (arith, red_of v below')

  -- no green is
  pub greens_fit : (v : ℕ) → v < length greens → get_or greens v 0 < 65536
  greens_fit v below = let below' : v < values = rw greens_many at below in omega (arith, green_of v below')

  -- the pairs of such reds and greens, and the blues, are the final words
  pub words_made : {pairs : List ℕ} (pairs₀ : List ℕ) → 1 ≤ values → length pairs₀ ≡ values * values
      → pairs ≡ filled (λ k. get_or reds (k % length reds) 0 + get_or greens (k / length reds) 0) 0 pairs₀ (length greens * length reds)
      → PairedBy store values quarters pairs blues
  words_made {pairs} pairs₀ some pairs_long sums_are =
      let pairs_are : pairs ≡ filled (λ k. get_or reds (k % values) 0 + get_or greens (k / values) 0) 0 pairs₀ (values * values) = rw (reds_many, greens_many) at sums_are in
      record {
        pairs_long = ap length pairs_are ∙ (filled_length (λ k. get_or reds (k % values) 0 + get_or greens (k / values) 0) 0 pairs₀ (values * values) (omega arith) ∙ pairs_long);
        blues_long = table_long (λ v. gamma_blue store (quarters * v / 4)) blues₀ blues_long blues_are;
        in_pairs = λ k below.
            looked_up (λ k. get_or reds (k % values) 0 + get_or greens (k / values) 0) pairs₀ (values * values) k 0 pairs_are below
            ∙ ap₂ (λ (r g : ℕ). r + g) (red_of (k % values) (mod-lt k some)) (green_of (k / values) ((div-lt_iff_lt-mul some).1 below));
        in_blues = λ v below. looked_up (λ v. gamma_blue store (quarters * v / 4)) blues₀ (length blues₀) v 0 blues_are (rw blues_long below);
      }

-- final words are no more than their channels, where they stand in a colour
pub words_fit : {store pairs blues : List ℕ} {values quarters : ℕ} → PairedBy store values quarters pairs blues → PairsFit values pairs blues
words_fit made =
    record {
      pairs_long = made.pairs_long;
      blues_long = made.blues_long;
      pairs_fit = λ k below. omega (arith, made.in_pairs k below);
      blues_fit = λ v below. omega (arith, made.in_blues v below);
    }

-- an element of a list of zeros is zero
zero_at : (count place : ℕ) → get_or (replicate {A = ℕ} count 0) place 0 ≡ 0
zero_at zero place = refl
zero_at (suc count) zero = refl
zero_at (suc count) (suc place) = zero_at count place

-- tables of zeros fit
pub zeros_fit : (values pairs : ℕ) → pairs ≡ values * values → PairsFit values (replicate pairs 0) (replicate values 0)
zeros_fit values pairs many =
    record {
      pairs_long = length-replicate {A = ℕ} pairs 0 ∙ many;
      blues_long = length-replicate {A = ℕ} values 0;
      pairs_fit = λ k below. omega (arith, zero_at pairs k);
      blues_fit = λ v below. omega (arith, zero_at values v);
    }

-- the colour of a sample whose channels all have one width, through gamma, is the sum of the pair of its red and green and its blue
pair_and_blue : (width quarters : ℕ) → 1 ≤ width → ((v : ℕ) → v < 2 ^ width → widened v width ≡ quarters * v / 4) → {store pairs blues : List ℕ}
    → PairedBy store (2 ^ width) quarters pairs blues → (normal overlay : List ℕ) (sample k v : ℕ) → k < 2 ^ width * 2 ^ width
    → bits sample 0 width ≡ k % 2 ^ width → bits sample width width ≡ k / 2 ^ width → bits sample (width + width) width ≡ v
    → get_or pairs k 0 + get_or blues v 0 ≡ value (pixel_view store normal overlay) (through_gamma false (word_of (colour_by_widths sample width width width)))
pair_and_blue width quarters some closed {store} made normal overlay sample k v below red green blue =
    let small : (low : ℕ) → bits sample low width < 2 ^ width = λ low. mod-lt (sample / 2 ^ low) (pow_pos width) in
    let r = widened (bits sample 0 width) width in
    let g = widened (bits sample width width) width in
    let b = widened (bits sample (width + width) width) width in
    let word = word_of (colour_by_widths sample width width width) in
    let r_lt : r < 256 = widened_lt (bits sample 0 width) width some (small 0) in
    let g_lt : g < 256 = widened_lt (bits sample width width) width some (small width) in
    let b_lt : b < 256 = widened_lt (bits sample (width + width) width) width some (small (width + width)) in
    let red_at : word / 65536 % 256 ≡ quarters * (k % 2 ^ width) / 4 =
    channel_red r g b r_lt g_lt b_lt ∙ (closed (bits sample 0 width) (small 0) ∙ ap (λ (n : ℕ). quarters * n / 4) red) in
    let green_at : word / 256 % 256 ≡ quarters * (k / 2 ^ width) / 4 =
    channel_green r g b r_lt g_lt b_lt ∙ (closed (bits sample width width) (small width) ∙ ap (λ (n : ℕ). quarters * n / 4) green) in
    let blue_at : word % 256 ≡ quarters * v / 4 =
    channel_blue r g b r_lt g_lt b_lt ∙ (closed (bits sample (width + width) width) (small (width + width)) ∙ ap (λ (n : ℕ). quarters * n / 4) blue) in
    let v_lt : v < 2 ^ width = rw (← blue) (small (width + width)) in
    rw (made.in_pairs k below, made.in_blues v v_lt, ← red_at, ← green_at, ← blue_at) (gamma_sum store normal overlay word)
  where
    -- the channels of the word of three channels
    channel_red : (r g b : ℕ) → r < 256 → g < 256 → b < 256 → (r * 2 ^ 16 + g * 2 ^ 8 + b) / 65536 % 256 ≡ r
    channel_red r g b r_lt g_lt b_lt = omega arith

    -- its green
    channel_green : (r g b : ℕ) → r < 256 → g < 256 → b < 256 → (r * 2 ^ 16 + g * 2 ^ 8 + b) / 256 % 256 ≡ g
    channel_green r g b r_lt g_lt b_lt = omega arith

    -- its blue
    channel_blue : (r g b : ℕ) → r < 256 → g < 256 → b < 256 → (r * 2 ^ 16 + g * 2 ^ 8 + b) % 256 ≡ b
    channel_blue r g b r_lt g_lt b_lt = omega arith

module _ {store pairs blues : List ℕ} (normal overlay : List ℕ) (all : AllBytes normal) (at : ℕ) where
  -- the colour of two bytes in RGB 4-4-4 by the tables is their colour through gamma
  shown_444 : PairedBy store 16 68 pairs blues
      → paired_444 pairs blues normal at ≡ value (pixel_view store normal overlay) (through_gamma false (word_of (colour_in_format Rgb444 (big_endian normal at 2))))
  shown_444 made =
      let low = get_or normal at 0 in
      let high = get_or normal (at + 1) 0 in
      let below = all (at + 1) in
      rw (big_endian_2 normal at)
      (pair_and_blue 4 68 (lit≤ tt) (λ v small. widened_4 v small ∙ omega arith) made normal overlay (low * 256 + high) high (low % 16) below
      (red_444 low high below) (green_444 low high below) (blue_444 low high below))

  -- so it is in RGB 5-5-5
  shown_555 : PairedBy store 32 33 pairs blues
      → paired_555 pairs blues normal at ≡ value (pixel_view store normal overlay) (through_gamma false (word_of (colour_in_format Rgb555 (big_endian normal at 2))))
  shown_555 made =
      let low = get_or normal at 0 in
      let high = get_or normal (at + 1) 0 in
      let below = all (at + 1) in
      let red_here : high % 32 ≡ (low % 4 * 256 + high) % 32 = omega arith in
      let green_here : low % 4 * 8 + high / 32 ≡ (low % 4 * 256 + high) / 32 = omega arith in
      rw (big_endian_2 normal at)
      (pair_and_blue 5 33 (lit≤ tt) (λ v small. widened_5 v small ∙ omega arith) made normal overlay (low * 256 + high) (low % 4 * 256 + high) (low / 4 % 32) (omega arith)
      (red_555 low high below ∙ red_here) (green_555 low high below ∙ green_here) (blue_555 low high below))

module _ {depth : ℕ} {entry : WindowEntry} {store pairs blues : List ℕ} (normal overlay : List ℕ) (says : Says depth entry) (all : AllBytes normal) (through : entry.bypass ≡ false) (x i : ℕ) where
  -- the colour in RGB 4-4-4 by the tables is the plain colour of a pixel
  pub plain_444 : entry.format ≡ Rgb444 → PairedBy store 16 68 pairs blues
      → paired_444 pairs blues normal (place_at depth entry.low 2 x i) ≡ value (pixel_view store normal overlay) (plain_at depth entry (x + i))
  plain_444 is made =
      plain_of_normal (pixel_view store normal overlay) depth entry (x + i) (pixel_normal {m = 2} store normal overlay says all (rw is) is (inr (inl is)) x i)
      (rw through (shown_444 normal overlay all (place_at depth entry.low 2 x i) made))

  -- so it is in RGB 5-5-5
  pub plain_555 : entry.format ≡ Rgb555 → PairedBy store 32 33 pairs blues
      → paired_555 pairs blues normal (place_at depth entry.low 2 x i) ≡ value (pixel_view store normal overlay) (plain_at depth entry (x + i))
  plain_555 is made =
      plain_of_normal (pixel_view store normal overlay) depth entry (x + i) (pixel_normal {m = 2} store normal overlay says all (rw is) is (inr (inr (inl is))) x i)
      (rw through (shown_555 normal overlay all (place_at depth entry.low 2 x i) made))
