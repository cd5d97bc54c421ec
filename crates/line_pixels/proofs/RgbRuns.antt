-- Runs in RGB: the channels in two bytes, a colour's word in closed form, and why the colours of the bytes that hold the samples are the normal colours. Assumes nothing.
use Prim.Native.Nat.{ℕ, ◌+◌, ◌*◌, ◌/◌, ◌%◌, ◌^◌, ◌≤◌, ◌<◌}
use mathlib.Core.Path.{◌≡◌, sym, ap, ◌∙◌}
use mathlib.Core.Logic.{◌⊎◌}
use mathlib.Core.List.{List}
use native.Mathlib.Nat.{div-one, mod-lt}
use native.Mathlib.Omega.{arith}
use lib.Dec.{lit≤}
use lib.ListN.{get_or}
use lib.Pow.{pow_pos}
use Rattle.rules.specs.Rule.{value}
use Rattle.words.specs.Field.{bits}
use Rattle.words.specs.Bytes.{big_endian}
use Rattle.words.specs.Channels.{word_of}
use Rattle.words.proofs.Bytes.{big_endian_2}
use Rattle.words.proofs.LowBits.{bits_of_low}
use Rattle.line_formats.specs.Channel.{widened, channel, colour_by_widths}
use Rattle.line_formats.specs.Table.{widths_of, colour_in_format}
use Rattle.line_formats.specs.declared.Format.{Format}
use Rattle.line_formats.specs.declared.Format.TheVariants.{Index8, Index12, Rgb332, Rgb444, Rgb555, Rgb888}
use Rattle.line_colour.specs.Shown.{sample_of}
use Rattle.line_colour.specs.declared.entry.WindowEntry.{WindowEntry}
use Rattle.line_colour.proofs.Defined.{Says}
use Rattle.line_pixels.specs.Cells.{pixel_word, pixel_view}
use Rattle.line_pixels.specs.Colour.{normal_at}
use Rattle.line_pixels.specs.SamplePlace.{held_by, place_at}
use Rattle.line_pixels.proofs.Halves.{AllBytes, HeldBy, held_of, sample_in_bytes}
use Rattle.line_pixels.proofs.LayersCases.{normal_of_colour, shown_rgb}

module _ (low high : ℕ) (below : high < 256) where
  -- in 4-4-4 red is the low half of the second byte
  pub red_444 : bits (low * 256 + high) 0 4 ≡ high % 16
  red_444 = omega arith

  -- green is its high half
  pub green_444 : bits (low * 256 + high) 4 4 ≡ high / 16
  green_444 = omega arith

  -- blue is the low half of the first byte
  pub blue_444 : bits (low * 256 + high) 8 4 ≡ low % 16
  blue_444 = omega arith

  -- in 5-5-5 red is the low bits of the second byte
  pub red_555 : bits (low * 256 + high) 0 5 ≡ high % 32
  red_555 = omega arith

  -- green stands in both
  pub green_555 : bits (low * 256 + high) 5 5 ≡ low % 4 * 8 + high / 32
  green_555 = omega arith

  -- blue stands in the first byte
  pub blue_555 : bits (low * 256 + high) 10 5 ≡ low / 4 % 32
  blue_555 = omega arith

module _ (width : ℕ) (closed : ℕ → ℕ) (is : (v : ℕ) → v < 2 ^ width → widened v width ≡ closed v) where
  -- a channel of this width is its bits, widened in closed form
  pub channel_by : (sample low : ℕ) → channel sample low width ≡ closed (bits sample low width)
  channel_by sample low = is (bits sample low width) (mod-lt (sample / 2 ^ low) (pow_pos width))

  -- the word of three channels of one width, in closed form
  pub word_by : (sample : ℕ)
      → word_of (colour_by_widths sample width width width)
      ≡ closed (bits sample 0 width) * 2 ^ 16 + closed (bits sample width width) * 2 ^ 8 + closed (bits sample (width + width) width)
  word_by sample = cc (channel_by sample 0, channel_by sample width, channel_by sample (width + width))

-- two bytes as a number, the first the lowest
abbrev pub TwoBytes : List ℕ → ℕ → ℕ → Type 0
TwoBytes bytes at half = (half ≡ get_or bytes at 0 + get_or bytes (at + 1) 0 * 256) × (get_or bytes at 0 < 256) × (get_or bytes (at + 1) 0 < 256)

-- with its bytes swapped it is the number whose first byte is the highest
pub swapped : (bytes : List ℕ) (at : ℕ) {half : ℕ} → TwoBytes bytes at half → half % 256 * 256 + half / 256 ≡ big_endian bytes at 2
swapped bytes at {half} two =
    let low : half % 256 ≡ get_or bytes at 0 = omega arith in
    let high : half / 256 ≡ get_or bytes (at + 1) 0 = omega arith in
    rw (low, high) (sym (big_endian_2 bytes at))

-- a channel that lies in the low n bits rests on these alone
low_channel : (word n low width : ℕ) → low + width ≤ n → channel (bits word 0 n) low width ≡ channel word low width
low_channel word n low width within = rw (div-one word) (ap (λ (v : ℕ). widened v width) (bits_of_low word n low width within))

-- three channels that lie in the low n bits rest on these alone
low_channels : (word n red green blue : ℕ) → red + green + blue ≤ n → colour_by_widths (bits word 0 n) red green blue ≡ colour_by_widths word red green blue
low_channels word n red green blue within =
    rw (low_channel word n 0 red (omega arith), low_channel word n red green (omega arith), low_channel word n (red + green) blue within)

-- a colour rests on the bits of its sample alone
colour_of_low : (format : Format) (word : ℕ) → colour_in_format format (bits word 0 (widths_of format).bits) ≡ colour_in_format format word
colour_of_low Index8 word = low_channels word 8 0 0 0 (lit≤ tt)
colour_of_low Index12 word = low_channels word 12 0 0 0 (lit≤ tt)
colour_of_low Rgb332 word = low_channels word 8 3 3 2 (lit≤ tt)
colour_of_low Rgb444 word = low_channels word 12 4 4 4 (lit≤ tt)
colour_of_low Rgb555 word = low_channels word 15 5 5 5 (lit≤ tt)
colour_of_low Rgb888 word = low_channels word 24 8 8 8 (lit≤ tt)

-- the colour of bytes that hold a pixel's sample is the normal colour of the pixel
pub pixel_normal_held : {depth : ℕ} {entry : WindowEntry} {m : ℕ} {format : Format} (store normal overlay : List ℕ) → Says depth entry → AllBytes normal → HeldBy depth entry m
    → entry.format ≡ format → (entry.format ≡ Rgb332) ⊎ (entry.format ≡ Rgb444) ⊎ (entry.format ≡ Rgb555) ⊎ (entry.format ≡ Rgb888) → (x i : ℕ)
    → word_of (colour_in_format format (big_endian normal (place_at depth entry.low m x i) m)) ≡ value (pixel_view store normal overlay) (normal_at depth entry (x + i))
pixel_normal_held {depth} {entry} {m} store normal overlay says all held is_format rgb x i =
    let bytes = big_endian normal (place_at depth entry.low m x i) m in
    let sample = sample_of entry (pixel_word depth normal (x + i)) in
    let same : colour_in_format entry.format sample ≡ colour_in_format entry.format bytes =
    ap (λ (s : ℕ). colour_in_format entry.format s) (sample_in_bytes depth entry normal says all held x i)
    ∙ colour_of_low entry.format bytes in
    ap (λ (f : Format). word_of (colour_in_format f bytes)) (sym is_format)
    ∙ normal_of_colour (pixel_view store normal overlay) depth entry (x + i) (shown_rgb entry sample rgb) (sym (ap word_of same))

-- so it is for as many bytes as the sample's bits need
pub pixel_normal : {depth : ℕ} {entry : WindowEntry} {m : ℕ} {format : Format} (store normal overlay : List ℕ) → Says depth entry → AllBytes normal → held_by entry ≡ m
    → entry.format ≡ format → (entry.format ≡ Rgb332) ⊎ (entry.format ≡ Rgb444) ⊎ (entry.format ≡ Rgb555) ⊎ (entry.format ≡ Rgb888) → (x i : ℕ)
    → word_of (colour_in_format format (big_endian normal (place_at depth entry.low m x i) m)) ≡ value (pixel_view store normal overlay) (normal_at depth entry (x + i))
pixel_normal store normal overlay says all held = pixel_normal_held store normal overlay says all (held_of says held)
