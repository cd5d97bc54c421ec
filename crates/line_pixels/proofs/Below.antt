-- The colour of a pixel has 24 bits, whatever is lent: the top byte of an output word is 0. Assumes nothing.
use Prim.Native.Nat.{ℕ, ◌+◌, ◌/◌, ◌^◌, ◌≤◌, ◌<◌}
use mathlib.Core.Bool.{Bool, true, false, cond}
use mathlib.Core.List.{List}
use native.Mathlib.Nat.{mod-lt}
use native.Mathlib.Omega.{arith}
use lib.Dec.{eqb, lit≤}
use lib.Pow.{pow_pos}
use Rattle.rules.specs.Rule.{Rule, value, ◌>>=◌}
use Rattle.rules.proofs.Value.{value_then}
use Rattle.words.specs.Field.{bits}
use Rattle.words.specs.Channels.{channels_of, word_of}
use Rattle.words.specs.declared.Rgb.{Rgb}
use Rattle.line_formats.specs.Channel.{channel, colour_by_widths}
use Rattle.line_formats.specs.declared.Format.{Format}
use Rattle.line_formats.specs.declared.Format.TheVariants.{Index8, Index12, Rgb332, Rgb444, Rgb555, Rgb888}
use Rattle.line_formats.proofs.Widening.{widened_lt}
use Rattle.line_colour.specs.Shown.{shown_as}
use Rattle.line_colour.specs.declared.entry.WindowEntry.{WindowEntry}
use Rattle.line_pixels.specs.Cells.{Channel, in_red, in_green, in_blue, channel_in, PixelCell, pixel_view}
use Rattle.line_pixels.specs.Cursor.{cursor_at}
use Rattle.line_pixels.specs.Colour.{through_gamma, shown_colour, normal_at, plain_at, overlaid, overlay_at, under_cursor, cursor_shown, colour_of_pixel}
use Rattle.line_pixels.specs.declared.Screen.{Screen}

-- a word of 24 kept bits is below 2 ^ 24
kept_below : (word : ℕ) → bits word 0 24 < 2 ^ 24
kept_below word = omega arith

-- a channel of a word has 8 bits
in_below : (which : Channel) (word : ℕ) → channel_in which (channels_of word) < 2 ^ 8
in_below in_red word = omega arith
in_below in_green word = omega arith
in_below in_blue word = omega arith

-- three channels of 8 bits make a word of 24
word_below : (colour : Rgb) → colour.red < 2 ^ 8 → colour.green < 2 ^ 8 → colour.blue < 2 ^ 8 → word_of colour < 2 ^ 24
word_below colour red green blue = omega arith

-- a channel of a sample is widened to 8 bits
channel_below : (sample low width : ℕ) → 1 ≤ width → channel sample low width < 2 ^ 8
channel_below sample low width some = widened_lt (bits sample low width) width some (mod-lt (sample / 2 ^ low) (pow_pos width))

-- a sample's colour has 24 bits
sample_below : (sample red green blue : ℕ) → 1 ≤ red → 1 ≤ green → 1 ≤ blue → word_of (colour_by_widths sample red green blue) < 2 ^ 24
sample_below sample red green blue r g b =
    word_below (colour_by_widths sample red green blue) (channel_below sample 0 red r) (channel_below sample red green g) (channel_below sample (red + green) blue b)

module _ (store normal overlay : List ℕ) where
  -- what lent memory holds
  abbrev held : PixelCell → ℕ
  held = pixel_view store normal overlay

  -- what a rule answers has 24 bits
  abbrev Below : Rule ⊥ PixelCell ℕ → Type 0
  Below rule = value held rule < 2 ^ 24

  -- where a rule answers 24 bits whatever it goes by, it does so behind any other rule
  then_below : (rule : Rule ⊥ PixelCell ℕ) (after : ℕ → Rule ⊥ PixelCell ℕ) → ((answer : ℕ) → Below (after answer)) → Below (rule >>= after)
  then_below rule after always = rw (value_then held rule after) (always (value held rule))

  -- where two rules answer 24 bits, so does whichever a test takes
  either_below : (test : Bool) (rule other : Rule ⊥ PixelCell ℕ) → Below rule → Below other → Below (cond test rule other)
  either_below true rule other first second = first
  either_below false rule other first second = second

  -- a colour of 24 bits has 24 bits through gamma
  gamma_below : (skips : Bool) (word : ℕ) → word < 2 ^ 24 → Below (through_gamma skips word)
  unfolding through_gamma
  gamma_below true word below = below
  gamma_below false word below = word_below _ (in_below in_red _) (in_below in_green _) (in_below in_blue _)

  -- where a rule answers 24 bits, so it does through gamma
  through_below : (rule : Rule ⊥ PixelCell ℕ) (skips : Bool) → Below rule → Below (rule >>= through_gamma skips)
  through_below rule skips below = rw (value_then held rule (through_gamma skips)) (gamma_below skips (value held rule) below)

  -- what a sample shows has 24 bits: of an entry of the map 24 are kept
  shown_below : (format : Format) (bank sample : ℕ) → Below (shown_colour (shown_as format bank sample))
  shown_below Index8 bank sample = kept_below _
  shown_below Index12 bank sample = kept_below _
  shown_below Rgb332 bank sample = sample_below sample 3 3 2 (lit≤ tt) (lit≤ tt) (lit≤ tt)
  shown_below Rgb444 bank sample = sample_below sample 4 4 4 (lit≤ tt) (lit≤ tt) (lit≤ tt)
  shown_below Rgb555 bank sample = sample_below sample 5 5 5 (lit≤ tt) (lit≤ tt) (lit≤ tt)
  shown_below Rgb888 bank sample = sample_below sample 8 8 8 (lit≤ tt) (lit≤ tt) (lit≤ tt)

  module _ (screen : Screen) (entry : WindowEntry) (x : ℕ) where
    -- a normal colour through gamma has 24 bits
    plain_below : Below (plain_at screen.depth entry x)
    unfolding plain_at normal_at
    plain_below = through_below (normal_at screen.depth entry x) _ (shown_below entry.format entry.bank _)

    -- an overlay colour through gamma has 24 bits
    overlaid_below : (byte : ℕ) → Below (overlaid entry byte)
    unfolding overlaid
    overlaid_below byte = gamma_below _ _ (kept_below _)

    -- what shows under the cursor has 24 bits
    under_below : Below (under_cursor screen entry x)
    unfolding under_cursor
    under_below = then_below (overlay_at screen entry x) _ (λ byte. either_below (eqb byte 0) _ _ plain_below (overlaid_below byte))

    -- a cursor colour has 24 bits
    cursor_below : (number : ℕ) → Below (cursor_shown screen entry number)
    unfolding cursor_shown
    cursor_below number = gamma_below _ _ (kept_below _)

    -- the colour of a pixel has 24 bits
    pub colour_below : value (pixel_view store normal overlay) (colour_of_pixel screen entry x) < 2 ^ 24
    unfolding colour_of_pixel
    colour_below = then_below (cursor_at screen x) _ (λ number. either_below (eqb number 0) _ _ under_below (cursor_below number))
