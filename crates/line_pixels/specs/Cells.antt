-- The cells that a pixel's colour may rest on, and what they hold in lent memory. Only bits that count are in a cell.
use Rattle.std.specs.Prelude.{ℕ, ◌+◌, ◌-◌, ◌*◌, ◌/◌, ◌%◌, List, get_or}
use Rattle.words.specs.Field.{bits}
use Rattle.words.specs.Bytes.{big_endian}
use Rattle.words.specs.Channels.{channels_of}
use Rattle.words.specs.declared.Rgb.{Rgb}
use Rattle.chip_registers.specs.Store.{stored}
use Rattle.chip_registers.specs.declared.Block.TheVariants.{ColourMap, GammaMap, CursorGlyph, CursorColours}

-- one of the three channels of a colour
pub data Channel : Type 0 where
  in_red in_green in_blue : Channel

-- what a colour has in a channel (CHIP 5.8)
abbrev pub channel_in : Channel → Rgb → ℕ
channel_in in_red colour = colour.red
channel_in in_green colour = colour.green
channel_in in_blue colour = colour.blue

-- a cell that a colour may rest on (CHIP 7.1)
pub data PixelCell : Type 0 where
  -- two bits of the cursor's glyph, by row and column
  glyph : ℕ → ℕ → PixelCell
  -- a cursor colour, 1 to 3
  cursor_colour : ℕ → PixelCell
  -- a pixel's byte of the overlay row
  overlay_byte : ℕ → PixelCell
  -- bits of a pixel of the normal row: the depth, the pixel, the lowest of the bits and how many they are
  sample : ℕ → ℕ → ℕ → ℕ → PixelCell
  -- an entry of the colour map
  map_entry : ℕ → PixelCell
  -- one channel of a word of the gamma map
  gamma : Channel → ℕ → PixelCell

-- a row of the glyph has two words of 16 cells each, from the top bits down (CHIP 6.5)
abbrev pub glyph_cell : List ℕ → ℕ → ℕ → ℕ
glyph_cell store row column = bits (stored store (record { block = CursorGlyph; word = 2 * row + column / 16 })) (30 - 2 * (column % 16)) 2

-- a pixel of the normal row, all bits of it (CHIP 1.4)
abbrev pub pixel_word : ℕ → List ℕ → ℕ → ℕ
pixel_word depth normal x = big_endian normal (x * (depth / 8)) (depth / 8)

-- what the cells hold in a lent store, normal row and overlay row (CHIP 2.6, 6.5)
abbrev pub pixel_view : List ℕ → List ℕ → List ℕ → PixelCell → ℕ
pixel_view store normal overlay (glyph row column) = glyph_cell store row column
pixel_view store normal overlay (cursor_colour number) = stored store (record { block = CursorColours; word = number - 1 })
pixel_view store normal overlay (overlay_byte x) = get_or overlay x 0
pixel_view store normal overlay (sample depth x low count) = bits (pixel_word depth normal x) low count
pixel_view store normal overlay (map_entry entry) = stored store (record { block = ColourMap; word = entry })
pixel_view store normal overlay (gamma channel entry) = channel_in channel (channels_of (stored store (record { block = GammaMap; word = entry })))
