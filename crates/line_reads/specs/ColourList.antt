-- The cells of a pixel's colour under its window entry, as the paper lists them, in its own words and numbers: what shows is said without the rule of a pixel.
use Rattle.std.specs.Prelude.{ℕ, ◌+◌, ◌≤◌, ◌≡◌, true, false, ◌⊎◌, ◌≢◌}
use Rattle.words.specs.Channels.{channels_of, word_of}
use Rattle.line_formats.specs.Table.{widths_of}
use Rattle.line_colour.specs.Shown.{shown_of}
use Rattle.line_colour.specs.declared.entry.WindowEntry.{WindowEntry}
use Rattle.line_colour.specs.declared.entry.Shown.{Shown}
use Rattle.line_colour.specs.declared.entry.Shown.TheVariants.{MapEntry, Colour}
use Rattle.line_pixels.specs.Cells.{Channel, channel_in, PixelCell, glyph, cursor_colour, overlay_byte, sample, map_entry, gamma}
use Rattle.line_pixels.specs.declared.Screen.{Screen}

-- ---- the cursor

module _ (screen : Screen) (x : ℕ) where
  -- the pixel's own cell of the glyph, if on and inside: column x + 31 − cx and row y + 31 − cy, both 0 to 31, and no cross-hair (CHIP 6.5, 7.1)
  pub record GlyphListed (row column : ℕ) : Type 0 where
    pub on : screen.cursor ≡ true
    pub no_crosshair : screen.crosshair ≡ false
    pub at_row : row + screen.cy ≡ screen.y + 31
    pub row_inside : row ≤ 31
    pub at_column : column + screen.cx ≡ x + 31
    pub column_inside : column ≤ 31

  -- the pixel is on the cross-hair, which needs the cursor on: x = cx or y = cy (CHIP 6.6)
  pub record CrossHairHere : Type 0 where
    pub on : screen.cursor ≡ true
    pub crosshair : screen.crosshair ≡ true
    pub meets : (x ≡ screen.cx) ⊎ (screen.y ≡ screen.cy)

module _ (memory : PixelCell → ℕ) (screen : Screen) (x : ℕ) where
  -- the cursor shows this colour: the number in the pixel's cell of the glyph, or 1 on the cross-hair; 0 is transparent (CHIP 6.5, 6.6)
  pub data CursorColourHere (number : ℕ) : Type 0 where
    by_glyph : (row column : ℕ) → GlyphListed screen x row column → number ≡ memory (glyph row column) → number ≢ 0 → CursorColourHere number
    by_crosshair : CrossHairHere screen x → number ≡ 1 → CursorColourHere number

  -- the cursor is transparent: it shows no colour (CHIP 6.1)
  abbrev pub CursorTransparent : Type 0
  CursorTransparent = (number : ℕ) → CursorColourHere number → ⊥

-- ---- overlay

-- overlay counts: both switches are on, the control word's and the window entry's (CHIP 6.2)
pub record BothSwitches (screen : Screen) (entry : WindowEntry) : Type 0 where
  pub on : screen.overlay ≡ true
  pub allowed : entry.overlay ≡ true

module _ (memory : PixelCell → ℕ) (screen : Screen) (entry : WindowEntry) (x : ℕ) where
  -- overlay shows this byte: it counts, and the byte is not 0 (CHIP 6.2)
  pub record OverlayByteHere (byte : ℕ) : Type 0 where
    pub counts : BothSwitches screen entry
    pub is : byte ≡ memory (overlay_byte x)
    pub shows : byte ≢ 0

  -- overlay is transparent: where it counts the byte is 0 (CHIP 6.2)
  abbrev pub OverlayTransparent : Type 0
  OverlayTransparent = BothSwitches screen entry → memory (overlay_byte x) ≡ 0

  -- ---- below both

  -- the used bits of the chosen buffer (CHIP 5.3)
  abbrev pub used_cell : PixelCell
  used_cell = sample screen.depth x entry.low (widths_of entry.format).bits

  -- the word of what a sample shows: the map entry that it hits, or a colour of its own (CHIP 5.5, 5.6)
  abbrev pub word_shown : Shown → ℕ
  word_shown (MapEntry number) = memory (map_entry number)
  word_shown (Colour colour) = word_of colour

  -- the colour under the cursor before gamma: map entry 4,352 + byte where overlay shows, else the normal one (CHIP 6.1, 6.2)
  pub data BeforeGamma (colour : ℕ) : Type 0 where
    of_overlay : (byte : ℕ) → OverlayByteHere byte → colour ≡ memory (map_entry (4352 + byte)) → BeforeGamma colour
    of_sample : OverlayTransparent → colour ≡ word_shown (shown_of entry (memory used_cell)) → BeforeGamma colour

  -- ---- the list

  -- the pixel's overlay byte, where it counts (CHIP 7.1)
  pub record OverlayListed (pixel : ℕ) : Type 0 where
    pub counts : BothSwitches screen entry
    pub here : pixel ≡ x

  -- the used bits of the pixel's sample, where overlay is transparent (CHIP 7.1)
  pub record SampleListed (cell : PixelCell) : Type 0 where
    pub overlay_transparent : OverlayTransparent
    pub used : cell ≡ used_cell

  -- the map entry hit, by overlay or by the sample (CHIP 7.1)
  pub data MapListed (number : ℕ) : Type 0 where
    by_overlay : (byte : ℕ) → OverlayByteHere byte → number ≡ 4352 + byte → MapListed number
    by_sample : OverlayTransparent → shown_of entry (memory used_cell) ≡ MapEntry number → MapListed number

  -- a channel's byte of the gamma word that this channel of the colour indexes, where the window entry doesn't bypass gamma (CHIP 6.3, 7.1)
  pub record GammaListed (channel : Channel) (number : ℕ) : Type 0 where
    pub through : entry.bypass ≡ false
    pub colour : ℕ
    pub before : BeforeGamma colour
    pub hit : number ≡ channel_in channel (channels_of colour)

  -- the cells of one pixel's colour; those under the cursor where it is transparent (CHIP 7.1)
  abbrev pub ColourListed : PixelCell → Type 0
  ColourListed (glyph row column) = GlyphListed screen x row column
  ColourListed (cursor_colour number) = CursorColourHere memory screen x number
  ColourListed (overlay_byte pixel) = CursorTransparent memory screen x × OverlayListed pixel
  ColourListed (sample depth pixel low count) = CursorTransparent memory screen x × SampleListed (sample depth pixel low count)
  ColourListed (map_entry number) = CursorTransparent memory screen x × MapListed number
  ColourListed (gamma channel number) = CursorTransparent memory screen x × GammaListed channel number
