-- What a line sees of what is lent, cell by cell. All else may be otherwise, and all of it at once: back buffer, covered samples, windows not on the line, unused colours, ignored bits.
use Rattle.std.specs.Prelude.{ℕ, ◌-◌, ◌<◌, ◌≡◌, List, get_or}
use Rattle.rules.specs.Rule.{ok}
use Rattle.words.specs.Channels.{channels_of}
use Rattle.line_colour.specs.Shown.{sample_of}
use Rattle.line_colour.specs.declared.entry.WindowEntry.{WindowEntry}
use Rattle.chip_registers.specs.Store.{stored}
use Rattle.chip_registers.specs.declared.Block.TheVariants.{WindowEntries, ColourMap, GammaMap, CursorColours}
use Rattle.line_windows.specs.Table.{TableCell, table_view}
use Rattle.line_pixels.specs.Cells.{Channel, channel_in, PixelCell, glyph_cell, pixel_word, pixel_view}
use Rattle.line_setup.specs.declared.setup.Setup.{Setup}
use Rattle.line.specs.Screen.{screen_in}
use Rattle.line.specs.Cells.{of_table, window_entry, Lent}
use Rattle.line.specs.Line.{line_of}
use Rattle.line_reads.specs.TableList.{HasEntry}
use Rattle.line_reads.specs.ColourList.{GlyphListed, CursorColourHere, CursorTransparent, BothSwitches, OverlayTransparent, MapListed, GammaListed}
use Rattle.line_reads.specs.Listed.{Listed}

-- ---- cells of a store

-- the 13 bits of a window entry
abbrev pub window_word : List ℕ → ℕ → ℕ
window_word store id = stored store (record { block = WindowEntries; word = id })

-- the 24 bits of a cursor colour, 1 to 3
abbrev pub cursor_word : List ℕ → ℕ → ℕ
cursor_word store number = stored store (record { block = CursorColours; word = number - 1 })

-- the 24 bits of a map entry
abbrev pub map_entry_word : List ℕ → ℕ → ℕ
map_entry_word store number = stored store (record { block = ColourMap; word = number })

-- one channel's byte of a gamma word
abbrev pub gamma_byte : List ℕ → Channel → ℕ → ℕ
gamma_byte store channel number = channel_in channel (channels_of (stored store (record { block = GammaMap; word = number })))

module _ (setup : Setup) (lent : Lent) where
  -- what the cells of colours hold
  abbrev pub cells_here : PixelCell → ℕ
  cells_here = pixel_view lent.store lent.normal lent.overlay

  -- of a line that is drawn it holds of every active pixel and its window entry; of one that is refused nothing is asked
  abbrev pub EachPixel : (ℕ → WindowEntry → Type 0) → Type 0
  EachPixel Holds =
      (colours : List ℕ) → line_of setup lent ≡ ok colours → (x : ℕ) → x < setup.controls.width → (entry : WindowEntry) → HasEntry setup lent x entry → Holds x entry

  -- the used bits that a window entry chooses of pixel x of a normal row
  abbrev pub chosen : List ℕ → ℕ → WindowEntry → ℕ
  chosen row x entry = sample_of entry (pixel_word setup.controls.depth row x)

  -- ---- what is seen

  -- of another table, the fields that the line reads; entries that it doesn't read and ignored bits may be any (CHIP 7.3)
  abbrev pub SameFields : List ℕ → Type 0
  SameFields table = (cell : TableCell) → Listed setup lent (of_table cell) → table_view lent.table cell ≡ table_view table cell

  -- of another store, the window entries of the IDs that the line meets (CHIP 7.3)
  abbrev pub SameWindowEntries : List ℕ → Type 0
  SameWindowEntries store = (id : ℕ) → Listed setup lent (window_entry id) → window_word lent.store id ≡ window_word store id

  -- of another store, these window entries, and for each pixel its cell of the glyph, the cursor colour shown, the map entry hit and the byte of each gamma word hit; other cells, of the same words too, may be any (CHIP 7.3)
  pub record SameShown (store : List ℕ) : Type 0 where
    pub windows : SameWindowEntries store
    pub glyphs :
        EachPixel (λ x entry. (row column : ℕ) → GlyphListed (screen_in setup) x row column → glyph_cell lent.store row column ≡ glyph_cell store row column)
    pub cursor_colours :
        EachPixel (λ x entry. (number : ℕ) → CursorColourHere cells_here (screen_in setup) x number → cursor_word lent.store number ≡ cursor_word store number)
    pub map_entries :
        EachPixel (λ x entry.
        CursorTransparent cells_here (screen_in setup) x → (number : ℕ) → MapListed cells_here (screen_in setup) entry x number → map_entry_word lent.store number ≡ map_entry_word store number)
    pub gamma_bytes :
        EachPixel (λ x entry.
        CursorTransparent cells_here (screen_in setup) x → (channel : Channel) (number : ℕ) → GammaListed cells_here (screen_in setup) entry x channel number
        → gamma_byte lent.store channel number ≡ gamma_byte store channel number)

  -- of other rows, under a transparent cursor the overlay byte of a pixel at which overlay counts, and the sample of one at which overlay shows nothing (CHIP 7.3)
  pub record SameRows (normal overlay : List ℕ) : Type 0 where
    pub overlay_bytes :
        EachPixel (λ x entry. CursorTransparent cells_here (screen_in setup) x → BothSwitches (screen_in setup) entry → get_or lent.overlay x 0 ≡ get_or overlay x 0)
    pub samples :
        EachPixel (λ x entry.
        CursorTransparent cells_here (screen_in setup) x → OverlayTransparent cells_here (screen_in setup) entry x → chosen lent.normal x entry ≡ chosen normal x entry)

  -- what the line sees is the same in other memory (CHIP 7.3)
  pub record SameSeen (other : Lent) : Type 0 where
    pub table : SameFields other.table
    pub store : SameShown other.store
    pub rows : SameRows other.normal other.overlay
