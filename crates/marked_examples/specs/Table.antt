-- The marked examples (a) to (l), over the definitions that the contracts cite.
use Rattle.std.specs.Prelude.{ℕ, ◌+◌, ◌*◌, ◌%◌, ◌<◌, ◌≡◌, Bool, true, false, List, [], ◌∷◌, ◌++◌, length, Some, None}
use Rattle.rules.specs.Rule.{Rule, Outcome, ok, run, reads, value}
use Rattle.rules.specs.Lists.{values}
use Rattle.rules.specs.Faults.{Numbered}
use Rattle.chip_timing.specs.Window.{in_window}
use Rattle.line_formats.specs.Channel.{widened}
use Rattle.line_formats.specs.Table.{widths_of}
use Rattle.line_colour.specs.Entry.{bank_of, decoded}
use Rattle.line_colour.specs.Shown.{sample_of, shown_of}
use Rattle.line_colour.specs.declared.entry.WindowEntry.{WindowEntry}
use Rattle.line_colour.specs.declared.entry.Shown.TheVariants.{MapEntry}
use Rattle.chip_registers.specs.Store.{stored}
use Rattle.chip_registers.specs.declared.Block.TheVariants.{ColourMap, CursorGlyph}
use Rattle.line_windows.specs.Table.{table_view}
use Rattle.line_windows.specs.Frame.{line_table_of}
use Rattle.line_windows.specs.Ids.{id_of}
use Rattle.line_pixels.specs.Cells.{PixelCell, glyph, overlay_byte, sample, map_entry, pixel_word, pixel_view}
use Rattle.line_pixels.specs.Cursor.{cursor_at}
use Rattle.line_pixels.specs.Colour.{normal_at, overlay_counts, under_cursor}
use Rattle.line_pixels.specs.declared.Screen.{Screen}

-- ---- what the rows say

-- a rule of a pixel reads these cells and no other, and this is its answer
abbrev pub Answers : (PixelCell → ℕ) → Rule ⊥ PixelCell ℕ → List PixelCell → ℕ → Type 0
Answers memory rule cells answer = (reads memory rule ≡ cells) × (value memory rule ≡ answer)

-- line 0 with the cursor on at (0,0) and no cross-hair
abbrev pub cornered : Bool → ℕ → Screen
cornered overlay depth = record { overlay = overlay; cursor = true; crosshair = false; depth = depth; cx = 0; cy = 0; y = 0 }

-- there pixel x shows this cursor colour, 0 for none, by these cells, whatever is lent
abbrev pub CornerShows : ℕ → List PixelCell → (List ℕ → ℕ) → Type 0
CornerShows x cells number =
    (store normal overlay : List ℕ) (on : Bool) (depth : ℕ)
    → Answers (pixel_view store normal overlay) (cursor_at (cornered on depth) x) cells (number store)

-- a word of the cursor's glyph
abbrev pub glyph_word : List ℕ → ℕ → ℕ
glyph_word store word = stored store (record { block = CursorGlyph; word = word })

-- a word of the colour map
abbrev pub map_word : List ℕ → ℕ → ℕ
map_word store word = stored store (record { block = ColourMap; word = word })

-- a window entry, with this bank, is defined at a depth
abbrev pub DefinedWithBank : ℕ → ℕ → ℕ → Type 0
DefinedWithBank depth word bank = (entry : WindowEntry) × (decoded word depth ≡ Some entry) × (entry.bank ≡ bank)

-- a window entry, with this bank, is undefined at a depth
abbrev pub UndefinedWithBank : ℕ → ℕ → ℕ → Type 0
UndefinedWithBank depth word bank = (decoded word depth ≡ None) × (bank_of word ≡ bank)

-- the window entry with this buffer, format and bank, and no other bit
abbrev pub entry_with : ℕ → ℕ → ℕ → ℕ
entry_with buffer format bank = buffer + 2 * format + 16 * bank

-- under an entry pixel 0 of a row shows this map entry, whatever else is lent
abbrev pub RowShows : ℕ → WindowEntry → List ℕ → ℕ → Type 0
RowShows depth entry bytes shown =
    (store more overlay : List ℕ)
    → Answers (pixel_view store (bytes ++ more) overlay) (normal_at depth entry 0)
    (sample depth 0 entry.low (widths_of entry.format).bits ∷ map_entry shown ∷ []) (map_word store shown)

-- a window entry is defined at a depth, and under it a pixel, and a row that starts with the bytes of it, shows this map entry
abbrev pub ShowsAt : ℕ → ℕ → ℕ → List ℕ → ℕ → Type 0
ShowsAt depth word pixel bytes shown =
    (pixel_word depth bytes 0 ≡ pixel)
    × (entry : WindowEntry) × (decoded word depth ≡ Some entry) × (shown_of entry (sample_of entry pixel) ≡ MapEntry shown) × RowShows depth entry bytes shown

-- the ID of pixel x, by the line table at byte 0 of a table
abbrev pub id_in : List ℕ → ℕ → Outcome Numbered ℕ
id_in table x = run (table_view table) (id_of (length table) 0 x)

-- where the line table of line y starts, by the frame entries of a table
abbrev pub line_table_in : List ℕ → ℕ → Outcome Numbered ℕ
line_table_in table y = run (table_view table) (line_table_of (length table) y)

-- where overlay counts and gamma is bypassed, an overlay byte shows this map entry, whatever else is lent
abbrev pub OverlayShows : ℕ → ℕ → Type 0
OverlayShows byte shown =
    (store normal more : List ℕ) (screen : Screen) (entry : WindowEntry) → overlay_counts screen entry ≡ true → entry.bypass ≡ true
    → Answers (pixel_view store normal (byte ∷ more)) (under_cursor screen entry 0) (overlay_byte 0 ∷ map_entry shown ∷ []) (map_word store shown)

-- every row of a table holds
abbrev pub All : List (Type 0) → Type 0
All [] = Unit {0}
All (row ∷ rows) = row × All rows

-- ---- the table

-- the rows in order, each a statement (CHIP 11.1)
abbrev pub examples : List (Type 0)
examples =
    -- (a) 5 in 3 bits
    (widened 5 3 ≡ 182)
    -- (b) 3 in 2 bits
    ∷ (widened 3 2 ≡ 255)
    -- (c) 16 in 5 bits
    ∷ (widened 16 5 ≡ 132)
    -- (d) on 5, off 2: of the positions 0 to 7 active at 0, 1 and at 5, 6, 7
    ∷ (values (in_window 5 2) 8 0 ≡ true ∷ true ∷ false ∷ false ∷ false ∷ true ∷ true ∷ true ∷ [])
    -- (e) on 3, off 3: active at no position
    ∷ ((p : ℕ) → in_window 3 3 p ≡ false)
    -- (f) the cursor at (0,0): pixel 0 has the lowest two bits of glyph word 63, pixel 1 has none and nothing is read for it
    ∷ (CornerShows 0 (glyph 31 31 ∷ []) (λ store. glyph_word store 63 % 4) × CornerShows 1 [] (λ store. 0))
    -- (g) 0x110 has bank 17 and is defined, 0x120 has bank 18 and is not
    ∷ (DefinedWithBank 16 0x110 17 × DefinedWithBank 32 0x110 17 × UndefinedWithBank 16 0x120 18 × UndefinedWithBank 32 0x120 18)
    -- (h) depth 16, pixel 0x1234, buffer 1, format 0, bank 2: map entry 530
    ∷ ShowsAt 16 (entry_with 1 0 2) 0x1234 (0x12 ∷ 0x34 ∷ []) 530
    -- (i) depth 32, pixel 0xABCD1234, buffer 1, format 1: map entry 3,021
    ∷ ShowsAt 32 (entry_with 1 1 0) 0xABCD1234 (0xAB ∷ 0xCD ∷ 0x12 ∷ 0x34 ∷ []) 3021
    -- (j) line entries 0x0003 and 0xFFE7, whatever follows: pixel 0 has ID 3, pixel 1 has ID 7
    ∷ ((more : List ℕ) → (id_in (0x00 ∷ 0x03 ∷ 0xFF ∷ 0xE7 ∷ more) 0 ≡ ok 3) × (id_in (0x00 ∷ 0x03 ∷ 0xFF ∷ 0xE7 ∷ more) 1 ≡ ok 7))
    -- (k) frame entry 0x07FF0100, whatever follows: every line has its line table at byte 512
    ∷ ((more : List ℕ) (y : ℕ) → y < 2048 → line_table_in (0x07 ∷ 0xFF ∷ 0x01 ∷ 0x00 ∷ more) y ≡ ok 512)
    -- (l) overlay byte 1: map entry 4,353
    ∷ OverlayShows 1 4353
    ∷ []
