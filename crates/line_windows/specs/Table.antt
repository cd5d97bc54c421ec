-- The window-ID table: its entries and their fields.
use Rattle.std.specs.Prelude.{ℕ, ◌+◌, ◌*◌, List}
use Rattle.words.specs.Field.{field}
use Rattle.words.specs.Bytes.{big_endian}

-- the cells of a table: of a frame entry, by its number, its end and where its line table starts; of a line entry, by the byte at which it stands, its end and its ID (CHIP 7.1)
pub data TableCell : Type 0 where
  yend line_table : ℕ → TableCell
  xend window_id : ℕ → TableCell

-- the most bytes that a table can have (CHIP 4.2)
abbrev pub most_table_bytes : ℕ
most_table_bytes = 65536

-- a frame entry has 32 bits; the one numbered 0 stands at byte 0 (CHIP 4.3)
abbrev pub frame_entry : List ℕ → ℕ → ℕ
frame_entry table number = big_endian table (4 * number) 4

-- a line entry has 16 bits (CHIP 1.4, 4.6)
abbrev pub line_entry : List ℕ → ℕ → ℕ
line_entry table byte = big_endian table byte 2

-- of a frame entry yend is 26..16, block 14..8 and offset 7..0, of a line entry xend 15..5 and ID 4..0; no other bit is in a cell (CHIP 4.3, 4.5, 4.6, 4.7, 4.8)
abbrev pub table_view : List ℕ → TableCell → ℕ
table_view table (yend number) = field (frame_entry table number) 26 16
table_view table (line_table number) = 512 * field (frame_entry table number) 14 8 + 2 * field (frame_entry table number) 7 0
table_view table (xend byte) = field (line_entry table byte) 15 5
table_view table (window_id byte) = field (line_entry table byte) 4 0
