-- Which ID a pixel has.
use Rattle.std.specs.Prelude.{ℕ, ◌+◌, ◌-◌, ◌*◌, ◌/◌, min}
use Rattle.rules.specs.Rule.{Rule, get, ◌>>=◌}
use Rattle.rules.specs.Faults.{Numbered}
use Rattle.refusals.specs.Refusal.{numbered}
use Rattle.refusals.specs.declared.Refusal.TheVariants.{NoLineEntry}
use Rattle.line_windows.specs.Table.{TableCell, xend, window_id}
use Rattle.line_windows.specs.Search.{serving_from, serving_entry}

-- the byte behind the line table that starts at a byte: the 512-byte block that it starts in is over, or the table is (CHIP 4.5)
abbrev pub line_table_end : ℕ → ℕ → ℕ
line_table_end table_bytes start = min (512 * (start / 512) + 512) table_bytes

-- how many whole entries a line table has (CHIP 4.5, 4.6)
abbrev pub line_entries : ℕ → ℕ → ℕ
line_entries table_bytes start = (line_table_end table_bytes start - start) / 2

-- the byte at which an entry of a line table stands (CHIP 4.6)
abbrev pub entry_byte : ℕ → ℕ → ℕ
entry_byte start entry = start + 2 * entry

-- the end of an entry of a line table
abbrev pub end_of : ℕ → ℕ → TableCell
end_of start entry = xend (entry_byte start entry)

-- the ID of an entry of a line table
abbrev pub id_cell : ℕ → ℕ → TableCell
id_cell start entry = window_id (entry_byte start entry)

-- the line entry, from entry `from` on, that serves pixel x: the first that ends there or later; none is 8 (CHIP 4.7, 8.1)
abbrev pub line_entry_from : ℕ → ℕ → ℕ → ℕ → Rule Numbered TableCell ℕ
line_entry_from table_bytes start from x = serving_from (numbered (NoLineEntry x)) (end_of start) (line_entries table_bytes start) from x

-- the line entry that serves pixel x: of all the first that ends there or later (CHIP 4.6, 4.7)
abbrev pub line_entry_of : ℕ → ℕ → ℕ → Rule Numbered TableCell ℕ
line_entry_of table_bytes start x = serving_entry (numbered (NoLineEntry x)) (end_of start) (line_entries table_bytes start) x

-- the ID of pixel x: the line entry that serves it says (CHIP 4.6, 4.7)
unfoldable pub id_of : ℕ → ℕ → ℕ → Rule Numbered TableCell ℕ
id_of table_bytes start x = do
  entry ← line_entry_of table_bytes start x
  get (id_cell start entry)
