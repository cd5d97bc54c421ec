-- Which line table a line uses.
use Rattle.std.specs.Prelude.{ℕ, ◌/◌, min}
use Rattle.rules.specs.Rule.{Rule, get, ◌>>=◌}
use Rattle.rules.specs.Faults.{Numbered}
use Rattle.refusals.specs.Refusal.{numbered}
use Rattle.refusals.specs.declared.Refusal.TheVariants.{NoFrameEntry}
use Rattle.line_windows.specs.Table.{TableCell, yend, line_table}
use Rattle.line_windows.specs.Search.{serving_entry}

-- how many frame entries a table of so many bytes has: whole ones, and 2,048 at most (CHIP 4.3)
abbrev pub frame_entries : ℕ → ℕ
frame_entries table_bytes = min 2048 (table_bytes / 4)

-- the frame entry that serves line y: the first that ends there or later; none is 7 (CHIP 4.4, 8.1)
abbrev pub frame_of : ℕ → ℕ → Rule Numbered TableCell ℕ
frame_of table_bytes y = serving_entry (numbered (NoFrameEntry y)) yend (frame_entries table_bytes) y

-- where the line table of line y starts: the frame entry that serves the line says (CHIP 4.4)
unfoldable pub line_table_of : ℕ → ℕ → Rule Numbered TableCell ℕ
line_table_of table_bytes y = do
  entry ← frame_of table_bytes y
  get (line_table entry)
