-- The look-up as a line makes it: it may go on from an entry, and says how far its answer holds.
use Rattle.std.specs.Prelude.{ℕ, ◌+◌}
use Rattle.rules.specs.Rule.{Rule, done, get, ◌>>=◌}
use Rattle.rules.specs.Faults.{Numbered}
use Rattle.line_windows.specs.Table.{TableCell}
use Rattle.line_windows.specs.Ids.{end_of, id_cell, line_entry_from}
use Rattle.line_windows.specs.declared.ids.FoundId.{FoundId}

-- what the first entry, from entry `from` on, with xend ≥ x serves: its ID, its last pixel, and the entry to go on from after that (CHIP 4.7)
unfoldable pub found_from : ℕ → ℕ → ℕ → ℕ → Rule Numbered TableCell FoundId
found_from table_bytes start from x = do
  entry ← line_entry_from table_bytes start from x
  last ← get (end_of start entry)
  id ← get (id_cell start entry)
  done (record { id = id; last = last; next = entry + 1 })
