-- The loop of `line_windows::frame::line_table` is the search for the frame entry that serves the line.
use Rattle.line_windows.specs.Table.{yend, table_view}
use Rattle.line_windows.proofs.Search.{Searching}
use Rattle.line_windows.proofs.frame.line_table.Given as goal

-- each frame entry passed ends before the line
abbrev pub invariant-loop-entry : goal.invariant-loop-entry
invariant-loop-entry l = Searching (table_view l.table) yend 0 l.y l.entry
