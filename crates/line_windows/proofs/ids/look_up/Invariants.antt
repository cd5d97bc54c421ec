-- The loop of `line_windows::ids::look_up` is the search for the line entry that serves the pixel.
use Rattle.line_windows.specs.Table.{table_view}
use Rattle.line_windows.specs.Ids.{end_of}
use Rattle.line_windows.proofs.Search.{Searching}
use Rattle.line_windows.proofs.ids.look_up.Given as goal

-- each line entry passed ends before the pixel
abbrev pub invariant-loop-entry : goal.invariant-loop-entry
invariant-loop-entry l = Searching (table_view l.table) (end_of l.start) l.from l.x l.entry
