-- `line_windows::frame::line_table` answers what the search for the frame entry comes to.
use Rattle.std.proofs.Common.{◌≡◌, ◌+◌, ◌*◌, length, sym, ap, arith}
use Rattle.rules.specs.Rule.{ok}
use Rattle.refusals.specs.Refusal.{numbered}
use Rattle.refusals.specs.declared.Refusal.TheVariants.{NoFrameEntry}
use Rattle.line_windows.specs.Table.{yend, line_table, table_view}
use Rattle.line_windows.specs.Frame.{frame_entries}
use Rattle.line_windows.proofs.Search.{search_found, search_over}
use Rattle.line_windows.proofs.Answers.{table_of_entry, table_of_none}
use Rattle.line_windows.proofs.frame.line_table.Goals as goal

pub returns-then-y-field-clause-says : goal.returns-then-y-field-clause-says
returns-then-y-field-clause-says c =
    let memory = table_view c.args.table.now in
    let bytes = length c.args.table.now in
    let end : c.field.result ≡ memory (yend c.loop-entry.entry) = rw (c.field.ensures.0, c.be32-word.ensures.0) in
    let start : 512 * c.field-block.result + 2 * c.field-offset.result ≡ memory (line_table c.loop-entry.entry) =
    rw (c.field-block.ensures.0, c.field-offset.ensures.0, c.be32-word.ensures.0) in
    let found = search_found c.loop-entry.invariant (numbered (NoFrameEntry c.args.y)) (frame_entries bytes) (omega arith) (omega arith) in
    rw (table_of_entry memory bytes c.args.y found) (ap ok start)

pub returns-clause-says : goal.returns-clause-says
returns-clause-says c =
    let memory = table_view c.args.table.now in
    let bytes = length c.args.table.now in
    let over = search_over c.loop-entry.invariant (numbered (NoFrameEntry c.args.y)) (frame_entries bytes) (omega arith) in
    sym (table_of_none memory bytes c.args.y over)
