-- `line_windows::ids::look_up` answers what the search for the line entry comes to.
use Rattle.std.proofs.Common.{◌≡◌, ◌+◌, length, sym, ap, arith}
use Rattle.rules.specs.Rule.{ok}
use Rattle.refusals.specs.Refusal.{numbered}
use Rattle.refusals.specs.declared.Refusal.TheVariants.{NoLineEntry}
use Rattle.line_windows.specs.Table.{table_view}
use Rattle.line_windows.specs.Ids.{line_entries, end_of, id_cell}
use Rattle.line_windows.proofs.Search.{search_found, search_over}
use Rattle.line_windows.proofs.Pixels.{served_by, found_of_entry, found_of_none}
use Rattle.line_windows.proofs.ids.look_up.Goals as goal

pub returns-then-x-xend-clause-says : goal.returns-then-x-xend-clause-says
returns-then-x-xend-clause-says c =
    let memory = table_view c.args.table.now in
    let bytes = length c.args.table.now in
    let entry = c.loop-entry.entry in
    let end : c.field-xend.result ≡ memory (end_of c.args.start entry) = rw (c.field-xend.ensures.0, c.be16-word.ensures.0) in
    let id : c.field.result ≡ memory (id_cell c.args.start entry) = rw (c.field.ensures.0, c.be16-word.ensures.0) in
    let served : record { id = c.field.result; last = c.field-xend.result; next = entry + 1 } ≡ served_by memory c.args.start entry = rw (id, end) in
    let found = search_found c.loop-entry.invariant (numbered (NoLineEntry c.args.x)) (line_entries bytes c.args.start) (omega arith) (omega arith) in
    rw (found_of_entry memory bytes c.args.start c.args.from c.args.x found) (ap ok served)

pub returns-clause-says : goal.returns-clause-says
returns-clause-says c =
    let memory = table_view c.args.table.now in
    let bytes = length c.args.table.now in
    let over = search_over c.loop-entry.invariant (numbered (NoLineEntry c.args.x)) (line_entries bytes c.args.start) (omega arith) in
    sym (found_of_none memory bytes c.args.start c.args.from c.args.x over)
