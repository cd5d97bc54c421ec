-- `line::draw::start`: with window IDs on the look-up says where the line table starts, with them off there is none.
use Rattle.line.proofs.Entries.{start_on, start_off}
use Rattle.line.proofs.draw.start.Goals as goal

pub returns-then-controls : goal.returns-then-controls
returns-then-controls c =
    start_on c.args.controls c.args.table.now c.args.y c.line_table.result c.if-controls.true c.line_table.ensures.says

pub returns : goal.returns
returns c = start_off c.args.controls c.args.table.now c.args.y c.if-controls.false
