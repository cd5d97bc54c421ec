use Rattle.std.proofs.Common.{get_or, arith, zero-add}
use Rattle.rules.proofs.Change.{change_start, change_here}
use Rattle.line_pixels.proofs.runs.OneByOneStepping.change.Goals as goal

pub loop-i-init : goal.loop-i-init
loop-i-init g c = λ change is. change_start (omega arith)

pub loop-i-preserved : goal.loop-i-preserved
loop-i-preserved g c =
    λ change is.
    let i = c.loop-i.i in
    change_here 0 (c.loop-i.invariant change is) (omega arith) (rw (zero-add i) (is i (get_or c.loop-i.words i 0) c.colour.result (omega arith) c.colour.ensures))
