use Rattle.std.proofs.Common.{arith}
use Rattle.line_pixels.proofs.SumRows.{summing_next}
use Rattle.line_pixels.proofs.sums.sum_rows.Goals as goal

pub loop-row-preserved : goal.loop-row-preserved
loop-row-preserved c = summing_next c.args.across.now c.args.down.now c.sum_row.new.sums c.loop-row.invariant (omega arith) c.sum_row.ensures
