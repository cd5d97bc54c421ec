use Rattle.line_pixels.proofs.SumRows.{Summing}
use Rattle.line_pixels.proofs.sums.sum_rows.Given as goal

-- the rows before this one are made
abbrev pub invariant-loop-row : goal.invariant-loop-row
invariant-loop-row l = Summing l.across l.down l.fn.sums l.sums l.row
