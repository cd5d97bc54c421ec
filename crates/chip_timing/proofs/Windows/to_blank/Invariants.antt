-- The walk from here, by the moves left, is the whole walk; each turn leaves fewer moves. Assumes nothing.
use Rattle.std.proofs.Common.{◌≡◌}
use Rattle.chip_timing.specs.Walk.{walked}
use Rattle.chip_timing.proofs.Windows.to_blank.Given as goal

abbrev pub invariant-loop-left : goal.invariant-loop-left
invariant-loop-left l = walked l.self l.at l.total l.left ≡ walked l.self l.fn.from l.total l.fn.most

abbrev pub decreases-loop-left : goal.decreases-loop-left
decreases-loop-left l = l.left
