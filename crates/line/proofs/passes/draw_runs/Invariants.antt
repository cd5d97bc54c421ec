-- `line::passes::draw_runs` goes run by run, each into the output from its first pixel on.
use Rattle.std.proofs.Common.{◌-◌}
use Rattle.line.proofs.Drawing.{Drawing}
use Rattle.line.proofs.passes.draw_runs.Given as goal

-- every pixel before x is drawn
abbrev pub invariant-loop-x : goal.invariant-loop-x
invariant-loop-x l = Drawing l.controls l.screen l.store l.table l.normal l.overlay l.start l.initial.out l.out l.x l.from

-- the pixels that are left
abbrev pub decreases-loop-x : goal.decreases-loop-x
decreases-loop-x l = l.controls.width - l.x
