-- `line::passes::check_runs` goes run by run, to the first refusal.
use Rattle.std.proofs.Common.{◌-◌}
use Rattle.line.proofs.Pass.{Passing}
use Rattle.line.proofs.passes.check_runs.Given as goal

-- every pixel before x has an entry
abbrev pub invariant-loop-x : goal.invariant-loop-x
invariant-loop-x l = Passing l.controls l.store l.table l.start l.x l.from

-- the pixels that are left
abbrev pub decreases-loop-x : goal.decreases-loop-x
decreases-loop-x l = l.controls.width - l.x
