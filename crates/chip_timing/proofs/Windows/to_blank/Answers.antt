-- A clear run goes by at once, so what is left of the walk is the walk from its end. Assumes nothing.
use Rattle.std.proofs.Common.{◌≡◌, sym, ◌∙◌, ◌+◌, ◌-◌, arith}
use Rattle.chip_timing.proofs.Walked.{walk_skip}
use Rattle.chip_timing.proofs.Windows.to_blank.Goals as goal

pub loop-left-preserved : goal.loop-left-preserved
loop-left-preserved c =
    let a = c.args in
    let run = c.min-run.result in
    let rest = c.loop-left.left - run in
    let split : c.loop-left.left ≡ run + rest = omega arith in
    let clear = c.clear_run.ensures.2 (rw c.signals.ensures at c.if-signals.false) in
    let skip = walk_skip a.self c.loop-left.at a.total run rest (λ i h. clear i (omega arith)) in
    rw c.along-at.ensures (sym skip ∙ (rw split at c.loop-left.invariant))
