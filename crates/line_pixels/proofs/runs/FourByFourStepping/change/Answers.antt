use Rattle.std.proofs.Common.{◌+◌, ◌*◌, ◌≡◌, get_or, arith, zero-add}
use Rattle.rules.proofs.Change.{change_start, change_here, change_four_here}
use Rattle.line_pixels.proofs.runs.FourByFourStepping.change.Goals as goal

pub loop-turn-init : goal.loop-turn-init
loop-turn-init g c = λ change is. change_start (omega arith)

pub loop-turn-preserved : goal.loop-turn-preserved
loop-turn-preserved g c =
    λ change is.
    let i = 4 * c.loop-turn.turn in
    let words = c.loop-turn.words in
    let next : 4 * (c.loop-turn.turn + 1) ≡ i + 4 = omega arith in
    rw (next, c.put_four.ensures)
    (change_four_here 0 (c.loop-turn.invariant change is) (omega arith)
    (rw (zero-add i) (is i (get_or words i 0) c.colour-first.result (omega arith) c.colour-first.ensures))
    (rw (zero-add (i + 1)) (is (i + 1) (get_or words (i + 1) 0) c.colour-second.result (omega arith) c.colour-second.ensures))
    (rw (zero-add (i + 2)) (is (i + 2) (get_or words (i + 2) 0) c.colour-third.result (omega arith) c.colour-third.ensures))
    (rw (zero-add (i + 3)) (is (i + 3) (get_or words (i + 3) 0) c.colour-fourth.result (omega arith) c.colour-fourth.ensures)))

pub loop-last-preserved : goal.loop-last-preserved
loop-last-preserved g c =
    λ change is.
    let i = c.loop-last.last in
    change_here 0 (c.loop-last.invariant change is) (omega arith) (rw (zero-add i) (is i (get_or c.loop-last.words i 0) c.colour.result (omega arith) c.colour.ensures))
