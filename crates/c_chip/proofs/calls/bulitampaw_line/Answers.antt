-- `c_chip::calls::bulitampaw_line`: the state that a line hands back is the one that came.
use Rattle.std.proofs.Common.{ℕ, List, ap}
use Rattle.rules.specs.Rule.{Outcome}
use Rattle.rules.specs.Faults.{Numbered}
use Rattle.chip.specs.declared.state.State.{State}
use Rattle.line.specs.Drawn.{drawn}
use Rattle.c_chip.specs.Calls.{line_answer, drawn_in_numbers}
use Rattle.c_chip.proofs.calls.bulitampaw_line.Goals as goal

pub returns : goal.returns
unfolding drawn_in_numbers drawn
returns c =
    rw c.refusal_of.ensures
    (ap (λ (all : (State × List ℕ) × Outcome Numbered (Unit {0})). (line_answer c.args.state all.1, all.0.1)) c.draw-drawn.ensures)
