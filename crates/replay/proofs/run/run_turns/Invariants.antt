-- `run_turns`: before each turn the run was reached from its start, by as many turns as are counted.
use Rattle.session.specs.Held.{nothing_held}
use Rattle.session.specs.Lent.{rooms_of, session_of}
use Rattle.session.specs.Done.{session_with}
use Rattle.replay.specs.Run.{begun, run_of}
use Rattle.replay.proofs.Loop.{Running}
use Rattle.replay.proofs.run.run_turns.Given as goal

abbrev pub invariant-loop : goal.invariant-loop
invariant-loop l =
    Running (run_of begun (session_of nothing_held) (rooms_of l.fn.store l.fn.table l.fn.normal l.fn.overlay l.fn.output) l.fn.input l.fn.lines) l.counter
    (run_of l.course (session_with l.state l.counts l.records) (rooms_of l.store l.table l.normal l.overlay l.output) l.input l.lines)
