-- Before each turn so many writes have left. Assumes nothing.
use Rattle.std.proofs.Common.{◌≡◌}
use Rattle.chip_queue.specs.Queue.{without}
use Rattle.chip_queue.proofs.Queue.without.Given as goal

abbrev pub invariant-loop : goal.invariant-loop
invariant-loop l = l.self ≡ without l.fn.self l.counter
