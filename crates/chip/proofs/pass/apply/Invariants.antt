-- Before each turn so many writes are in the store. Assumes nothing.
use Rattle.std.proofs.Common.{◌≡◌}
use Rattle.chip.specs.Inner.{stored_by}
use Rattle.chip.proofs.pass.apply.Given as goal

abbrev pub invariant-loop-write : goal.invariant-loop-write
invariant-loop-write l = l.store ≡ stored_by l.write-index l.fn.queue l.initial.store
