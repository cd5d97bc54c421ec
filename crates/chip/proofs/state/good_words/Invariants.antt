-- The words before this one are good, so the test from it on is the whole test. Assumes nothing.
use Rattle.std.proofs.Common.{◌≡◌, drop}
use Rattle.chip.specs.State.{good_words}
use Rattle.chip.proofs.state.good_words.Given as goal

abbrev pub invariant-loop-word : goal.invariant-loop-word
invariant-loop-word l = good_words l.word (drop l.word l.fn.control) ≡ good_words 0 l.fn.control
