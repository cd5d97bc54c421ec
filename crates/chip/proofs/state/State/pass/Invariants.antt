-- No more is taken than waits, and the dots that are left lead where all lead; each turn leaves fewer dots. Assumes nothing.
use Rattle.std.proofs.Common.{ℕ, ◌≡◌, ◌≤◌, List}
use Rattle.chip.specs.Dots.{after_dots}
use Rattle.chip.specs.Inner.{behind}
use Rattle.chip.proofs.state.State.pass.Given as goal

abbrev pub invariant-loop-left : goal.invariant-loop-left
invariant-loop-left l =
    (l.pass.taken ≤ l.self.queue.waiting) × ((store : List ℕ) → after_dots l.left (behind (l.self, store) l.pass) ≡ after_dots l.fn.count (l.self, store))

abbrev pub decreases-loop-left : goal.decreases-loop-left
decreases-loop-left l = l.left
