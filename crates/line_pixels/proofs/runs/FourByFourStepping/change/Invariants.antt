use Rattle.std.proofs.Common.{ℕ, ◌*◌, length}
use Rattle.rules.proofs.Change.{Changing}
use Rattle.line_pixels.specs.ByClosure.{IsChange}
use Rattle.line_pixels.proofs.runs.FourByFourStepping.change.Given as goal

-- whatever change says what the closure answers, the words before the turn's four have it
abbrev pub invariant-loop-turn : goal.invariant-loop-turn
invariant-loop-turn g l =
    (change : ℕ → ℕ → ℕ) → IsChange (goal.F-post g l.fn.colour) (length l.fn.words) change
    → Changing change 0 (length l.fn.words) l.fn.words l.words (4 * l.turn)

-- whatever change says what the closure answers, the words before the last ones have it
abbrev pub invariant-loop-last : goal.invariant-loop-last
invariant-loop-last g l =
    (change : ℕ → ℕ → ℕ) → IsChange (goal.F-post g l.fn.colour) (length l.fn.words) change
    → Changing change 0 (length l.fn.words) l.fn.words l.words l.last
