use Rattle.std.proofs.Common.{length}
use Rattle.rules.specs.Rule.{value}
use Rattle.rules.proofs.Change.{Changing}
use Rattle.line_pixels.specs.Inner.{cursor_or}
use Rattle.line_pixels.specs.Source.{view_of}
use Rattle.line_pixels.proofs.source.Source.lay_cursor.Given as goal

-- the pixels before i have their cursor colours
abbrev pub invariant-loop-i : goal.invariant-loop-i
invariant-loop-i l =
    Changing (λ p under. value (view_of l.self) (cursor_or l.self.screen l.self.entry p under)) l.x (length l.fn.out) l.fn.out l.out l.i
