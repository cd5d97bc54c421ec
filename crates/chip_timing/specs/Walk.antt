-- The walk to the first blanked position.
use Rattle.std.specs.Prelude.{ℕ, zero, suc, cond}
use Rattle.chip_timing.specs.Signals.{signals_at}
use Rattle.chip_timing.specs.Move.{next_position}
use Rattle.chip_timing.specs.declared.Position.{Position}
use Rattle.chip_timing.specs.declared.Walk.{Walk}
use Rattle.chip_timing.specs.declared.Windows.{Windows}

-- on from a position to the first blanked one, by at most so many moves: where that is, and how many of the moves are left (CHIP 3.5)
unfoldable pub walked : Windows → Position → ℕ → ℕ → Walk
walked windows at word zero = record { at = at; left = 0 }
walked windows at word (suc most) =
    cond (signals_at windows at).blank (record { at = at; left = suc most }) (walked windows (next_position at word) word most)
