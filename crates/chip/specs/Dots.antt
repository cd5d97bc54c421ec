-- Many dots: one after the other, checked once.
use Rattle.std.specs.Prelude.{ℕ, zero, suc, length, Option, Some, None}
use Rattle.rules.specs.Rule.{Outcome}
use Rattle.rules.specs.Faults.{Numbered, unless}
use Rattle.chip.specs.Call.{Chip, call_faults}
use Rattle.chip.specs.Dot.{signals_of, after_dot}
use Rattle.chip_timing.specs.declared.Signals.{Signals}

-- what so many dots leave (CHIP 3.5)
unfoldable pub after_dots : ℕ → Chip → Chip
after_dots zero chip = chip
after_dots (suc count) chip = after_dots count (after_dot chip)

-- what the last of them reports; no dot reports nothing (CHIP 3.5)
unfoldable pub last_report : ℕ → Chip → Option Signals
last_report zero chip = None
last_report (suc count) chip = Some (signals_of (after_dots count chip).0)

-- what a run of dots leaves and answers; it is refused by 11, then 5 (CHIP 3.5)
unfoldable pub ran : Chip → ℕ → Chip × Outcome Numbered (Option Signals)
ran chip count = unless (call_faults chip.0 (length chip.1)) chip (after_dots count chip, last_report count chip)
