-- What reads and dots report, in plain numbers.
use Rattle.chip_timing.specs.declared.Signals.{Signals}
use Rattle.std.specs.Prelude.{ℕ, Option, Some, None}
use Rattle.rules.specs.Rule.{Outcome, ok, refused}
use Rattle.rules.specs.Faults.{Numbered}
use Rattle.c_numbers.specs.Numbers.{yes_no}
use Rattle.c_chip.specs.declared.numbers.Reported.{Reported}

-- the word that a read answers, or 0 (CHIP 10.4)
abbrev pub word_read : Outcome Numbered ℕ → ℕ
word_read (ok word) = word
word_read (refused refusal) = 0

-- what dots reported, one or many
abbrev pub report_of_dots : Outcome Numbered (Option Signals) → Option Signals
report_of_dots (ok report) = report
report_of_dots (refused refusal) = None

-- a report: whether a dot was made, and the signals of the last one (CHIP 10.4)
abbrev pub in_numbers : Option Signals → Reported
in_numbers None = record { reported = 0; hsync = 0; vsync = 0; blank = 0 }
in_numbers (Some signals) =
    record {
      reported = 1;
      hsync = yes_no signals.hsync;
      vsync = yes_no signals.vsync;
      blank = yes_no signals.blank;
    }
