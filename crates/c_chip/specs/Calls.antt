-- What C is answered by a call on the chip.
use Rattle.chip_timing.specs.declared.Signals.{Signals}
use Rattle.std.specs.Prelude.{ℕ, List, Option}
use Rattle.rules.specs.Rule.{Outcome}
use Rattle.rules.specs.Faults.{Numbered}
use Rattle.c_numbers.specs.Numbers.{refusal_of}
use Rattle.chip.specs.Call.{Chip}
use Rattle.chip.specs.Write.{written}
use Rattle.chip.specs.Read.{read_back}
use Rattle.chip.specs.Dot.{dotted}
use Rattle.chip.specs.Dots.{ran}
use Rattle.chip.specs.declared.state.State.{State}
use Rattle.line.specs.Cells.{Lent}
use Rattle.line.specs.Drawn.{drawn}
use Rattle.line.specs.declared.request.Request.{Request}
use Rattle.c_chip.specs.Reports.{word_read, report_of_dots, in_numbers}
use Rattle.c_chip.specs.declared.calls.WrittenNumbers.{WrittenNumbers}
use Rattle.c_chip.specs.declared.calls.ReadBackNumbers.{ReadBackNumbers}
use Rattle.c_chip.specs.declared.calls.DottedNumbers.{DottedNumbers}
use Rattle.c_chip.specs.declared.calls.DrawnNumbers.{DrawnNumbers}

-- a write's answer in numbers: the state after it, and why it was refused
abbrev pub write_answer : State → Outcome Numbered (Unit {0}) → WrittenNumbers
write_answer state answer = record { state = state; refusal = refusal_of answer }

-- what a write answers, and the words of the store after it (CHIP 10.4)
unfoldable pub written_in_numbers : Chip → ℕ → ℕ → WrittenNumbers × List ℕ
written_in_numbers chip address value =
    let all = written chip address value in
    (write_answer all.0.0 all.1, all.0.1)

-- a read's answer in numbers: the state, why it was refused, and the word
abbrev pub read_answer : State → Outcome Numbered ℕ → ReadBackNumbers
read_answer state answer = record { state = state; refusal = refusal_of answer; word = word_read answer }

-- what a read answers; it changes no word of the store (CHIP 10.4)
unfoldable pub read_in_numbers : Chip → ℕ → ReadBackNumbers
read_in_numbers chip address = let all = read_back chip address in read_answer all.0.0 all.1

-- the answer of dots in numbers, one or many: the state after them, why they were refused, and the signals of the last
abbrev pub dots_answer : State → Outcome Numbered (Option Signals) → DottedNumbers
dots_answer state answer = record { state = state; refusal = refusal_of answer; signals = in_numbers (report_of_dots answer) }

-- what dots answer, one or many, and the words of the store after them
abbrev pub dots_in_numbers : Chip × Outcome Numbered (Option Signals) → DottedNumbers × List ℕ
dots_in_numbers all = (dots_answer all.0.0 all.1, all.0.1)

-- what a dot answers, and the words of the store after it (CHIP 10.4)
unfoldable pub dotted_in_numbers : Chip → DottedNumbers × List ℕ
dotted_in_numbers chip = dots_in_numbers (dotted chip)

-- what a run of dots answers, and the words of the store after it (CHIP 10.4)
unfoldable pub ran_in_numbers : Chip → ℕ → DottedNumbers × List ℕ
ran_in_numbers chip count = dots_in_numbers (ran chip count)

-- a line's answer in numbers: the state, and why it was refused
abbrev pub line_answer : State → Outcome Numbered (Unit {0}) → DrawnNumbers
line_answer state answer = record { state = state; refusal = refusal_of answer }

-- what a line answers, and the words of the output after it (CHIP 10.4)
unfoldable pub drawn_in_numbers : Request → Lent → List ℕ → DrawnNumbers × List ℕ
drawn_in_numbers request lent output = let all = drawn request lent output in (line_answer all.0.0 all.1, all.0.1)
