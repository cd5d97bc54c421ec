-- The colour writes that a sequence of calls accepts, and those that it applies, in order.
use Rattle.std.specs.Prelude.{ℕ, zero, suc, ◌+◌, cond, List, [], ◌∷◌, ◌++◌, ltb, eqb, Option, Some, None}
use Rattle.rules.specs.Rule.{Outcome, ok, refused}
use Rattle.rules.specs.Lists.{joined}
use Rattle.rules.specs.Faults.{Numbered}
use Rattle.chip_registers.specs.Named.{named}
use Rattle.chip_registers.specs.Access.{waits}
use Rattle.chip_registers.specs.declared.Register.{Register}
use Rattle.chip_queue.specs.Queue.{oldest}
use Rattle.chip_queue.specs.Waiting.{write_to}
use Rattle.chip_queue.specs.declared.Waiting.{Waiting}
use Rattle.chip_queue.specs.declared.Queue.{Queue}
use Rattle.chip.specs.Call.{Chip}
use Rattle.chip.specs.Write.{written}
use Rattle.chip.specs.Dot.{dotted}
use Rattle.chip_history.specs.Calls.{Call, write, read, dot, dots, line, left_by}
use Rattle.chip_timing.specs.declared.Signals.{Signals}

-- ---- accepted

-- a write to a register of the colour map is a colour write (CHIP 3.6)
abbrev pub colour_write : Option Register → ℕ → List Waiting
colour_write None value = []
colour_write (Some register) value = cond (waits register) (write_to register value ∷ []) []

-- the colour write of a write that was done; none of one that was refused
abbrev pub accepted_by : Outcome Numbered (Unit {0}) → List Waiting → List Waiting
accepted_by (ok answer) writes = writes
accepted_by (refused refusal) writes = []

-- the colour write that a call accepts, if any (CHIP 3.8)
unfoldable pub accepts : Chip → Call → List Waiting
accepts chip (write address value) = accepted_by (written chip address value).1 (colour_write (named address) value)
accepts chip (read address) = []
accepts chip dot = []
accepts chip (dots count) = []
accepts chip line = []

-- the colour writes that some calls accept (CHIP 3.8)
unfoldable pub accepted : Chip → List Call → List Waiting
accepted chip [] = []
accepted chip (call ∷ calls) = accepts chip call ++ accepted (left_by chip call) calls

-- ---- applied

-- the oldest of a queue, if something waits in it (CHIP 3.3)
abbrev pub front : Queue → List Waiting
front queue = cond (ltb 0 queue.waiting) (oldest queue ∷ []) []

-- for a dot that reported blank one list, of what it applies: the oldest write, or nothing where nothing waits; for any other dot no list (CHIP 3.8)
abbrev pub blanked_by : Outcome Numbered (Option Signals) → Queue → List (List Waiting)
blanked_by (ok None) queue = []
blanked_by (ok (Some signals)) queue = cond signals.blank (front queue ∷ []) []
blanked_by (refused refusal) queue = []

-- what each blanked dot applies, of so many dots (CHIP 3.8)
unfoldable pub blanked_dots : ℕ → Chip → List (List Waiting)
blanked_dots zero chip = []
blanked_dots (suc count) chip = blanked_by (dotted chip).1 chip.0.queue ++ blanked_dots count (dotted chip).0

-- what each blanked dot of a call applies; a run of dots is so many dots (CHIP 3.8)
unfoldable pub blanks : Chip → Call → List (List Waiting)
blanks chip (write address value) = []
blanks chip (read address) = []
blanks chip dot = blanked_dots 1 chip
blanks chip (dots count) = blanked_dots count chip
blanks chip line = []

-- for each blanked dot of some calls, in order, what it applies (CHIP 3.8)
unfoldable pub blanked : Chip → List Call → List (List Waiting)
blanked chip [] = []
blanked chip (call ∷ calls) = blanks chip call ++ blanked (left_by chip call) calls

-- the writes that some calls apply: at each dot that reported blank with something waiting, the oldest (CHIP 3.8)
abbrev pub applied : Chip → List Call → List Waiting
applied chip calls = joined (blanked chip calls)

-- how many blanked dots met something waiting (CHIP 3.8)
abbrev pub met : List (List Waiting) → ℕ
met [] = 0
met ([] ∷ others) = met others
met ((some ∷ more) ∷ others) = met others + 1

-- ---- what a map entry holds

-- the colour of the last of some writes to an entry, or what it held before (CHIP 3.8)
abbrev pub latest : ℕ → List Waiting → ℕ → ℕ
latest entry [] held = held
latest entry (next ∷ later) held = latest entry later (cond (eqb next.word entry) next.value held)
