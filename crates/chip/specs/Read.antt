-- A register read.
use Rattle.std.specs.Prelude.{ℕ, ◌+◌, ◌*◌, ◌^◌, true, cond, List, [], ◌∷◌, ◌++◌, eqb, length, get_or, Option, Some, None}
use Rattle.rules.specs.Rule.{Outcome}
use Rattle.rules.specs.Faults.{Numbered, Fault, unless}
use Rattle.refusals.specs.Refusal.{fault}
use Rattle.refusals.specs.declared.Refusal.TheVariants.{NoRegister}
use Rattle.chip_timing.specs.declared.Position.{Position}
use Rattle.chip_registers.specs.Named.{address_place, named}
use Rattle.chip_registers.specs.Kept.{kept_of}
use Rattle.chip_registers.specs.Store.{store_place}
use Rattle.chip_registers.specs.declared.Register.{Register}
use Rattle.chip_queue.specs.Queue.{room}
use Rattle.chip.specs.Call.{Chip, call_faults}
use Rattle.chip.specs.declared.state.State.{State}

-- what a control word shows: word 9 how many more writes can wait, word 10 the position, x in 11..0 and y in 27..16; the others are as stored (CHIP 2.3)
unfoldable pub control_shows_by : List ℕ → ℕ → Position → ℕ → ℕ
control_shows_by control free at word = cond (eqb word 9) free (cond (eqb word 10) (at.y * 2 ^ 16 + at.x) (get_or control word 0))

-- what a control word of a state shows, by its words, the room in its queue and its position (CHIP 2.3)
abbrev pub control_shows : State → ℕ → ℕ
control_shows state word = control_shows_by state.control (room state.queue) state.at word

-- what a register shows at its place: in the store the stored word, not a waiting one; else it is a control word (CHIP 2.6, 3.7)
abbrev pub shows_at : Chip → Register → Option ℕ → ℕ
shows_at chip register (Some index) = kept_of register (get_or chip.1 index 0)
shows_at chip register None = control_shows chip.0 register.word

-- what a register shows (CHIP 2.8)
abbrev pub register_shows : Chip → Register → ℕ
register_shows chip register = shows_at chip register (store_place register)

-- what an address shows by what it names; one that names nothing is refused before anything is shown
abbrev pub address_shows : Chip → Option Register → ℕ
address_shows chip None = 0
address_shows chip (Some register) = register_shows chip register

-- an address that names nothing: 1 (CHIP 8.1)
abbrev pub name_faults : Option Register → ℕ → List Fault
name_faults None place = fault (NoRegister place) true ∷ []
name_faults (Some register) place = []

-- the faults of a read, in order: 11, 5, 1 (CHIP 2.1, 8.2)
abbrev pub read_faults : Chip → ℕ → List Fault
read_faults chip address = call_faults chip.0 (length chip.1) ++ name_faults (named address) (address_place address)

-- what a read leaves and answers (CHIP 8.2)
unfoldable pub read_back : Chip → ℕ → Chip × Outcome Numbered ℕ
read_back chip address = unless (read_faults chip address) chip (chip, address_shows chip (named address))
