-- A register write.
use Rattle.std.specs.Prelude.{ℕ, Bool, true, not, cond, ◌&&◌, List, [], ◌∷◌, ◌++◌, length, set, Option, Some, None}
use Rattle.rules.specs.Rule.{Outcome}
use Rattle.rules.specs.Faults.{Numbered, Fault, unless}
use Rattle.refusals.specs.Refusal.{fault}
use Rattle.refusals.specs.declared.Refusal.TheVariants.{NoRegister, ReadOnly, StrayBits, QueueFull}
use Rattle.chip_registers.specs.Named.{address_place, named}
use Rattle.chip_registers.specs.Kept.{fits}
use Rattle.chip_registers.specs.Store.{store_place}
use Rattle.chip_registers.specs.Access.{read_only, waits}
use Rattle.chip_registers.specs.declared.Register.{Register}
use Rattle.chip_queue.specs.Queue.{full, pushed}
use Rattle.chip_queue.specs.Waiting.{write_to}
use Rattle.chip.specs.State.{with_word, with_queue}
use Rattle.chip.specs.Call.{Chip, call_faults}

-- why a write is refused, by what its address names and whether the queue is full: 1 where it names nothing, else 2, 3, 4, all at the address (CHIP 3.6, 8.1, 8.2)
abbrev pub register_faults : Bool → Option Register → ℕ → ℕ → List Fault
register_faults no_room None place value = fault (NoRegister place) true ∷ []
register_faults no_room (Some register) place value =
    fault (ReadOnly place) (read_only register)
    ∷ fault (StrayBits place) (not (fits register value))
    ∷ fault (QueueFull place) (waits register && no_room)
    ∷ []

-- why a write to an address is refused, by whether the queue is full (CHIP 8.1)
abbrev pub address_faults : Bool → ℕ → ℕ → List Fault
address_faults no_room address value = register_faults no_room (named address) (address_place address) value

-- the faults of a write, in order: 11, 5, 1, 2, 3, 4 (CHIP 2.1, 8.2)
abbrev pub write_faults : Chip → ℕ → ℕ → List Fault
write_faults chip address value = call_faults chip.0 (length chip.1) ++ address_faults (full chip.0.queue) address value

-- a value at its register's place: a word of the store, or a control word, which is the state's (CHIP 2.5, 2.8)
abbrev pub put_at : Chip → Register → ℕ → Option ℕ → Chip
put_at chip register value (Some index) = (chip.0, set chip.1 index value)
put_at chip register value None = (with_word chip.0 register.word value, chip.1)

-- a write joins the queue where it waits, else its value goes to its place (CHIP 2.8, 3.6)
abbrev pub put : Chip → Register → ℕ → Chip
put chip register value =
    cond (waits register) (with_queue chip.0 (pushed chip.0.queue (write_to register value)), chip.1)
    (put_at chip register value (store_place register))

-- a write to what an address names: where it names nothing, all stays as it was (CHIP 2.8)
abbrev pub put_named : Chip → Option Register → ℕ → Chip
put_named chip None value = chip
put_named chip (Some register) value = put chip register value

-- what a write leaves and answers (CHIP 2.8, 8.2)
unfoldable pub written : Chip → ℕ → ℕ → Chip × Outcome Numbered (Unit {0})
written chip address value = unless (write_faults chip address value) chip (put_named chip (named address) value, tt)
