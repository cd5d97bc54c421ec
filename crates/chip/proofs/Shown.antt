-- What a read shows: the room in the queue, and of every other block the stored word, whatever waits. Assumes nothing.
use Prim.Native.Nat.{ℕ, ◌+◌, ◌-◌, ◌*◌, ◌^◌}
use mathlib.Core.Path.{◌≡◌, ap, sym, ◌∙◌}
use mathlib.Core.Bool.{true}
use mathlib.Core.List.{List}
use native.Mathlib.Omega.{arith}
use lib.ListN.{length}
use Rattle.std.specs.Prelude.{Some}
use Rattle.rules.specs.Rule.{ok}
use Rattle.words.specs.Field.{field}
use Rattle.chip_registers.specs.Named.{named}
use Rattle.chip_registers.specs.Store.{in_store, store_length, stored}
use Rattle.chip_registers.specs.declared.Block.TheVariants.{Control}
use Rattle.chip_registers.specs.declared.Register.{Register}
use Rattle.chip_registers.proofs.Naming.{named_room, named_position}
use Rattle.chip.specs.State.{good_state}
use Rattle.chip.specs.Call.{Chip}
use Rattle.chip.specs.Read.{control_shows_by, register_shows, read_back}
use Rattle.chip.specs.declared.state.State.{State}
use Rattle.chip.proofs.Places.{stored_shown}
use Rattle.chip.proofs.Good.{good_says}
use Rattle.chip.proofs.CallCheck.{says_allowed}
use Rattle.chip.proofs.Readings.{read_shown}

module _ (chip : Chip) (good : good_state chip.0 ≡ true) (size : length chip.1 ≡ store_length) where
  -- a read of what its address names
  read_named : (address : ℕ) (register : Register) → named address ≡ Some register → (read_back chip address).1 ≡ ok (register_shows chip register)
  read_named address register names = ap (λ all. all.1) (read_shown chip address (says_allowed chip.0 (length chip.1) good size) register names)

  -- control word 9 shows the room in the queue: 64 less waiting
  pub room : (read_back chip 0x24).1 ≡ ok (64 - chip.0.queue.waiting)
  unfolding control_shows_by
  room = read_named 0x24 (record { block = Control; word = 9 }) named_room

  -- control word 10 shows the position: x in 11..0, y in 27..16
  pub position : ((read_back chip 0x28).1 ≡ ok (chip.0.at.y * 2 ^ 16 + chip.0.at.x))
      × (field (chip.0.at.y * 2 ^ 16 + chip.0.at.x) 11 0 ≡ chip.0.at.x)
      × (field (chip.0.at.y * 2 ^ 16 + chip.0.at.x) 27 16 ≡ chip.0.at.y)
  unfolding control_shows_by
  position =
      let said = good_says chip.0 good in
      (read_named 0x28 (record { block = Control; word = 10 }) named_position, omega (arith, said.1), omega (arith, said.1, said.2))

  -- a read of any block in the store shows the stored word's kept bits, whatever waits
  pub read_stored : (address : ℕ) (register : Register) → named address ≡ Some register → in_store register.block ≡ true
      → (read_back chip address).1 ≡ ok (stored chip.1 register)
  read_stored address register names here = read_named address register names ∙ ap ok (stored_shown chip register here)

-- what a read of a block in the store answers does not rest on the state: whatever its control words, its position and its queue
pub read_not_waiting : (state state' : State) (store : List ℕ) → good_state state ≡ true → good_state state' ≡ true → length store ≡ store_length
    → (address : ℕ) (register : Register) → named address ≡ Some register → in_store register.block ≡ true
    → (read_back (state, store) address).1 ≡ (read_back (state', store) address).1
read_not_waiting state state' store good good' size address register names here =
    read_stored (state, store) good size address register names here ∙ sym (read_stored (state', store) good' size address register names here)
