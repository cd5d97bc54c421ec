-- The faults of writes, reads and dots in their order, by number and place. Assumes nothing.
use Prim.Native.Nat.{ℕ, ◌%◌, ◌^◌}
use mathlib.Core.Path.{◌≡◌, refl}
use mathlib.Core.List.{[], ◌∷◌}
use lib.ListN.{length}
use Rattle.std.specs.Prelude.{Some, None}
use Rattle.rules.proofs.Faults.{refusals_in, refusal_at}
use Rattle.chip_registers.specs.Named.{named}
use Rattle.chip_registers.specs.declared.Register.{Register}
use Rattle.chip.specs.Call.{Chip, call_faults}
use Rattle.chip.specs.Write.{write_faults}
use Rattle.chip.specs.Read.{read_faults}

module _ (chip : Chip) (address value : ℕ) where
  -- a dot: 11, 5
  pub dot_order : refusals_in (call_faults chip.0 (length chip.1)) ≡ refusal_at 11 0 ∷ refusal_at 5 1 ∷ []
  dot_order = refl

  module _ (register : Register) (names : named address ≡ Some register) where
    -- a write to a register: 11, 5, 2, 3, 4, the last three at the low 24 bits of the address
    pub write_order : refusals_in (write_faults chip address value)
        ≡ refusal_at 11 0 ∷ refusal_at 5 1 ∷ refusal_at 2 (address % 2 ^ 24) ∷ refusal_at 3 (address % 2 ^ 24) ∷ refusal_at 4 (address % 2 ^ 24) ∷ []
    write_order = rw names

    -- a read of one: 11, 5
    pub read_order : refusals_in (read_faults chip address) ≡ refusal_at 11 0 ∷ refusal_at 5 1 ∷ []
    read_order = rw names

  module _ (none : named address ≡ None) where
    -- where the address names none, a write: 11, 5, 1
    pub write_nowhere_order : refusals_in (write_faults chip address value) ≡ refusal_at 11 0 ∷ refusal_at 5 1 ∷ refusal_at 1 (address % 2 ^ 24) ∷ []
    write_nowhere_order = rw none

    -- and a read the same
    pub read_nowhere_order : refusals_in (read_faults chip address) ≡ refusal_at 11 0 ∷ refusal_at 5 1 ∷ refusal_at 1 (address % 2 ^ 24) ∷ []
    read_nowhere_order = rw none
