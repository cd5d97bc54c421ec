-- What a write comes to, by its verdict. Assumes nothing.
use Prim.Native.Nat.{ℕ}
use mathlib.Core.Path.{◌≡◌, ap, ◌∙◌}
use mathlib.Core.Bool.{false, ◌&&◌}
use borrow.Author.Tests.{eqb-true, not-false}
use lib.ListN.{length}
use Rattle.std.specs.Prelude.{Option, Some}
use Rattle.rules.specs.Rule.{ok, refused}
use Rattle.rules.specs.Faults.{Numbered, Clear}
use Rattle.rules.specs.Checked.{verdict}
use Rattle.rules.proofs.Checked.{clear_verdict}
use Rattle.chip_registers.specs.Named.{address_place, named}
use Rattle.chip_registers.specs.Store.{store_length}
use Rattle.chip_registers.specs.Access.{read_only, waits}
use Rattle.chip_registers.specs.declared.Register.{Register}
use Rattle.chip_queue.specs.Queue.{full}
use Rattle.chip.specs.Call.{Chip}
use Rattle.chip.specs.Write.{register_faults, write_faults, put, put_named, written}
use Rattle.chip.proofs.CallCheck.{passes, stops}

module _ (chip : Chip) (address value : ℕ) where
  -- a write of which a fault holds is refused by the first, and leaves all as it was
  pub write_refused : (refusal : Numbered) → verdict (write_faults chip address value) ≡ refused refusal → written chip address value ≡ (chip, refused refusal)
  unfolding written
  write_refused refusal e = stops chip _ (write_faults chip address value) refusal e

  module _ (fine : verdict (write_faults chip address value) ≡ ok tt) (register : Register) (there : named address ≡ Some register) where
    -- a write of which no fault holds goes to its register
    pub write_goes : written chip address value ≡ (put chip register value, ok tt)
    unfolding written
    write_goes = passes chip _ (write_faults chip address value) fine ∙ ap (λ (what : Option Register). (put_named chip what value, ok tt)) there

    -- where a write goes to its register, the register can be written, the store has its length, and a write that waits has room
    pub goes_says : (read_only register ≡ false) × (length chip.1 ≡ store_length) × ((waits register && full chip.0.queue) ≡ false)
    goes_says =
        let clear = clear_verdict (write_faults chip address value) fine in
        let own : Clear (register_faults (full chip.0.queue) (Some register) (address_place address) value) = rw there at clear.1.1 in
        (own.0, eqb-true _ _ (not-false _ clear.1.0), own.1.1.0)
