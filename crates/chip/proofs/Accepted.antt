-- What an accepted write says: its address names a register that takes the value, and the value was put there. Assumes nothing.
use Prim.Native.Nat.{ℕ}
use mathlib.Core.Path.{◌≡◌, refl, ap, ◌∙◌}
use mathlib.Core.Bool.{true, false, true≢false, ◌&&◌}
use borrow.Author.Tests.{eqb-true, not-false}
use lib.ListN.{length}
use Rattle.std.specs.Prelude.{Option, Some, None}
use Rattle.rules.specs.Rule.{ok}
use Rattle.rules.specs.Faults.{Clear}
use Rattle.rules.proofs.Faults.{none_holds, accepted_clear}
use Rattle.chip_registers.specs.Named.{address_place, named}
use Rattle.chip_registers.specs.Kept.{fits}
use Rattle.chip_registers.specs.Store.{store_length}
use Rattle.chip_registers.specs.Access.{read_only, waits}
use Rattle.chip_registers.specs.declared.Register.{Register}
use Rattle.chip_queue.specs.Queue.{full}
use Rattle.chip.specs.State.{good_state}
use Rattle.chip.specs.Call.{Chip}
use Rattle.chip.specs.Write.{register_faults, write_faults, put, put_named, written}

-- a write that was accepted: the register that its address names, why nothing stood against it, and what it left
pub record AcceptedWrite (chip : Chip) (address value : ℕ) : Type 0 where
  pub register : Register
  pub names : named address ≡ Some register
  pub good : good_state chip.0 ≡ true
  pub size : length chip.1 ≡ store_length
  pub writable : read_only register ≡ false
  pub fine : fits register value ≡ true
  pub free : (waits register && full chip.0.queue) ≡ false
  pub left : (written chip address value).0 ≡ put chip register value

module _ (chip : Chip) (address value : ℕ) where
  -- a write that no fault stands against, by what its address names
  clear_accepted : Clear (write_faults chip address value) → (what : Option Register) → named address ≡ what → AcceptedWrite chip address value
  unfolding written
  clear_accepted clear None e =
      let wrong : Clear (register_faults (full chip.0.queue) None (address_place address) value) = rw e at clear.1.1 in
      absurd (true≢false wrong.0)
  clear_accepted clear (Some register) e =
      let own : Clear (register_faults (full chip.0.queue) (Some register) (address_place address) value) = rw e at clear.1.1 in
      let does = none_holds chip (put_named chip (named address) value, tt) (write_faults chip address value) clear in
      record {
        register = register;
        names = e;
        good = not-false _ clear.0;
        size = eqb-true _ _ (not-false _ clear.1.0);
        writable = own.0;
        fine = not-false _ own.1.0;
        free = own.1.1.0;
        left = ap (λ all. all.0) does ∙ ap (λ (what : Option Register). put_named chip what value) e;
      }

  -- a write that answers that it is done was accepted
  pub accepted_write : (written chip address value).1 ≡ ok tt → AcceptedWrite chip address value
  unfolding written
  accepted_write done =
      clear_accepted (accepted_clear chip (put_named chip (named address) value, tt) (write_faults chip address value) tt done) (named address) refl
