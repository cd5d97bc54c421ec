-- Calls that nothing stands against are done: a write in plain numbers, and that no other reason refuses it. Assumes nothing.
use Prim.Native.Nat.{ℕ, ◌%◌, ◌^◌, ◌<◌}
use mathlib.Core.Path.{◌≡◌, refl, ap, ◌∙◌}
use mathlib.Core.Bool.{true, false, not, ◌&&◌}
use borrow.Author.Tests.{eq-eqb, lt-ltb, lt-leb}
use lib.ListN.{length}
use Rattle.std.specs.Prelude.{Some}
use Rattle.rules.specs.Rule.{ok}
use Rattle.rules.specs.Faults.{Clear}
use Rattle.rules.proofs.Checked.{verdict_clear}
use Rattle.chip_registers.specs.Named.{named}
use Rattle.chip_registers.specs.Access.{read_only, waits}
use Rattle.chip_registers.specs.Kept.{fits}
use Rattle.chip_registers.specs.declared.Block.TheVariants.{ColourMap}
use Rattle.chip_registers.specs.declared.Register.{Register}
use Rattle.chip_registers.proofs.Kept.{colour_fits}
use Rattle.chip_registers.proofs.Map.{register_in, InTable, listed_named}
use Rattle.chip_queue.specs.Queue.{full}
use Rattle.chip.specs.State.{HasArrays}
use Rattle.chip.specs.Call.{Chip}
use Rattle.chip.specs.Write.{address_faults, write_faults, written}
use Rattle.chip.proofs.RuleInWords.{KeepsRule, says_rule}
use Rattle.chip.proofs.Writes.{write_goes}

module _ (chip : Chip) (address value : ℕ) (whole : HasArrays chip.0) (keeps : KeepsRule chip.0) (size : length chip.1 ≡ 4963) where
  -- a write to a register that takes it is done
  pub write_taken : (register : Register) → named address ≡ Some register → read_only register ≡ false → fits register value ≡ true
      → waits register && full chip.0.queue ≡ false → (written chip address value).1 ≡ ok tt
  write_taken register names writable fine free =
      let own : Clear (address_faults (full chip.0.queue) address value) = rw names (writable, (ap not fine, (free, tt))) in
      ap (λ all. all.1)
      (write_goes chip address value
      (verdict_clear (write_faults chip address value) (ap not (says_rule chip.0 whole keeps), (ap not (eq-eqb _ _ size), own)))
      register names)

  -- a colour of 24 bits for one of the 4,608 entries is taken while fewer than 64 wait
  pub colour_taken : (word : ℕ) → InTable ColourMap word (address % 2 ^ 24) → value < 2 ^ 24 → chip.0.queue.waiting < 64
      → (written chip address value).1 ≡ ok tt
  unfolding full
  colour_taken word here small few =
      write_taken (register_in ColourMap word) (listed_named ColourMap word address here) refl
      (colour_fits word value ∙ lt-ltb value (2 ^ 24) small) (lt-leb 64 chip.0.queue.waiting few)
