-- What a write did: nothing where it was refused, else it put its value into the register that it names. Assumes nothing.
use Prim.Native.Nat.{ℕ, ◌<◌}
use mathlib.Core.Path.{◌≡◌, refl, ap, ◌∙◌}
use mathlib.Core.Bool.{true, false, ◌&&◌}
use mathlib.Core.List.{[]}
use lib.ListN.{length}
use Rattle.std.specs.Prelude.{Option, Some}
use Rattle.rules.specs.Rule.{Outcome, ok, refused}
use Rattle.rules.specs.Faults.{Numbered}
use Rattle.rules.proofs.Faults.{refused_leaves}
use Rattle.chip_registers.specs.Blocks.{count}
use Rattle.chip_registers.specs.Named.{named}
use Rattle.chip_registers.specs.Kept.{fits}
use Rattle.chip_registers.specs.Access.{waits}
use Rattle.chip_registers.specs.declared.Register.{Register}
use Rattle.chip_registers.proofs.Naming.{named_word}
use Rattle.chip_queue.specs.Queue.{full}
use Rattle.chip.specs.Call.{Chip}
use Rattle.chip.specs.Write.{write_faults, put, put_named, written}
use Rattle.chip.proofs.CallCheck.{GoesOn, says_allowed}
use Rattle.chip.proofs.Accepted.{AcceptedWrite, accepted_write}
use Rattle.chip_history.specs.Calls.{write}
use Rattle.chip_history.specs.Ledger.{colour_write, accepted_by, accepts}

-- a write that put its value into a register: it went on, there is such a word, the value fits, there was room; what it left, and what it accepted
pub record Put (chip : Chip) (address value : ℕ) (register : Register) : Type 0 where
  pub on : GoesOn chip
  pub here : register.word < count register.block
  pub fine : fits register value ≡ true
  pub free : (waits register && full chip.0.queue) ≡ false
  pub left : (written chip address value).0 ≡ put chip register value
  pub taken : accepts chip (write address value) ≡ colour_write (Some register) value

-- what a write did: nothing where it was refused, else it put its value into the register that it names
pub data Wrote (chip : Chip) (address value : ℕ) : Type 0 where
  nothing : (written chip address value).0 ≡ chip → accepts chip (write address value) ≡ [] → Wrote chip address value
  into : (register : Register) → Put chip address value register → Wrote chip address value

module _ (chip : Chip) (address value : ℕ) where
  -- a write that was accepted
  wrote_on : AcceptedWrite chip address value → (written chip address value).1 ≡ ok tt → Wrote chip address value
  unfolding accepts
  wrote_on on done =
      into on.register
      record {
        on = says_allowed chip.0 (length chip.1) on.good on.size;
        here = named_word address on.register on.names;
        fine = on.fine;
        free = on.free;
        left = on.left;
        taken =
            ap (λ (outcome : Outcome Numbered Unit). accepted_by outcome (colour_write (named address) value)) done
            ∙ ap (λ (names : Option Register). colour_write names value) on.names;
      }

  -- every write put its value into a register, or did nothing
  pub wrote : Wrote chip address value
  unfolding written accepts
  wrote = by (written chip address value).1 refl
    where
      -- by what the write answered
      by : (outcome : Outcome Numbered Unit) → (written chip address value).1 ≡ outcome → Wrote chip address value
      by (ok answer) e = wrote_on (accepted_write chip address value e) e
      by (refused refusal) e =
          nothing (refused_leaves chip (put_named chip (named address) value, tt) (write_faults chip address value) refusal e)
          (ap (λ (outcome : Outcome Numbered Unit). accepted_by outcome (colour_write (named address) value)) e)
