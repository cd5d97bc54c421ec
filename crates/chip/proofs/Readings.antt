-- What a read comes to, case by case in the order of its faults. Assumes nothing.
use Prim.Native.Nat.{ℕ}
use mathlib.Core.Path.{◌≡◌, refl, ap, sym, ◌∙◌}
use mathlib.Core.Bool.{Bool, true, false, cond}
use mathlib.Core.List.{List, [], ◌∷◌}
use lib.ListN.{length}
use Rattle.std.specs.Prelude.{Option, Some, None}
use Rattle.rules.specs.Rule.{Outcome, ok, refused, and_then}
use Rattle.rules.specs.Faults.{Numbered, Fault, unless}
use Rattle.rules.specs.Checked.{verdict}
use Rattle.refusals.specs.Refusal.{numbered}
use Rattle.refusals.specs.declared.Refusal.TheVariants.{NoRegister}
use Rattle.chip_registers.specs.Named.{address_place, named}
use Rattle.chip_registers.specs.declared.Register.{Register}
use Rattle.chip.specs.Call.{Chip, call_faults}
use Rattle.chip.specs.Read.{register_shows, address_shows, name_faults, read_faults, read_back}
use Rattle.chip.proofs.CallCheck.{tested, GoesOn, first_then, passes, stops}

-- a call that does nothing leaves all as it was, refused or not
unless_same : {Memory Answer : Type 0} (before : Memory) (answer : Answer) (faults : List Fault) → (unless faults before (before, answer)).0 ≡ before
unless_same before answer [] = refl
unless_same before answer (fault ∷ faults) = by fault.holds (unless_same before answer faults)
  where
    -- by whether the first fault holds, else by those behind it
    by : (test : Bool) → (unless faults before (before, answer)).0 ≡ before
        → (cond test (before, refused fault.refusal) (unless faults before (before, answer))).0 ≡ before
    by true rest = refl
    by false rest = rest

-- a read leaves all as it was, refused or not
pub read_same : (chip : Chip) (address : ℕ) → (read_back chip address).0 ≡ chip
unfolding read_back
read_same chip address = unless_same chip (address_shows chip (named address)) (read_faults chip address)

module _ (chip : Chip) (address : ℕ) where
  -- a read by its first test, and then by what its address names
  read_test : {first : Outcome Numbered (Unit {0})} {what : Option Register} → tested chip ≡ first → named address ≡ what
      → verdict (read_faults chip address) ≡ and_then first (λ passed. verdict (name_faults what (address_place address)))
  read_test e names = rw (sym e, sym names) (first_then (call_faults chip.0 (length chip.1)) (name_faults (named address) (address_place address)))

  -- a read whose state is bad or whose store has another length is refused by 11 or 5
  pub read_unfit : (refusal : Numbered) → tested chip ≡ refused refusal → read_back chip address ≡ (chip, refused refusal)
  unfolding read_back
  read_unfit refusal e = stops chip _ (read_faults chip address) refusal (read_test e refl)

  module _ (fine : GoesOn chip) where
    -- a read of an address that names nothing is refused by 1, at the address
    pub read_nowhere : named address ≡ None → read_back chip address ≡ (chip, refused (numbered (NoRegister (address_place address))))
    unfolding read_back
    read_nowhere e = stops chip _ (read_faults chip address) _ (read_test fine e)

    -- any other read answers what the register shows
    pub read_shown : (register : Register) → named address ≡ Some register → read_back chip address ≡ (chip, ok (register_shows chip register))
    unfolding read_back
    read_shown register e = passes chip _ (read_faults chip address) (read_test fine e) ∙ ap (λ (what : Option Register). (chip, ok (address_shows chip what))) e
