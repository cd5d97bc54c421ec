-- A refused call: it leaves all as it was, and a state that keeps its rule is not refused by 11. Assumes nothing.
use Prim.Native.Nat.{ℕ}
use mathlib.Core.Path.{◌≡◌, refl, ap, subst, ◌∙◌}
use mathlib.Core.Bool.{true, false≢true}
use mathlib.Core.List.{List, [], ◌∷◌, ◌++◌}
use native.Mathlib.Omega.{arith}
use lib.ListN.{length}
use Rattle.std.specs.Prelude.{Option, Some, None}
use Rattle.rules.specs.Rule.{refused}
use Rattle.rules.specs.Faults.{Numbered, Fault, First, unless}
use Rattle.rules.proofs.Faults.{first_holds, refused_first}
use Rattle.chip_registers.specs.Named.{address_place, named}
use Rattle.chip_registers.specs.declared.Register.{Register}
use Rattle.chip_queue.specs.Queue.{full}
use Rattle.chip.specs.State.{good_state}
use Rattle.chip.specs.Call.{Chip, call_faults}
use Rattle.chip.specs.Write.{register_faults, address_faults, write_faults, put_named, written}
use Rattle.chip.specs.Read.{address_shows, name_faults, read_faults, read_back}
use Rattle.chip.specs.Dot.{signals_of, after_dot, dotted}
use Rattle.chip.specs.Dots.{after_dots, last_report, ran}
use Rattle.chip_history.specs.Calls.{Call, write, read, dot, dots, line, left_by, faults_of, RefusedBy}

-- what refuses a call is the first of its faults that holds
pub refused_exactly : (chip : Chip) (call : Call) (refusal : Numbered) → RefusedBy chip call refusal → First (faults_of chip call) refusal
unfolding written read_back dotted ran
refused_exactly chip (write address value) refusal e = refused_first chip (put_named chip (named address) value, tt) (write_faults chip address value) refusal e
refused_exactly chip (read address) refusal e = refused_first chip (chip, address_shows chip (named address)) (read_faults chip address) refusal e
refused_exactly chip dot refusal e = refused_first chip (after_dot chip, Some (signals_of chip.0)) (call_faults chip.0 (length chip.1)) refusal e
refused_exactly chip (dots count) refusal e = refused_first chip (after_dots count chip, last_report count chip) (call_faults chip.0 (length chip.1)) refusal e
refused_exactly chip line refusal e = absurd e

-- a call is refused by the first of its faults that holds, and leaves all as it was
pub exactly_refused : (chip : Chip) (call : Call) (refusal : Numbered) → (call ≡ line → ⊥) → First (faults_of chip call) refusal
    → RefusedBy chip call refusal × (left_by chip call ≡ chip)
unfolding left_by written read_back dotted ran
exactly_refused chip (write address value) refusal real f =
    let e = first_holds chip (put_named chip (named address) value, tt) (write_faults chip address value) refusal f in (ap (λ all. all.1) e, ap (λ all. all.0) e)
exactly_refused chip (read address) refusal real f =
    let e = first_holds chip (chip, address_shows chip (named address)) (read_faults chip address) refusal f in (ap (λ all. all.1) e, ap (λ all. all.0) e)
exactly_refused chip dot refusal real f =
    let e = first_holds chip (after_dot chip, Some (signals_of chip.0)) (call_faults chip.0 (length chip.1)) refusal f in (ap (λ all. all.1) e, ap (λ all. all.0) e)
exactly_refused chip (dots count) refusal real f =
    let e = first_holds chip (after_dots count chip, last_report count chip) (call_faults chip.0 (length chip.1)) refusal f in (ap (λ all. all.1) e, ap (λ all. all.0) e)
exactly_refused chip line refusal real f = absurd (real refl)

-- a refused call leaves all as it was
pub refused_same : (chip : Chip) (call : Call) (refusal : Numbered) → RefusedBy chip call refusal → left_by chip call ≡ chip
refused_same chip call refusal e = (exactly_refused chip call refusal (real call e) (refused_exactly chip call refusal e)).1
  where
    -- a call that is refused is no line
    real : (call : Call) → RefusedBy chip call refusal → call ≡ line → ⊥
    real call e same = subst (λ (call : Call). RefusedBy chip call refusal) same e

-- none of some faults that holds has this number
abbrev Avoids : ℕ → List Fault → Type 0
Avoids number [] = Unit {0}
Avoids number (fault ∷ faults) = (fault.holds ≡ true → fault.refusal.number ≡ number → ⊥) × Avoids number faults

-- where none of some faults that holds has a number, a fault between others that holds has another
avoids_one : (number : ℕ) (passed : List Fault) (found : Fault) (later : List Fault) → Avoids number (passed ++ (found ∷ later))
    → found.holds ≡ true → found.refusal.number ≡ number → ⊥
avoids_one number [] found later avoids = avoids.0
avoids_one number (fault ∷ passed) found later avoids = avoids_one number passed found later avoids.1

-- a call of which no fault that holds has a number is not refused by it
module _ {Memory Answer : Type 0} (before : Memory) (does : Memory × Answer) (faults : List Fault) (number : ℕ) (avoids : Avoids number faults) where
  -- a refusal does not have a number that no fault which holds has
  avoids_all : (refusal : Numbered) → (unless faults before does).1 ≡ refused refusal → refusal.number ≡ number → ⊥
  avoids_all refusal e same =
      let f = refused_first before does faults refusal e in
      avoids_one number f.passed f.found f.later (rw f.order at avoids) f.holds (ap (λ (r : Numbered). r.number) f.is ∙ same)

module _ (chip : Chip) (good : good_state chip.0 ≡ true) where
  -- 11 does not hold of a state that keeps its rule, and every other fault has another number
  avoids_11 : (others : List Fault) → Avoids 11 others → Avoids 11 (call_faults chip.0 (length chip.1) ++ others)
  avoids_11 others avoids = (λ holds e. false≢true (rw good at holds), (λ holds e. omega arith, avoids))

  -- what an address names is no fault of number 11 of a write
  write_avoids : (names : Option Register) (place value : ℕ) → Avoids 11 (register_faults (full chip.0.queue) names place value)
  write_avoids None place value = (λ holds e. omega arith, tt)
  write_avoids (Some register) place value = (λ holds e. omega arith, (λ holds e. omega arith, (λ holds e. omega arith, tt)))

  -- what an address names is no fault of number 11 of a read
  read_avoids : (names : Option Register) (place : ℕ) → Avoids 11 (name_faults names place)
  read_avoids None place = (λ holds e. omega arith, tt)
  read_avoids (Some register) place = tt

  -- where the state keeps its rule, no call is refused by 11
  pub good_not_11 : (call : Call) (refusal : Numbered) → RefusedBy chip call refusal → refusal.number ≡ 11 → ⊥
  unfolding written read_back dotted ran
  good_not_11 (write address value) refusal e =
      avoids_all chip (put_named chip (named address) value, tt) (write_faults chip address value) 11
      (avoids_11 (address_faults (full chip.0.queue) address value) (write_avoids (named address) (address_place address) value))
      refusal e
  good_not_11 (read address) refusal e =
      avoids_all chip (chip, address_shows chip (named address)) (read_faults chip address) 11
      (avoids_11 (name_faults (named address) (address_place address)) (read_avoids (named address) (address_place address)))
      refusal e
  good_not_11 dot refusal e =
      avoids_all chip (after_dot chip, Some (signals_of chip.0)) (call_faults chip.0 (length chip.1)) 11 (avoids_11 [] tt) refusal e
  good_not_11 (dots count) refusal e =
      avoids_all chip (after_dots count chip, last_report count chip) (call_faults chip.0 (length chip.1)) 11 (avoids_11 [] tt) refusal e
  good_not_11 line refusal e = absurd e
