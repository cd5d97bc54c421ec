-- Runs of dots that only move the position, and what a dot and a run of dots come to. Assumes nothing.
use Prim.Native.Nat.{ℕ, zero, suc, ◌+◌, ◌-◌}
use mathlib.Core.Path.{◌≡◌, refl, ap, ◌∙◌}
use mathlib.Core.Bool.{Bool, true, false, ◌&&◌}
use mathlib.Core.List.{List}
use native.Mathlib.Omega.{arith}
use borrow.Author.Tests.{le-ltb}
use lib.Dec.{ltb}
use lib.ListN.{length}
use Rattle.std.specs.Prelude.{Some, None}
use Rattle.rules.specs.Rule.{ok, refused}
use Rattle.rules.specs.Faults.{Numbered}
use Rattle.chip_timing.specs.Move.{position_after}
use Rattle.chip_timing.specs.Walk.{walked}
use Rattle.chip_timing.specs.declared.Position.{Position}
use Rattle.chip_timing.proofs.Walked.{walk_runs}
use Rattle.chip.specs.State.{control_word, windows_of, with_position}
use Rattle.chip.specs.Call.{Chip, call_faults}
use Rattle.chip.specs.Dot.{signals_of, drains, oldest_applied, moved, after_dot, dotted}
use Rattle.chip.specs.Dots.{after_dots, last_report, ran}
use Rattle.chip.specs.declared.state.State.{State}
use Rattle.chip.proofs.Good.{dots_add}
use Rattle.chip.proofs.CallCheck.{tested, GoesOn, passes, stops}

module _ (state : State) (store : List ℕ) where
  -- a dot that drains the queue applies its oldest write and moves
  pub draining_dot : drains state ≡ true
      → after_dot (state, store) ≡ (moved (oldest_applied (state, store)).0, (oldest_applied (state, store)).1)
  unfolding after_dot
  draining_dot draining = simp draining refl

  -- a dot that applies nothing only moves
  pub idle_dot : drains state ≡ false → after_dot (state, store) ≡ (moved state, store)
  unfolding after_dot
  idle_dot idle = simp idle refl

  -- where nothing waits, nothing is applied
  none_waits : state.queue.waiting ≡ 0 → drains state ≡ false
  unfolding drains
  none_waits none = rw (le-ltb 0 state.queue.waiting (omega arith)) (and_false (signals_of state).blank)
    where
      -- where one of two tests is false, they do not hold together
      and_false : (test : Bool) → (test && false) ≡ false
      and_false true = refl
      and_false false = refl

  -- where the dot is not blanked, nothing is applied
  not_blanked : (signals_of state).blank ≡ false → drains state ≡ false
  unfolding drains
  not_blanked clear = ap (λ (test : Bool). test && ltb 0 state.queue.waiting) clear

-- whether a dot drains the queue, by its signals
pub drains_by : (state : State) (blank test : Bool) → (signals_of state).blank ≡ blank → (blank && ltb 0 state.queue.waiting) ≡ test → drains state ≡ test
unfolding drains
drains_by state blank test e h = ap (λ (blank : Bool). blank && ltb 0 state.queue.waiting) e ∙ h

-- where nothing waits, dots move the position and change nothing else
pub dots_none_wait : (count : ℕ) (state : State) (store : List ℕ) → state.queue.waiting ≡ 0
    → after_dots count (state, store) ≡ (with_position state (position_after state.at count (control_word state 1)), store)
unfolding after_dots position_after
dots_none_wait zero state store none = refl
dots_none_wait (suc count) state store none =
    ap (after_dots count) (idle_dot state store (none_waits state store none)) ∙ dots_none_wait count (moved state) store none

-- up to the next blanked dot, dots move the position and change nothing else, whatever waits
pub dots_walk : (count : ℕ) (state : State) (store : List ℕ)
    → let walk = walked (windows_of state) state.at (control_word state 1) count in
    after_dots count (state, store) ≡ after_dots walk.left (with_position state walk.at, store)
unfolding after_dots
dots_walk count state store =
    walk_runs (windows_of state) state.at (control_word state 1) count
    (λ (left : ℕ) (at : Position). after_dots left (with_position state at, store))
    (λ left at clear. ap (after_dots left) (idle_dot (with_position state at) store (not_blanked (with_position state at) store clear)))

-- ---- what a dot and a run of dots come to

module _ (chip : Chip) where
  -- a dot whose state is bad or whose store has another length is refused by 11 or 5, and leaves all as it was
  pub dot_unfit : (refusal : Numbered) → tested chip ≡ refused refusal → dotted chip ≡ (chip, refused refusal)
  unfolding dotted
  dot_unfit refusal e = stops chip _ (call_faults chip.0 (length chip.1)) refusal e

  -- any other dot leaves what a dot leaves, and reports the signals where the beam was
  pub dot_done : GoesOn chip → dotted chip ≡ (after_dot chip, ok (Some (signals_of chip.0)))
  unfolding dotted
  dot_done fine = passes chip _ (call_faults chip.0 (length chip.1)) fine

  module _ (count : ℕ) where
    -- a run of dots whose state is bad or whose store has another length is refused by 11 or 5, and leaves all as it was
    pub dots_unfit : (refusal : Numbered) → tested chip ≡ refused refusal → ran chip count ≡ (chip, refused refusal)
    unfolding ran
    dots_unfit refusal e = stops chip _ (call_faults chip.0 (length chip.1)) refusal e

    -- any other run leaves what so many dots leave, and reports what the last of them does
    pub dots_done : GoesOn chip → ran chip count ≡ (after_dots count chip, ok (last_report count chip))
    unfolding ran
    dots_done fine = passes chip _ (call_faults chip.0 (length chip.1)) fine

  -- a run ends with its last dot
  dots_last : (count : ℕ) → after_dots (suc count) chip ≡ after_dot (after_dots count chip)
  unfolding after_dots
  dots_last count =
      let e : suc count ≡ count + 1 = omega arith in
      ap (λ (count : ℕ). after_dots count chip) e ∙ dots_add count 1 chip

  module _ (count : ℕ) (fine : GoesOn chip) where
    -- no dot reports nothing
    pub dots_none : count ≡ 0 → ran chip count ≡ (chip, ok None)
    unfolding after_dots last_report
    dots_none none = ap (ran chip) none ∙ dots_done 0 fine

    -- the last dot reports what it finds behind the others
    pub dots_some : (count ≡ 0 → ⊥) → ran chip count ≡ (after_dot (after_dots (count - 1) chip), ok (Some (signals_of (after_dots (count - 1) chip).0)))
    unfolding last_report
    dots_some some =
        let e : count ≡ suc (count - 1) = omega arith in
        ap (ran chip) e
        ∙ dots_done (suc (count - 1)) fine
        ∙ ap (λ (after : Chip). (after, ok (Some (signals_of (after_dots (count - 1) chip).0)))) (dots_last (count - 1))

-- one dot is a run of one
pub one_dot : (chip : Chip) → ran chip 1 ≡ dotted chip
unfolding ran dotted after_dots last_report
one_dot chip = refl
