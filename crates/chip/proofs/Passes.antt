-- How far dots come: the chip behind them, one dot more, and a walk over those that only move. Assumes nothing.
use Prim.Native.Nat.{ℕ, ◌+◌, ◌-◌, ◌≤◌, ◌<◌}
use mathlib.Core.Path.{◌≡◌, refl, ap, sym, ◌∙◌}
use mathlib.Core.Bool.{Bool, true, false, ◌&&◌}
use mathlib.Core.List.{List}
use native.Mathlib.Numerals.{add-one}
use native.Mathlib.Omega.{arith}
use borrow.Author.Tests.{ltb-true}
use lib.Dec.{ltb}
use Rattle.std.proofs.lemmas.Bool.{and_parts}
use Rattle.chip_timing.specs.Signals.{signals_at}
use Rattle.chip_timing.specs.Move.{next_position, position_after}
use Rattle.chip_timing.specs.Walk.{walked}
use Rattle.chip_timing.proofs.Walked.{walk_stops, walk_left_le}
use Rattle.chip_queue.specs.Queue.{without}
use Rattle.chip_queue.proofs.Slots.{waiting_without}
use Rattle.chip.specs.State.{control_word, windows_of, with_position}
use Rattle.chip.specs.Dot.{drains, after_dot}
use Rattle.chip.specs.Dots.{after_dots}
use Rattle.chip.specs.Inner.{stored_by, behind, WalksOn}
use Rattle.chip.specs.declared.state.State.{State}
use Rattle.chip.specs.declared.pass.Pass.{Pass}
use Rattle.chip.proofs.Runs.{draining_dot, idle_dot, drains_by, dots_none_wait, dots_walk}

-- ---- the chip behind dots

-- where no write is taken, only the beam is elsewhere
pub none_leave : (state : State) (store : List ℕ) (pass : Pass) → pass.taken ≡ 0 → (with_position state pass.at, store) ≡ behind (state, store) pass
unfolding without stored_by
none_leave state store pass none = rw none refl

-- ---- one dot more

-- where a dot applies a write, not all that wait are taken
pub more_wait : (blank : Bool) (waiting taken : ℕ) → (blank && ltb 0 (waiting - taken)) ≡ true → taken + 1 ≤ waiting
more_wait blank waiting taken draining = let some : 0 < waiting - taken = ltb-true _ _ (and_parts blank (ltb 0 (waiting - taken)) draining).1 in omega arith

module _ (state : State) (pass : Pass) (blank : Bool) (here : (signals_at (windows_of state) pass.at).blank ≡ blank) (store : List ℕ) where
  -- whether the next dot drains the queue, by how many wait still
  drains_behind : (test : Bool) → (blank && ltb 0 (state.queue.waiting - pass.taken)) ≡ test → drains (behind (state, store) pass).0 ≡ test
  drains_behind test e =
      drains_by (behind (state, store) pass).0 blank test here
      (ap (λ (waiting : ℕ). blank && ltb 0 waiting) (waiting_without state.queue pass.taken) ∙ e)

  -- a dot that drains the queue takes one write more and moves
  pub one_taken : (blank && ltb 0 (state.queue.waiting - pass.taken)) ≡ true
      → behind (state, store) (record { at = next_position pass.at (control_word state 1); taken = pass.taken + 1 }) ≡ after_dot (behind (state, store) pass)
  unfolding without stored_by
  one_taken draining = rw add-one (sym (draining_dot (behind (state, store) pass).0 (behind (state, store) pass).1 (drains_behind true draining)))

  -- any other only moves
  pub none_taken : (blank && ltb 0 (state.queue.waiting - pass.taken)) ≡ false
      → behind (state, store) (record { at = next_position pass.at (control_word state 1); taken = pass.taken }) ≡ after_dot (behind (state, store) pass)
  none_taken idle = sym (idle_dot (behind (state, store) pass).0 (behind (state, store) pass).1 (drains_behind false idle))

-- ---- a walk

module _ (state : State) (pass : Pass) (count : ℕ) where
  -- where all writes are taken, every dot only moves
  pub walks_all : state.queue.waiting ≡ pass.taken
      → WalksOn state pass count (record { at = position_after pass.at count (control_word state 1); left = 0 })
  unfolding after_dots
  walks_all none = (
    omega arith,
    λ (more : 0 < 0). absurd (omega arith),
    λ (store : List ℕ).
        dots_none_wait count (behind (state, store) pass).0 (behind (state, store) pass).1
        (let left = waiting_without state.queue pass.taken in omega arith),
  )

  -- up to the next blanked one, dots only move, whatever waits
  pub walks_to_blank : WalksOn state pass count (walked (windows_of state) pass.at (control_word state 1) count)
  walks_to_blank = (
    walk_left_le (windows_of state) pass.at (control_word state 1) count,
    walk_stops (windows_of state) pass.at (control_word state 1) count,
    λ (store : List ℕ). dots_walk count (behind (state, store) pass).0 (behind (state, store) pass).1,
  )
