-- The walk to the first blanked position: what each clear move keeps holds where the walk ends. Assumes nothing.
use Prim.Native.Nat.{ℕ, zero, suc, ◌+◌, ◌-◌, ◌≤◌, ◌<◌}
use mathlib.Core.Path.{◌≡◌, refl, ◌∙◌}
use mathlib.Core.Bool.{true, false}
use mathlib.Core.Logic.{⊎_elim}
use mathlib.Mathlib.Data.Bool.Basic.{dichotomy}
use native.Mathlib.Decide.{dec_lt}
use native.Mathlib.Nat.{le_refl, zero-add, suc-add}
use native.Mathlib.Omega.{arith}
use Rattle.chip_timing.specs.Signals.{signals_at}
use Rattle.chip_timing.specs.Move.{next_position, position_after}
use Rattle.chip_timing.specs.Walk.{walked}
use Rattle.chip_timing.specs.declared.Position.{Position}
use Rattle.chip_timing.specs.declared.Windows.{Windows}
use Rattle.chip_timing.proofs.After.{after_next}

-- with no move left, the walk ends where it is
pub walk_out : (ws : Windows) (at : Position) (word : ℕ) → walked ws at word 0 ≡ record { at = at; left = 0 }
unfolding walked
walk_out ws at word = refl

-- a blanked position ends the walk
pub walk_here : (ws : Windows) (at : Position) (word most : ℕ) → (signals_at ws at).blank ≡ true → walked ws at word most ≡ record { at = at; left = most }
unfolding walked
walk_here ws at word zero held = refl
walk_here ws at word (suc most) held = rw held

-- from a clear position the walk moves on
pub walk_on : (ws : Windows) (at : Position) (word most : ℕ) → (signals_at ws at).blank ≡ false
    → walked ws at word (suc most) ≡ walked ws (next_position at word) word most
unfolding walked
walk_on ws at word most clear = rw clear

-- a clear run goes by at once
pub walk_skip : (ws : Windows) (at : Position) (word run rest : ℕ) → ((i : ℕ) → i < run → (signals_at ws (position_after at i word)).blank ≡ false)
    → walked ws at word (run + rest) ≡ walked ws (position_after at run word) word rest
unfolding position_after
walk_skip ws at word zero rest clear = rw (zero-add rest)
walk_skip ws at word (suc run) rest clear =
    rw (suc-add run rest)
    (walk_on ws at word (run + rest) (clear 0 (omega arith)) ∙ walk_skip ws (next_position at word) word run rest (λ i h. clear (suc i) (omega arith)))

-- where no position is blanked, the walk makes all its moves
pub walk_clear_all : (ws : Windows) (at : Position) (word most : ℕ) → ((p : Position) → (signals_at ws p).blank ≡ false)
    → walked ws at word most ≡ record { at = position_after at most word; left = 0 }
unfolding walked position_after
walk_clear_all ws at word zero clear = refl
walk_clear_all ws at word (suc most) clear = walk_on ws at word most (clear at) ∙ walk_clear_all ws (next_position at word) word most clear

-- what every move from a clear position keeps, of the moves left and the position, holds where the walk ends
pub walk_keeps {ℓ} : (ws : Windows) (at : Position) (word most : ℕ) (Kept : ℕ → Position → Type ℓ)
    → ((n : ℕ) (p : Position) → (signals_at ws p).blank ≡ false → Kept (suc n) p → Kept n (next_position p word))
    → Kept most at → Kept (walked ws at word most).left (walked ws at word most).at
unfolding walked
walk_keeps ws at word zero Kept move start = start
walk_keeps ws at word (suc most) Kept move start =
    ⊎_elim (λ clear. rw clear (walk_keeps ws (next_position at word) word most Kept move (move most at clear start)))
    (λ held. rw held start)
    (dichotomy (signals_at ws at).blank)

-- where the moves do not run out, the walk ends at a blanked position
pub walk_stops : (ws : Windows) (at : Position) (word most : ℕ) → 0 < (walked ws at word most).left → (signals_at ws (walked ws at word most).at).blank ≡ true
unfolding walked
walk_stops ws at word zero = λ some. absurd (omega arith)
walk_stops ws at word (suc most) =
    ⊎_elim (λ clear. rw clear (walk_stops ws (next_position at word) word most))
    (λ held. rw held (λ some. held))
    (dichotomy (signals_at ws at).blank)

module _ (ws : Windows) (at : Position) (word most : ℕ) where
  -- what does not change over a move from a clear position does not change over the walk
  pub walk_runs {ℓ} : {A : Type ℓ} (f : ℕ → Position → A)
      → ((n : ℕ) (p : Position) → (signals_at ws p).blank ≡ false → f (suc n) p ≡ f n (next_position p word))
      → f most at ≡ f (walked ws at word most).left (walked ws at word most).at
  walk_runs f move = walk_keeps ws at word most (λ n p. f most at ≡ f n p) (λ n p clear e. e ∙ move n p clear) refl

  -- how far the walk came, with so many moves left
  Came : ℕ → Position → Type 0
  Came n p = (n ≤ most) × (p ≡ position_after at (most - n) word) × ((i : ℕ) → i < most - n → (signals_at ws (position_after at i word)).blank ≡ false)

  -- one clear move further
  came_on : (n : ℕ) (p : Position) → (signals_at ws p).blank ≡ false → Came (suc n) p → Came n (next_position p word)
  unfolding Came
  came_on n p clear came =
      let more : most - n ≡ suc (most - suc n) = omega (arith, came.0) in (
        omega (arith, came.0),
        rw (more, after_next at (most - suc n) word, ← came.1),
        λ i h. elim (dec_lt i (most - suc n)) [
          | yes before ↦ came.2 i before
          | no last ↦
              let e : i ≡ most - suc n = omega arith in
              rw (e, ← came.1) clear
        ],
      )

  -- how far the walk came where it ends
  came : Came (walked ws at word most).left (walked ws at word most).at
  unfolding Came position_after
  came =
      let none : most - most ≡ 0 = omega arith in
      walk_keeps ws at word most Came came_on (le_refl most, rw none, λ i h. absurd (omega arith))

  -- no more moves are left than there were
  pub walk_left_le : (walked ws at word most).left ≤ most
  unfolding Came
  walk_left_le = came.0

  -- every position before the one where the walk ends is clear
  pub walk_clear : (i : ℕ) → i < most - (walked ws at word most).left → (signals_at ws (position_after at i word)).blank ≡ false
  unfolding Came
  walk_clear = came.2
