-- Clear runs: from a clear position on, the rest of its line is clear up to where horizontal blank comes on. Assumes nothing.
use Prim.Native.Nat.{ℕ, zero, suc, ◌+◌, ◌≤◌, ◌<◌}
use mathlib.Core.Path.{◌≡◌}
use mathlib.Core.Bool.{true, false, true≢false, ◌&&◌}
use native.Mathlib.Decide.{dec_lt}
use native.Mathlib.Omega.{arith}
use borrow.Author.Tests.{eqb-true, ltb-false, lt-ltb, le-ltb, le-leb, lt-leb}
use Rattle.std.proofs.lemmas.Bool.{and_parts, or_parts}
use Rattle.words.specs.Field.{field}
use Rattle.chip_timing.specs.Window.{in_window}
use Rattle.chip_timing.specs.Signals.{window_holds, is_empty, signals_at}
use Rattle.chip_timing.specs.Move.{position_after}
use Rattle.chip_timing.specs.declared.Position.{Position}
use Rattle.chip_timing.specs.declared.Windows.{Windows}
use Rattle.chip_timing.proofs.After.{after_line}

module _ (on off x p : ℕ) (on_from : x ≤ p) (before : x < on → p < on) where
  -- a window whose on is below its off
  clear_rising : on < off → in_window on off x ≡ false → in_window on off p ≡ false
  unfolding in_window
  clear_rising rises clear =
      elim (dec_lt x on) [
        | yes h ↦ rw (lt-ltb on off rises, lt-leb on p (before h))
        | no h ↦
            let past : off ≤ x = ltb-false x off (rw (lt-ltb on off rises, le-leb on x (omega arith)) at clear) in
            rw (lt-ltb on off rises, le-leb on p (omega arith), le-ltb p off (omega arith))
      ]

  -- a window that goes round
  clear_wrapping : off < on → in_window on off x ≡ false → in_window on off p ≡ false
  unfolding in_window
  clear_wrapping wraps clear =
      elim (dec_lt x on) [
        | yes h ↦
            let past : off ≤ x = ltb-false x off (rw (le-ltb on off (omega arith), lt-ltb off on wraps, lt-leb on x h) at clear) in
            rw (le-ltb on off (omega arith), lt-ltb off on wraps, lt-leb on p (before h), le-ltb p off (omega arith))
        | no h ↦ absurd (true≢false (rw (le-ltb on off (omega arith), lt-ltb off on wraps, le-leb on x (omega arith)) at clear))
      ]

  -- a window that does not hold at x does not hold before it comes on
  window_clear : in_window on off x ≡ false → in_window on off p ≡ false
  unfolding in_window
  window_clear clear =
      elim (dec_lt on off) [
        | yes rises ↦ clear_rising rises clear
        | no h ↦ elim (dec_lt off on) [ yes wraps ↦ clear_wrapping wraps clear | no g ↦ rw (le-ltb on off (omega arith), le-ltb off on (omega arith)) ]
      ]

module _ (ws : Windows) (at : Position) (word : ℕ) (clear : (signals_at ws at).blank ≡ false) where
  -- a clear position by itself is a clear run
  pub run_one : (i : ℕ) → i < 1 → (signals_at ws (position_after at i word)).blank ≡ false
  unfolding position_after
  run_one zero h = clear
  run_one (suc i) h = absurd (omega arith)

  -- the dots of its line that come before horizontal blank comes on are a clear run
  pub run_along : (run : ℕ) → at.x + run ≤ field word 11 0 + 1 → (at.x < field ws.hblank 11 0 → at.x + run ≤ field ws.hblank 11 0)
      → (i : ℕ) → i < run → (signals_at ws (position_after at i word)).blank ≡ false
  unfolding signals_at window_holds
  run_along run within before i h =
      let dark = or_parts (window_holds ws.hblank at.x) (window_holds ws.vblank at.y) clear in
      rw (
        after_line at i word (omega arith),
        window_clear (field ws.hblank 11 0) (field ws.hblank 27 16) at.x (at.x + i) (omega arith) (λ b. omega (arith, before b)) dark.0,
      )
      dark.1

-- an empty window holds nowhere
empty_holds : (word p : ℕ) → is_empty word ≡ true → window_holds word p ≡ false
unfolding is_empty window_holds in_window
empty_holds word p empty =
    let e = eqb-true (field word 11 0) (field word 27 16) empty in
    rw (le-ltb (field word 11 0) (field word 27 16) (omega (arith, e)), le-ltb (field word 27 16) (field word 11 0) (omega (arith, e)))

-- where both windows are empty, no position is blanked
pub run_for_ever : (ws : Windows) → (is_empty ws.hblank && is_empty ws.vblank) ≡ true → (at : Position) → (signals_at ws at).blank ≡ false
unfolding signals_at
run_for_ever ws empty at =
    let e = and_parts (is_empty ws.hblank) (is_empty ws.vblank) empty in
    rw (empty_holds ws.hblank at.x e.0) (empty_holds ws.vblank at.y e.1)
