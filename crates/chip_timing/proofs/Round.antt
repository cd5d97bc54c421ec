-- Timing in other words than its definitions: a window as a way round a circle, the moves as a picture's raster, and the signals window by window. Assumes nothing.
use Prim.Native.Nat.{ℕ, zero, suc, min, ◌+◌, ◌-◌, ◌*◌, ◌/◌, ◌%◌, ◌≤◌, ◌<◌}
use mathlib.Core.Path.{◌≡◌, refl, sym, ap, ◌∙◌}
use mathlib.Core.Bool.{Bool, true, false, or-true}
use native.Mathlib.Decide.{dec_lt}
use native.Mathlib.Nat.{mod-eq_of_lt, add-mod_right, div-eq_of_lt}
use native.Mathlib.Omega.{arith}
use borrow.Author.Tests.{eqb-true, eqb-false, lt-ltb, le-ltb, le-leb, lt-leb}
use lib.Dec.{ltb, eqb}
use Rattle.words.specs.Field.{field}
use Rattle.chip_timing.specs.Window.{in_window}
use Rattle.chip_timing.specs.Signals.{window_holds, signals_at}
use Rattle.chip_timing.specs.Move.{total_width, total_lines, position_after}
use Rattle.chip_timing.specs.declared.Position.{Position}
use Rattle.chip_timing.specs.declared.Windows.{Windows}
use Rattle.chip_timing.proofs.After.{after_along, after_ends}

-- ---- a window goes round

module _ (total on q : ℕ) (small : q < total) where
  -- the steps from on to a place ahead of it
  ahead : on ≤ q → (q + total - on) % total ≡ q - on
  ahead from =
      let e : q + total - on ≡ q - on + total = omega arith in
      ap (λ (n : ℕ). n % total) e ∙ add-mod_right (q - on) total ∙ mod-eq_of_lt (omega arith)

  -- the steps from on to a place behind it, once round
  behind : on < total → q < on → (q + total - on) % total ≡ q + total - on
  behind fits before = mod-eq_of_lt (omega arith)

-- on a circle of any total that is above all three: going round from on, p is met before off; so where on is off no p is
pub goes_round : (total on off p : ℕ) → on < total → off < total → p < total
    → in_window on off p ≡ ltb ((p + total - on) % total) ((off + total - on) % total)
unfolding in_window
goes_round total on off p small small' small'' =
    elim (dec_lt on off) [
      | yes rises ↦ elim (dec_lt p on) [
        | yes before ↦
            rw (lt-ltb on off rises, lt-leb on p before, behind total on p small'' small before, ahead total on off small' (omega arith))
            (sym (le-ltb (p + total - on) (off - on) (omega arith)))
        | no from ↦ elim (dec_lt p off) [
          | yes inside ↦
              rw (lt-ltb on off rises, le-leb on p (omega arith), lt-ltb p off inside, ahead total on p small'' (omega arith), ahead total on off small' (omega arith))
              (sym (lt-ltb (p - on) (off - on) (omega arith)))
          | no past ↦
              rw (lt-ltb on off rises, le-leb on p (omega arith), le-ltb p off (omega arith), ahead total on p small'' (omega arith), ahead total on off small' (omega arith))
              (sym (le-ltb (p - on) (off - on) (omega arith)))
        ]
      ]
      | no high ↦ elim (dec_lt off on) [
        | yes wraps ↦ elim (dec_lt p on) [
          | yes before ↦ elim (dec_lt p off) [
            | yes inside ↦
                rw (le-ltb on off (omega arith), lt-ltb off on wraps, lt-leb on p before, lt-ltb p off inside, behind total on p small'' small before, behind total on off small' small wraps)
                (sym (lt-ltb (p + total - on) (off + total - on) (omega arith)))
            | no past ↦
                rw (le-ltb on off (omega arith), lt-ltb off on wraps, lt-leb on p before, le-ltb p off (omega arith), behind total on p small'' small before, behind total on off small' small wraps)
                (sym (le-ltb (p + total - on) (off + total - on) (omega arith)))
          ]
          | no from ↦
              rw (le-ltb on off (omega arith), lt-ltb off on wraps, le-leb on p (omega arith), ahead total on p small'' (omega arith), behind total on off small' small wraps)
              (sym (lt-ltb (p - on) (off + total - on) (omega arith)))
        ]
        | no low ↦
            rw (le-ltb on off (omega arith), le-ltb off on (omega arith), ahead total on off small' (omega arith))
            (sym (le-ltb ((p + total - on) % total) (off - on) (omega arith)))
      ]
    ]

-- ---- the moves are a raster

-- where the beam starts
abbrev origin : Position
origin = record { x = 0; y = 0 }

-- so many moves from the start, by control word 1
from_origin : (count word : ℕ) → position_after origin count word ≡ record { x = count % total_width word; y = count / total_width word % total_lines word }
unfolding position_after
from_origin zero word =
    sym (rw (mod-eq_of_lt {n = 0} {m = total_width word} (omega arith), div-eq_of_lt {n = 0} {m = total_width word} (omega arith), mod-eq_of_lt {n = 0} {m = total_lines word} (omega arith)))
from_origin (suc count) word = by (eqb (suc count / total_width word) 0) refl
  where
    -- the dots to where the moves lead are the moves
    dots : min 0 (field word 11 0) + suc count ≡ suc count
    dots = omega arith

    -- by whether a line ended on the way
    by : (test : Bool) → eqb (suc count / total_width word) 0 ≡ test
        → position_after origin (suc count) word ≡ record { x = suc count % total_width word; y = suc count / total_width word % total_lines word }
    by true e =
        let none = eqb-true (suc count / total_width word) 0 e in
        after_along word origin (suc count) (omega arith) (rw dots none)
        ∙ rw (dots, none, mod-eq_of_lt {n = 0} {m = total_lines word} (omega arith))
    by false e =
        let first : min 0 (field word 27 16) + suc count / total_width word ≡ suc count / total_width word = omega arith in
        after_ends word origin (suc count) (omega arith) (rw dots (eqb-false (suc count / total_width word) 0 e))
        ∙ rw (dots, first)

-- over a picture of so many columns and lines, x runs from 0 to the last column and y counts the lines, and then again from the first
pub raster : (width lines count : ℕ) → 0 < width → width ≤ 4096 → 0 < lines → lines ≤ 4096
    → position_after (record { x = 0; y = 0 }) count (width - 1 + 65536 * (lines - 1)) ≡ record { x = count % width; y = count / width % lines }
raster width lines count some wide some' high =
    let word : ℕ = width - 1 + 65536 * (lines - 1) in
    let columns : total_width word ≡ width = omega arith in
    let above : word / 65536 ≡ lines - 1 = omega arith in
    let last : (lines - 1) % 4096 ≡ lines - 1 = mod-eq_of_lt (omega arith) in
    let rows : total_lines word ≡ lines = ap (λ (n : ℕ). n % 4096 + 1) above ∙ (omega (arith, last)) in
    from_origin count word ∙ rw (columns, rows)

-- ---- the signals, one by one

module _ (windows : Windows) (at : Position) where
  -- horizontal sync goes by x and control word 2, vertical sync by y and control word 3: on in bits 11..0, off in 27..16
  pub syncs :
      ((signals_at windows at).hsync ≡ in_window (windows.hsync % 4096) (windows.hsync / 65536 % 4096) at.x)
      × ((signals_at windows at).vsync ≡ in_window (windows.vsync % 4096) (windows.vsync / 65536 % 4096) at.y)
  unfolding signals_at window_holds
  syncs =
      let low : field windows.hsync 11 0 ≡ windows.hsync % 4096 = omega arith in
      let low' : field windows.vsync 11 0 ≡ windows.vsync % 4096 = omega arith in
      (rw low, rw low')

  -- horizontal blank alone is blank: control word 4 by x
  pub blank_by_x : in_window (windows.hblank % 4096) (windows.hblank / 65536 % 4096) at.x ≡ true → (signals_at windows at).blank ≡ true
  unfolding signals_at window_holds
  blank_by_x here = let low : field windows.hblank 11 0 ≡ windows.hblank % 4096 = omega arith in rw (low, here)

  -- vertical blank alone is blank: control word 5 by y
  pub blank_by_y : in_window (windows.vblank % 4096) (windows.vblank / 65536 % 4096) at.y ≡ true → (signals_at windows at).blank ≡ true
  unfolding signals_at window_holds
  blank_by_y here =
      let low : field windows.vblank 11 0 ≡ windows.vblank % 4096 = omega arith in
      rw (low, here) (or-true (window_holds windows.hblank at.x))

  -- and nothing else is
  pub blank_by_none : in_window (windows.hblank % 4096) (windows.hblank / 65536 % 4096) at.x ≡ false
      → in_window (windows.vblank % 4096) (windows.vblank / 65536 % 4096) at.y ≡ false → (signals_at windows at).blank ≡ false
  unfolding signals_at window_holds
  blank_by_none here there =
      let low : field windows.hblank 11 0 ≡ windows.hblank % 4096 = omega arith in
      let low' : field windows.vblank 11 0 ≡ windows.vblank % 4096 = omega arith in
      rw (low, low', here, there)
