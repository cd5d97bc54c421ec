-- Which cursor colour shows, case by case. Assumes nothing.
use Prim.Native.Nat.{ℕ, ◌+◌, ◌-◌, ◌≤◌, ◌<◌}
use mathlib.Core.Path.{◌≡◌, ap, ◌∙◌}
use mathlib.Core.Bool.{Bool, true, false, ◌&&◌, and-false, or-true}
use mathlib.Core.Logic.{◌⊎◌, inl, inr}
use native.Mathlib.Omega.{arith}
use borrow.Author.Tests.{le-leb, lt-leb, eq-eqb, ne_eqb}
use lib.Dec.{leb, eqb}
use Rattle.rules.specs.Rule.{value}
use Rattle.line_pixels.specs.Cells.{PixelCell, glyph}
use Rattle.line_pixels.specs.Cursor.{within32, in_glyph, on_cross_hair, cursor_at}
use Rattle.line_pixels.specs.declared.Screen.{Screen}

module _ (cursor place : ℕ) where
  -- a place behind the cursor's is not within the 32
  behind : cursor < place → within32 cursor place ≡ false
  behind h = rw (lt-leb place cursor h, and-false _)

  -- a place more than 31 before the cursor's is not within the 32
  before : place + 32 ≤ cursor → within32 cursor place ≡ false
  before h = ap (λ (near : Bool). near && leb place cursor) (lt-leb cursor (place + 31) (omega arith))

  -- the cursor's place and the 31 before it are the 32
  among : place ≤ cursor → cursor ≤ place + 31 → within32 cursor place ≡ true
  among low high = ap (λ (near : Bool). near && leb place cursor) (le-leb cursor (place + 31) high) ∙ le-leb place cursor low

module _ (memory : PixelCell → ℕ) (screen : Screen) (x : ℕ) where
  -- where the cursor is off, no cursor colour shows
  pub cursor_off : screen.cursor ≡ false → value memory (cursor_at screen x) ≡ 0
  unfolding cursor_at
  cursor_off off = rw off

  module _ (on : screen.cursor ≡ true) where
    module _ (cross : screen.crosshair ≡ true) where
      -- a pixel on the upright line of the cross-hair shows colour 1
      pub on_column : x ≡ screen.cx → value memory (cursor_at screen x) ≡ 1
      unfolding cursor_at on_cross_hair
      on_column is = rw (on, cross, eq-eqb x screen.cx is)

      -- a pixel on the level line of the cross-hair shows colour 1
      pub on_row : screen.y ≡ screen.cy → value memory (cursor_at screen x) ≡ 1
      unfolding cursor_at on_cross_hair
      on_row is = rw (on, cross, eq-eqb screen.y screen.cy is, or-true (eqb x screen.cx))

      -- a pixel on neither line of the cross-hair shows no cursor colour
      pub off_cross_hair : (x ≡ screen.cx → ⊥) → (screen.y ≡ screen.cy → ⊥) → value memory (cursor_at screen x) ≡ 0
      unfolding cursor_at on_cross_hair
      off_cross_hair column row = rw (on, cross, ne_eqb x screen.cx column, ne_eqb screen.y screen.cy row)

    module _ (no_cross : screen.crosshair ≡ false) where
      -- a pixel right or left of the glyph shows no cursor colour
      pub beside : (screen.cx < x) ⊎ (x + 32 ≤ screen.cx) → value memory (cursor_at screen x) ≡ 0
      unfolding cursor_at in_glyph
      beside (inl h) = rw (on, no_cross, behind screen.cx x h)
      beside (inr h) = rw (on, no_cross, before screen.cx x h)

      -- a pixel below or above the glyph shows no cursor colour
      pub beyond : (screen.cy < screen.y) ⊎ (screen.y + 32 ≤ screen.cy) → value memory (cursor_at screen x) ≡ 0
      unfolding cursor_at in_glyph
      beyond (inl h) = rw (on, no_cross, behind screen.cy screen.y h, and-false _)
      beyond (inr h) = rw (on, no_cross, before screen.cy screen.y h, and-false _)

      -- a pixel in the glyph shows the number in its cell
      pub cursor_in_glyph : x ≤ screen.cx → screen.cx ≤ x + 31 → screen.y ≤ screen.cy → screen.cy ≤ screen.y + 31
          → value memory (cursor_at screen x) ≡ memory (glyph (screen.y + 31 - screen.cy) (x + 31 - screen.cx))
      unfolding cursor_at in_glyph
      cursor_in_glyph right left bottom top =
          rw (on, no_cross, among screen.cx x right left, among screen.cy screen.y bottom top)
