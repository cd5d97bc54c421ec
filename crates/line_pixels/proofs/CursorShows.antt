-- Which cursor colour shows at a pixel, by columns and rows counted from the cursor's. Assumes nothing.
use Prim.Native.Nat.{ℕ, ◌+◌, ◌-◌, ◌<◌}
use mathlib.Core.Path.{◌≡◌, refl, sym, ◌∙◌}
use mathlib.Core.Bool.{Bool, true, false}
use mathlib.Core.Logic.{◌⊎◌, inl, inr, ◌≢◌, ⊎_elim}
use native.Mathlib.Omega.{arith}
use lib.Dec.{eqb}
use borrow.Author.Tests.{eqb-true, eqb-false}
use Rattle.rules.specs.Rule.{value}
use Rattle.rules.proofs.Cases.{le_or_lt}
use Rattle.line_pixels.specs.Cells.{PixelCell, glyph}
use Rattle.line_pixels.specs.Cursor.{cursor_at}
use Rattle.line_pixels.specs.declared.Screen.{Screen}
use Rattle.line_pixels.proofs.CursorCases.{cursor_off, on_column, on_row, off_cross_hair, beside, beyond, cursor_in_glyph}

-- the cursor shows this colour at pixel x, 0 for none: off none, as cross-hair colour 1 in its column and row, as glyph the number in the cell of column x + 31 − cx and row y + 31 − cy, if both are 0 to 31
pub data CursorShows (memory : PixelCell → ℕ) (screen : Screen) (x number : ℕ) : Type 0 where
  switched_off : screen.cursor ≡ false → number ≡ 0 → CursorShows memory screen x number
  on_cross_hair : screen.cursor ≡ true → screen.crosshair ≡ true → (x ≡ screen.cx) ⊎ (screen.y ≡ screen.cy) → number ≡ 1
      → CursorShows memory screen x number
  beside_cross_hair : screen.cursor ≡ true → screen.crosshair ≡ true → x ≢ screen.cx → screen.y ≢ screen.cy → number ≡ 0
      → CursorShows memory screen x number
  in_cell : screen.cursor ≡ true → screen.crosshair ≡ false → (column row : ℕ) → column < 32 → row < 32
      → x + 31 ≡ screen.cx + column → screen.y + 31 ≡ screen.cy + row → number ≡ memory (glyph row column) → CursorShows memory screen x number
  in_no_cell : screen.cursor ≡ true → screen.crosshair ≡ false
      → ((column row : ℕ) → column < 32 → row < 32 → x + 31 ≡ screen.cx + column → screen.y + 31 ≡ screen.cy + row → ⊥)
      → number ≡ 0 → CursorShows memory screen x number

module _ (memory : PixelCell → ℕ) (screen : Screen) (x : ℕ) where
  -- the colour that the cursor shows is the one that the rule answers
  pub shows_answered : {number : ℕ} → CursorShows memory screen x number → value memory (cursor_at screen x) ≡ number
  shows_answered (switched_off off is) = cursor_off memory screen x off ∙ sym is
  shows_answered (on_cross_hair on cross at is) =
      ⊎_elim (λ column. on_column memory screen x on cross column) (λ row. on_row memory screen x on cross row) at ∙ sym is
  shows_answered (beside_cross_hair on cross column row is) = off_cross_hair memory screen x on cross column row ∙ sym is
  shows_answered (in_cell on no_cross column row c r at_column at_row is) =
      let same_row : screen.y + 31 - screen.cy ≡ row = omega arith in
      let same_column : x + 31 - screen.cx ≡ column = omega arith in
      cursor_in_glyph memory screen x on no_cross (omega arith) (omega arith) (omega arith) (omega arith) ∙ rw (same_row, same_column) (sym is)
  shows_answered (in_no_cell on no_cross none is) =
      ⊎_elim
      (λ right.
      ⊎_elim
      (λ left.
      ⊎_elim
      (λ bottom.
      ⊎_elim
      (λ top.
      absurd (none (x + 31 - screen.cx) (screen.y + 31 - screen.cy) (omega arith) (omega arith) (omega arith) (omega arith)))
      (λ above. beyond memory screen x on no_cross (inr (omega arith)))
      (le_or_lt screen.cy (screen.y + 31)))
      (λ below. beyond memory screen x on no_cross (inl below))
      (le_or_lt screen.y screen.cy))
      (λ far. beside memory screen x on no_cross (inr (omega arith)))
      (le_or_lt screen.cx (x + 31)))
      (λ behind. beside memory screen x on no_cross (inl behind))
      (le_or_lt x screen.cx)
      ∙ sym is

  -- the colour that the rule answers is one that the cursor shows, on a cross-hair
  cross_shows : screen.cursor ≡ true → screen.crosshair ≡ true → CursorShows memory screen x (value memory (cursor_at screen x))
  cross_shows on cross = by (eqb x screen.cx) (eqb screen.y screen.cy) refl refl
    where
      -- the pixel is in the cursor's column, in its row, or in neither
      by : (column row : Bool) → eqb x screen.cx ≡ column → eqb screen.y screen.cy ≡ row → CursorShows memory screen x (value memory (cursor_at screen x))
      by true row c r =
          let at = eqb-true x screen.cx c in on_cross_hair on cross (inl at) (on_column memory screen x on cross at)
      by false true c r =
          let at = eqb-true screen.y screen.cy r in on_cross_hair on cross (inr at) (on_row memory screen x on cross at)
      by false false c r =
          let column = eqb-false x screen.cx c in
          let row = eqb-false screen.y screen.cy r in
          beside_cross_hair on cross column row (off_cross_hair memory screen x on cross column row)

  -- the colour that the rule answers is one that the cursor shows, in a glyph
  glyph_shows : screen.cursor ≡ true → screen.crosshair ≡ false → CursorShows memory screen x (value memory (cursor_at screen x))
  glyph_shows on no_cross =
      ⊎_elim
      (λ right.
      ⊎_elim
      (λ left.
      ⊎_elim
      (λ bottom.
      ⊎_elim
      (λ top.
      in_cell on no_cross (x + 31 - screen.cx) (screen.y + 31 - screen.cy) (omega arith) (omega arith) (omega arith) (omega arith)
      (cursor_in_glyph memory screen x on no_cross right left bottom top))
      (λ above. none (λ c r c< r< column row. omega arith) (beyond memory screen x on no_cross (inr (omega arith))))
      (le_or_lt screen.cy (screen.y + 31)))
      (λ below. none (λ c r c< r< column row. omega arith) (beyond memory screen x on no_cross (inl below)))
      (le_or_lt screen.y screen.cy))
      (λ far. none (λ c r c< r< column row. omega arith) (beside memory screen x on no_cross (inr (omega arith))))
      (le_or_lt screen.cx (x + 31)))
      (λ behind. none (λ c r c< r< column row. omega arith) (beside memory screen x on no_cross (inl behind)))
      (le_or_lt x screen.cx)
    where
      -- the pixel is in no cell
      none : ((column row : ℕ) → column < 32 → row < 32 → x + 31 ≡ screen.cx + column → screen.y + 31 ≡ screen.cy + row → ⊥)
          → value memory (cursor_at screen x) ≡ 0 → CursorShows memory screen x (value memory (cursor_at screen x))
      none out is = in_no_cell on no_cross out is

  -- the colour that the rule answers is the one that the cursor shows
  pub answered_shows : CursorShows memory screen x (value memory (cursor_at screen x))
  answered_shows = by screen.cursor screen.crosshair refl refl
    where
      -- the cursor is off, a cross-hair or a glyph
      by : (on cross : Bool) → screen.cursor ≡ on → screen.crosshair ≡ cross → CursorShows memory screen x (value memory (cursor_at screen x))
      by false cross o c = switched_off o (cursor_off memory screen x o)
      by true true o c = cross_shows o c
      by true false o c = glyph_shows o c
