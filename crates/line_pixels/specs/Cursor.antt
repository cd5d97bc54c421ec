-- The cursor and the cross-hair.
use Rattle.std.specs.Prelude.{ℕ, ◌+◌, ◌-◌, Bool, cond, not, ◌&&◌, ◌||◌, eqb, leb}
use Rattle.rules.specs.Rule.{Rule, done, get}
use Rattle.line_pixels.specs.Cells.{PixelCell, glyph}
use Rattle.line_pixels.specs.declared.Screen.{Screen}

-- a place is within the 32 columns, or rows, that end at the cursor's: its distance place + 31 − cursor is 0 to 31 (CHIP 6.5)
abbrev pub within32 : ℕ → ℕ → Bool
within32 cursor place = leb cursor (place + 31) && leb place cursor

-- the distance of a place from the glyph's first column, or row (CHIP 6.5)
abbrev pub glyph_place : ℕ → ℕ → ℕ
glyph_place cursor place = place + 31 - cursor

-- the pixel is in a row and a column of the glyph (CHIP 6.5)
unfoldable pub in_glyph : Screen → ℕ → Bool
in_glyph screen x = within32 screen.cx x && within32 screen.cy screen.y

-- the pixel is on the cross-hair, which has no offset (CHIP 6.6)
unfoldable pub on_cross_hair : Screen → ℕ → Bool
on_cross_hair screen x = eqb x screen.cx || eqb screen.y screen.cy

-- which cursor colour shows at a pixel, 0 for none: the cross-hair shows colour 1 and ignores the glyph; of the glyph a cell shows its number (CHIP 6.5, 6.6)
unfoldable pub cursor_at : Screen → ℕ → Rule ⊥ PixelCell ℕ
cursor_at screen x =
    cond (not screen.cursor) (done 0)
    (cond screen.crosshair (done (cond (on_cross_hair screen x) 1 0))
    (cond (in_glyph screen x) (get (glyph (glyph_place screen.cy screen.y) (glyph_place screen.cx x)))
    (done 0)))
