-- Which layer shows at a pixel: what the rule of a pixel finds is what the list says. Assumes nothing.
use Prim.Native.Nat.{ℕ, ◌+◌, ◌-◌, ◌≤◌}
use mathlib.Core.Path.{◌≡◌, refl, sym, ap, ◌∙◌}
use mathlib.Core.Bool.{Bool, true, false, ◌&&◌}
use mathlib.Core.Logic.{inl, inr, ◌≢◌, ⊎_elim}
use native.Mathlib.Omega.{arith}
use borrow.Author.Tests.{eqb-true, eqb-false}
use lib.Dec.{eqb}
use Rattle.rules.specs.Rule.{value}
use Rattle.rules.proofs.Cases.{impossible, le_or_lt}
use Rattle.line_colour.specs.Shown.{shown_of}
use Rattle.line_colour.specs.declared.entry.WindowEntry.{WindowEntry}
use Rattle.line_colour.specs.declared.entry.Shown.{Shown}
use Rattle.line_colour.specs.declared.entry.Shown.TheVariants.{MapEntry, Colour}
use Rattle.line_pixels.specs.Cells.{PixelCell, glyph, overlay_byte}
use Rattle.line_pixels.specs.Cursor.{cursor_at}
use Rattle.line_pixels.specs.Colour.{shown_colour, normal_at, overlay_counts, overlay_at}
use Rattle.line_pixels.specs.declared.Screen.{Screen}
use Rattle.line_pixels.proofs.CursorCases.{cursor_off, on_column, on_row, off_cross_hair, beside, beyond, cursor_in_glyph}
use Rattle.line_reads.specs.ColourList.{GlyphListed, CursorColourHere, by_glyph, by_crosshair, CursorTransparent, BothSwitches, OverlayByteHere, OverlayTransparent, used_cell, word_shown}

module _ (memory : PixelCell → ℕ) (screen : Screen) (x : ℕ) where
  -- the cursor colour that the rule finds; 0 where it finds none
  abbrev pub cursor_here : ℕ
  cursor_here = value memory (cursor_at screen x)

  -- ---- the cursor

  -- the rule finds the number in the pixel's cell of the glyph
  pub glyph_here : {row column : ℕ} → GlyphListed screen x row column → cursor_here ≡ memory (glyph row column)
  glyph_here {row} {column} at =
      let up : screen.y + 31 - screen.cy ≡ row = omega (arith, at.at_row) in
      let across : x + 31 - screen.cx ≡ column = omega (arith, at.at_column) in
      cursor_in_glyph memory screen x at.on at.no_crosshair (omega (arith, at.at_column, at.column_inside)) (omega (arith, at.at_column))
      (omega (arith, at.at_row, at.row_inside)) (omega (arith, at.at_row))
      ∙ ap (λ (r : ℕ). memory (glyph r (x + 31 - screen.cx))) up
      ∙ ap (λ (c : ℕ). memory (glyph row c)) across

  -- a colour that the cursor shows is the one that the rule finds
  pub shows_found : {number : ℕ} → CursorColourHere memory screen x number → cursor_here ≡ number
  shows_found (by_glyph row column at is shows) = glyph_here at ∙ sym is
  shows_found (by_crosshair at is) =
      ⊎_elim (on_column memory screen x at.on at.crosshair) (on_row memory screen x at.on at.crosshair) at.meets ∙ sym is

  -- a colour that the cursor shows is not 0
  pub shows_some : {number : ℕ} → CursorColourHere memory screen x number → number ≢ 0
  shows_some (by_glyph row column at is shows) = shows
  shows_some (by_crosshair at is) = λ none. omega arith

  -- where the rule finds none, the cursor is transparent
  pub none_transparent : cursor_here ≡ 0 → CursorTransparent memory screen x
  none_transparent none = λ number shows. shows_some shows (sym (shows_found shows) ∙ none)

  module _ (found : cursor_here ≢ 0) where
    -- on the cross-hair
    by_lines : screen.cursor ≡ true → screen.crosshair ≡ true → (column row : Bool) → eqb x screen.cx ≡ column → eqb screen.y screen.cy ≡ row
        → CursorColourHere memory screen x cursor_here
    by_lines on cross true row e f =
        let is = eqb-true x screen.cx e in
        by_crosshair (record { on = on; crosshair = cross; meets = inl is }) (on_column memory screen x on cross is)
    by_lines on cross false true e f =
        let is = eqb-true screen.y screen.cy f in
        by_crosshair (record { on = on; crosshair = cross; meets = inr is }) (on_row memory screen x on cross is)
    by_lines on cross false false e f =
        absurd (found (off_cross_hair memory screen x on cross (eqb-false x screen.cx e) (eqb-false screen.y screen.cy f)))

    -- in the glyph
    by_place : screen.cursor ≡ true → screen.crosshair ≡ false → CursorColourHere memory screen x cursor_here
    by_place on plain =
        ⊎_elim (λ right. ⊎_elim (λ left. ⊎_elim (λ bottom. ⊎_elim (λ top. inside right left bottom top)
        (λ far. absurd (found (beyond memory screen x on plain (inr (omega arith))))) (le_or_lt screen.cy (screen.y + 31)))
        (λ far. absurd (found (beyond memory screen x on plain (inl far)))) (le_or_lt screen.y screen.cy))
        (λ far. absurd (found (beside memory screen x on plain (inr (omega arith))))) (le_or_lt screen.cx (x + 31)))
        (λ far. absurd (found (beside memory screen x on plain (inl far)))) (le_or_lt x screen.cx)
      where
        -- a pixel inside has its cell
        inside : x ≤ screen.cx → screen.cx ≤ x + 31 → screen.y ≤ screen.cy → screen.cy ≤ screen.y + 31 → CursorColourHere memory screen x cursor_here
        inside right left bottom top =
            by_glyph (screen.y + 31 - screen.cy) (x + 31 - screen.cx)
            (record {
              on = on;
              no_crosshair = plain;
              at_row = omega arith;
              row_inside = omega arith;
              at_column = omega arith;
              column_inside = omega arith;
            })
            (cursor_in_glyph memory screen x on plain right left bottom top) found

    -- where the rule finds a colour, the cursor shows it
    pub found_shows : CursorColourHere memory screen x cursor_here
    found_shows = by screen.cursor screen.crosshair refl refl
      where
        -- a cursor that is off shows none, a cross-hair shows on its lines, and the glyph shows in its cells
        by : (on cross : Bool) → screen.cursor ≡ on → screen.crosshair ≡ cross → CursorColourHere memory screen x cursor_here
        by false cross e f = absurd (found (cursor_off memory screen x e))
        by true true e f = by_lines e f (eqb x screen.cx) (eqb screen.y screen.cy) refl refl
        by true false e f = by_place e f

  -- where the cursor is transparent, the rule finds none
  pub transparent_none : CursorTransparent memory screen x → cursor_here ≡ 0
  transparent_none transparent = by (eqb cursor_here 0) refl
    where
      -- a colour that is found shows
      by : (none : Bool) → eqb cursor_here 0 ≡ none → cursor_here ≡ 0
      by true e = eqb-true _ _ e
      by false e = absurd (transparent cursor_here (found_shows (eqb-false _ _ e)))

-- ---- overlay

module _ (screen : Screen) (entry : WindowEntry) where
  -- where the rule looks at overlay, both switches are on
  pub count_switches : overlay_counts screen entry ≡ true → BothSwitches screen entry
  count_switches = by screen.overlay entry.overlay refl refl
    where
      -- one that is off is enough for no
      by : (on allowed : Bool) → screen.overlay ≡ on → entry.overlay ≡ allowed → on && allowed ≡ true → BothSwitches screen entry
      by true true e f is = record { on = e; allowed = f }
      by true false e f is = impossible (cc)
      by false allowed e f is = impossible (cc)

module _ (memory : PixelCell → ℕ) (screen : Screen) (entry : WindowEntry) (x : ℕ) where
  -- the overlay byte that the rule finds; 0 where overlay doesn't count
  abbrev pub overlay_here : ℕ
  overlay_here = value memory (overlay_at screen entry x)

  -- where overlay counts, the rule finds the pixel's byte
  pub byte_here : BothSwitches screen entry → overlay_here ≡ memory (overlay_byte x)
  unfolding overlay_at
  byte_here both = rw (both.on, both.allowed) refl

  -- a byte that overlay shows is the one that the rule finds
  pub overlay_found : {byte : ℕ} → OverlayByteHere memory screen entry x byte → overlay_here ≡ byte
  overlay_found at = byte_here at.counts ∙ sym at.is

  -- where the rule finds 0, overlay is transparent
  pub zero_transparent : overlay_here ≡ 0 → OverlayTransparent memory screen entry x
  zero_transparent zero = λ both. sym (byte_here both) ∙ zero

  -- where overlay is transparent, the rule finds 0
  pub transparent_zero : OverlayTransparent memory screen entry x → overlay_here ≡ 0
  unfolding overlay_at
  transparent_zero clear = by (overlay_counts screen entry) refl
    where
      -- overlay counts and its byte is 0, or it doesn't count
      by : (counts : Bool) → overlay_counts screen entry ≡ counts → overlay_here ≡ 0
      by true e = let both = count_switches screen entry e in byte_here both ∙ clear both
      by false e = rw e refl

  -- where the rule finds a byte, overlay shows it
  pub found_overlay : overlay_here ≢ 0 → OverlayByteHere memory screen entry x overlay_here
  unfolding overlay_at
  found_overlay found = by (overlay_counts screen entry) refl
    where
      -- overlay that doesn't count shows nothing
      by : (counts : Bool) → overlay_counts screen entry ≡ counts → OverlayByteHere memory screen entry x overlay_here
      by true e = let both = count_switches screen entry e in record { counts = both; is = byte_here both; shows = found }
      by false e = absurd (found (rw e refl))

  -- ---- the normal colour

  -- the word of what a sample shows is the value of its rule
  shown_word : (shown : Shown) → value memory (shown_colour shown) ≡ word_shown memory screen entry x shown
  shown_word (MapEntry number) = refl
  shown_word (Colour colour) = refl

  -- the normal colour is the word of what the used bits show
  pub normal_word : value memory (normal_at screen.depth entry x) ≡ word_shown memory screen entry x (shown_of entry (memory (used_cell memory screen entry x)))
  unfolding normal_at
  normal_word = shown_word (shown_of entry (memory (used_cell memory screen entry x)))
