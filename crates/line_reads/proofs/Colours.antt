-- What a pixel's colour reads is listed. Assumes nothing.
use Prim.Native.Nat.{ℕ, ◌+◌, ◌≤◌}
use mathlib.Core.Path.{◌≡◌, refl, sym, subst}
use mathlib.Core.Bool.{Bool, true, false, cond, not, ◌&&◌}
use mathlib.Core.List.Memᴰ
use mathlib.Core.Logic.{⊎_elim}
use native.Mathlib.Omega.{arith}
use borrow.Author.Tests.{eqb-true, eqb-false, leb-true}
use lib.Dec.{eqb, leb}
use Rattle.rules.specs.Rule.{done, get, reads}
use Rattle.rules.proofs.Cases.{impossible}
use Rattle.rules.proofs.Lists.{Among}
use Rattle.rules.proofs.Value.{read_value}
use Rattle.words.specs.Channels.{channels_of}
use Rattle.line_colour.specs.Shown.{shown_of}
use Rattle.line_colour.specs.declared.entry.WindowEntry.{WindowEntry}
use Rattle.line_colour.specs.declared.entry.Shown.{Shown}
use Rattle.line_colour.specs.declared.entry.Shown.TheVariants.{MapEntry, Colour}
use Rattle.line_pixels.specs.Cells.{Channel, in_red, in_green, in_blue, channel_in, PixelCell, glyph, cursor_colour, overlay_byte, map_entry, gamma}
use Rattle.line_pixels.specs.Cursor.{within32, glyph_place, in_glyph, on_cross_hair, cursor_at}
use Rattle.line_pixels.specs.Colour.{cursor_skips_gamma, through_gamma, shown_colour, normal_at, plain_at, overlaid, overlay_counts, overlay_at, under_cursor, cursor_shown, colour_of_pixel}
use Rattle.line_pixels.specs.declared.Screen.{Screen}
use Rattle.line_reads.specs.ColourList.{CursorColourHere, CursorTransparent, OverlayByteHere, OverlayTransparent, used_cell, BeforeGamma, of_overlay, of_sample, by_overlay, by_sample, ColourListed}
use Rattle.line_reads.proofs.Layers.{cursor_here, none_transparent, found_shows, count_switches, overlay_here, zero_transparent, found_overlay, normal_word}

-- a place that is within the 32 is not behind the cursor's and at most 31 before it
within_32 : (cursor place : ℕ) → within32 cursor place ≡ true → (place ≤ cursor) × (cursor ≤ place + 31)
within_32 cursor place e = by (leb cursor (place + 31)) (leb place cursor) refl refl e
  where
    -- both tests say yes
    by : (near low : Bool) → leb cursor (place + 31) ≡ near → leb place cursor ≡ low → near && low ≡ true → (place ≤ cursor) × (cursor ≤ place + 31)
    by true true f g is = (leb-true place cursor g, leb-true cursor (place + 31) f)
    by true false f g is = impossible (cc)
    by false low f g is = impossible (cc)

module _ (memory : PixelCell → ℕ) where
  -- a colour that goes through gamma reads one channel of a gamma word for each of its channels
  gamma_read : (skips : Bool) (word : ℕ) {cell : PixelCell} → Among cell (reads memory (through_gamma skips word))
      → (skips ≡ false) × ((channel : Channel) × (cell ≡ gamma channel (channel_in channel (channels_of word))))
  unfolding through_gamma
  gamma_read true word here = absurd (Memᴰ.not-nil here)
  gamma_read false word here = (
    refl,
    ⊎_elim (λ red. (in_red, red))
        (λ others. ⊎_elim (λ green. (in_green, green)) (λ blue. (in_blue, Memᴰ.eq_of_singleton blue)) (Memᴰ.cases_cons others))
        (Memᴰ.cases_cons here),
  )

  -- what a sample shows reads the map entry that it hits
  shown_read : (shown : Shown) {cell : PixelCell} → Among cell (reads memory (shown_colour shown)) → (number : ℕ) × ((shown ≡ MapEntry number) × (cell ≡ map_entry number))
  shown_read (MapEntry number) here = (number, (refl, Memᴰ.eq_of_singleton here))
  shown_read (Colour colour) here = absurd (Memᴰ.not-nil here)

  module _ (screen : Screen) (entry : WindowEntry) (x : ℕ) where
    -- a cell that is read for the cursor is listed
    cursor_read : {cell : PixelCell} → Among cell (reads memory (cursor_at screen x)) → ColourListed memory screen entry x cell
    unfolding cursor_at in_glyph
    cursor_read {cell} here = by screen.cursor screen.crosshair (within32 screen.cx x) (within32 screen.cy screen.y) refl refl refl refl here
      where
        -- a cell of the glyph is read only where the cursor is on, shows no cross-hair and the pixel is inside
        by : (on crosshair across up : Bool) → screen.cursor ≡ on → screen.crosshair ≡ crosshair
            → within32 screen.cx x ≡ across → within32 screen.cy screen.y ≡ up
            → Among cell (reads {R = ⊥} memory
            (cond (not on) (done 0)
            (cond crosshair (done (cond (on_cross_hair screen x) 1 0))
            (cond (across && up) (get (glyph (glyph_place screen.cy screen.y) (glyph_place screen.cx x))) (done 0)))))
            → ColourListed memory screen entry x cell
        by false crosshair across up e f g h there = absurd (Memᴰ.not-nil there)
        by true true across up e f g h there = absurd (Memᴰ.not-nil there)
        by true false false up e f g h there = absurd (Memᴰ.not-nil there)
        by true false true false e f g h there = absurd (Memᴰ.not-nil there)
        by true false true true e f g h there =
            let column = within_32 screen.cx x g in
            let row = within_32 screen.cy screen.y h in
            subst (ColourListed memory screen entry x) (sym (Memᴰ.eq_of_singleton there))
            (record {
              on = e;
              no_crosshair = f;
              at_row = omega (arith, row.1);
              row_inside = omega (arith, row.0);
              at_column = omega (arith, column.1);
              column_inside = omega (arith, column.0);
            })

    -- ---- under the cursor

    module _ (transparent : CursorTransparent memory screen x) where
      -- a gamma word that is read for the colour under the cursor is listed
      gamma_listed : {colour : ℕ} → BeforeGamma memory screen entry x colour → {cell : PixelCell}
          → Among cell (reads memory (through_gamma entry.bypass colour)) → ColourListed memory screen entry x cell
      gamma_listed {colour} before here =
          let found = gamma_read entry.bypass colour here in
          subst (ColourListed memory screen entry x) (sym found.1.1)
          (transparent, record { through = found.0; colour = colour; before = before; hit = refl })

      -- what is read for overlay is listed
      overlay_read : {cell : PixelCell} → Among cell (reads memory (overlay_at screen entry x)) → ColourListed memory screen entry x cell
      unfolding overlay_at
      overlay_read {cell} here = by (overlay_counts screen entry) refl here
        where
          -- the overlay byte is read only where it counts
          by : (counts : Bool) → overlay_counts screen entry ≡ counts → Among cell (reads {R = ⊥} memory (cond counts (get (overlay_byte x)) (done 0)))
              → ColourListed memory screen entry x cell
          by true e there =
              subst (ColourListed memory screen entry x) (sym (Memᴰ.eq_of_singleton there))
              (transparent, record { counts = count_switches screen entry e; here = refl })
          by false e there = absurd (Memᴰ.not-nil there)

      module _ (clear : OverlayTransparent memory screen entry x) where
        -- the sample and the map entry that it hits are listed
        normal_read : {cell : PixelCell} → Among cell (reads memory (normal_at screen.depth entry x)) → ColourListed memory screen entry x cell
        unfolding normal_at
        normal_read {cell} here =
            ⊎_elim
            (λ used.
            subst (ColourListed memory screen entry x) (sym used) (transparent, record { overlay_transparent = clear; used = refl }))
            (λ later.
            let found = shown_read (shown_of entry (memory (used_cell memory screen entry x))) later in
            subst (ColourListed memory screen entry x) (sym found.1.1) (transparent, by_sample clear found.1.0))
            (Memᴰ.cases_cons here)

        -- what is read of a normal colour is listed
        plain_read : {cell : PixelCell} → Among cell (reads memory (plain_at screen.depth entry x)) → ColourListed memory screen entry x cell
        unfolding plain_at
        plain_read here =
            ⊎_elim normal_read (gamma_listed (of_sample clear (normal_word memory screen entry x)))
            (read_value memory (normal_at screen.depth entry x) (through_gamma entry.bypass) here)

      -- what is read of an overlay colour is listed
      overlaid_read : {byte : ℕ} → OverlayByteHere memory screen entry x byte → {cell : PixelCell}
          → Among cell (reads memory (overlaid entry byte)) → ColourListed memory screen entry x cell
      unfolding overlaid
      overlaid_read {byte} shows here =
          ⊎_elim
          (λ hit. subst (ColourListed memory screen entry x) (sym hit) (transparent, by_overlay byte shows refl))
          (gamma_listed (of_overlay byte shows refl))
          (Memᴰ.cases_cons here)

      -- what is read where the cursor is transparent is listed
      under_read : {cell : PixelCell} → Among cell (reads memory (under_cursor screen entry x)) → ColourListed memory screen entry x cell
      unfolding under_cursor
      under_read {cell} here =
          ⊎_elim overlay_read (by (eqb (overlay_here memory screen entry x) 0) refl) (read_value memory (overlay_at screen entry x) _ here)
        where
          -- where overlay is transparent the normal colour is read, else that of overlay
          by : (clear : Bool) → eqb (overlay_here memory screen entry x) 0 ≡ clear
              → Among cell (reads memory (cond clear (plain_at screen.depth entry x) (overlaid entry (overlay_here memory screen entry x))))
              → ColourListed memory screen entry x cell
          by true e there = plain_read (zero_transparent memory screen entry x (eqb-true _ _ e)) there
          by false e there = overlaid_read (found_overlay memory screen entry x (eqb-false _ _ e)) there

    -- ---- the pixel

    -- what is read of a cursor colour is listed: the colour alone, for it skips gamma
    shown_cursor_read : {number : ℕ} → CursorColourHere memory screen x number → {cell : PixelCell}
        → Among cell (reads memory (cursor_shown screen entry number)) → ColourListed memory screen entry x cell
    unfolding cursor_shown
    shown_cursor_read {number} shows here =
        ⊎_elim
        (λ hit. subst (ColourListed memory screen entry x) (sym hit) shows)
        (λ later. impossible (cc (gamma_read (cursor_skips_gamma screen entry) (memory (cursor_colour number)) later).0))
        (Memᴰ.cases_cons here)

    -- every cell that a pixel's colour reads is listed
    pub colour_read : {cell : PixelCell} → Among cell (reads memory (colour_of_pixel screen entry x)) → ColourListed memory screen entry x cell
    unfolding colour_of_pixel
    colour_read {cell} here =
        ⊎_elim cursor_read (by (eqb (cursor_here memory screen x) 0) refl) (read_value memory (cursor_at screen x) _ here)
      where
        -- where the cursor is transparent the layers below it are read, else its colour
        by : (clear : Bool) → eqb (cursor_here memory screen x) 0 ≡ clear
            → Among cell (reads memory (cond clear (under_cursor screen entry x) (cursor_shown screen entry (cursor_here memory screen x))))
            → ColourListed memory screen entry x cell
        by true e there = under_read (none_transparent memory screen x (eqb-true _ _ e)) there
        by false e there = shown_cursor_read (found_shows memory screen x (eqb-false _ _ e)) there
