-- What is listed of a pixel's colour is read. Assumes nothing.
use Prim.Native.Nat.{ℕ, ◌+◌, ◌-◌}
use mathlib.Core.Path.{◌≡◌, refl, sym, ap, subst, ◌∙◌}
use mathlib.Core.Bool.{Bool, true, false}
use mathlib.Core.List.Memᴰ
use mathlib.Core.Logic.{inl, inr}
use native.Mathlib.Omega.{arith}
use borrow.Author.Tests.{le-leb, ne_eqb}
use Rattle.rules.specs.Rule.{reads, value}
use Rattle.rules.proofs.Cases.{impossible}
use Rattle.rules.proofs.Lists.{Among}
use Rattle.rules.proofs.Value.{value_read}
use Rattle.words.specs.Channels.{channels_of}
use Rattle.line_colour.specs.declared.entry.WindowEntry.{WindowEntry}
use Rattle.line_colour.specs.declared.entry.Shown.{Shown}
use Rattle.line_pixels.specs.Cells.{Channel, in_red, in_green, in_blue, channel_in, PixelCell, glyph, cursor_colour, overlay_byte, sample, map_entry, gamma}
use Rattle.line_pixels.specs.Cursor.{in_glyph, cursor_at}
use Rattle.line_pixels.specs.Colour.{through_gamma, shown_colour, normal_at, plain_at, overlaid, overlay_at, under_cursor, cursor_shown, colour_of_pixel}
use Rattle.line_pixels.specs.declared.Screen.{Screen}
use Rattle.line_reads.specs.ColourList.{GlyphListed, CursorColourHere, CursorTransparent, OverlayByteHere, OverlayTransparent, BeforeGamma, of_overlay, of_sample, OverlayListed, SampleListed, MapListed, by_overlay, by_sample, ColourListed}
use Rattle.line_reads.proofs.Layers.{shows_found, shows_some, transparent_none, transparent_zero, overlay_found, normal_word}

-- the gamma cell that a channel of a colour indexes
indexes : {channel : Channel} {number colour word : ℕ} → number ≡ channel_in channel (channels_of colour) → colour ≡ word
    → gamma channel number ≡ gamma channel (channel_in channel (channels_of word))
indexes {channel} hit is = ap (gamma channel) (hit ∙ ap (λ (w : ℕ). channel_in channel (channels_of w)) is)

module _ (memory : PixelCell → ℕ) where
  -- a colour that goes through gamma reads each channel's byte of the gamma word that it hits
  gamma_hit : (skips : Bool) → skips ≡ false → (channel : Channel) (word : ℕ)
      → Among (gamma channel (channel_in channel (channels_of word))) (reads memory (through_gamma skips word))
  unfolding through_gamma
  gamma_hit true e channel word = impossible (cc)
  gamma_hit false e in_red word = Memᴰ.head refl
  gamma_hit false e in_green word = Memᴰ.tail (Memᴰ.head refl)
  gamma_hit false e in_blue word = Memᴰ.tail (Memᴰ.tail (Memᴰ.head refl))

  module _ (screen : Screen) (entry : WindowEntry) (x : ℕ) where
    -- where the cursor is transparent, what is read under it is read for the colour
    under : CursorTransparent memory screen x → {cell : PixelCell} → Among cell (reads memory (under_cursor screen entry x))
        → Among cell (reads memory (colour_of_pixel screen entry x))
    unfolding colour_of_pixel
    under transparent {cell} here = value_read memory (cursor_at screen x) _ (inr (rw (transparent_none memory screen x transparent) here))

    -- where overlay is transparent too, what is read of the normal colour is read under the cursor
    plain : OverlayTransparent memory screen entry x → {cell : PixelCell} → Among cell (reads memory (plain_at screen.depth entry x))
        → Among cell (reads memory (under_cursor screen entry x))
    unfolding under_cursor
    plain clear here = value_read memory (overlay_at screen entry x) _ (inr (rw (transparent_zero memory screen entry x clear) here))

    -- where overlay shows, what is read of its colour is read under the cursor
    over : {byte : ℕ} → OverlayByteHere memory screen entry x byte → {cell : PixelCell} → Among cell (reads memory (overlaid entry byte))
        → Among cell (reads memory (under_cursor screen entry x))
    unfolding under_cursor
    over shows here =
        value_read memory (overlay_at screen entry x) _
        (inr (rw (overlay_found memory screen entry x shows, ne_eqb _ _ shows.shows) here))

    -- the cell of the glyph that is listed is read
    glyph_listed : {row column : ℕ} → GlyphListed screen x row column → Among (glyph row column) (reads memory (colour_of_pixel screen entry x))
    unfolding colour_of_pixel cursor_at in_glyph
    glyph_listed {row} {column} listed =
        let up : screen.y + 31 - screen.cy ≡ row = omega (arith, listed.at_row) in
        let across : x + 31 - screen.cx ≡ column = omega (arith, listed.at_column) in
        let left = le-leb screen.cx (x + 31) (omega (arith, listed.at_column)) in
        let right = le-leb x screen.cx (omega (arith, listed.at_column, listed.column_inside)) in
        let top = le-leb screen.cy (screen.y + 31) (omega (arith, listed.at_row)) in
        let bottom = le-leb screen.y screen.cy (omega (arith, listed.at_row, listed.row_inside)) in
        value_read memory (cursor_at screen x) _
        (inl (rw (listed.on, listed.no_crosshair, left, right, top, bottom, up, across) (Memᴰ.head refl)))

    -- the cursor colour that shows is read
    cursor_listed : {number : ℕ} → CursorColourHere memory screen x number → Among (cursor_colour number) (reads memory (colour_of_pixel screen entry x))
    unfolding colour_of_pixel cursor_shown
    cursor_listed shows =
        value_read memory (cursor_at screen x) _
        (inr (rw (shows_found memory screen x shows, ne_eqb _ _ (shows_some memory screen x shows)) (Memᴰ.head refl)))

    -- the overlay byte that is listed is read under the cursor
    overlay_listed : {pixel : ℕ} → OverlayListed memory screen entry x pixel → Among (overlay_byte pixel) (reads memory (under_cursor screen entry x))
    unfolding under_cursor overlay_at
    overlay_listed listed =
        value_read memory (overlay_at screen entry x) _
        (inl (rw (listed.counts.on, listed.counts.allowed) (Memᴰ.head (ap overlay_byte listed.here))))

    -- so are the used bits that are listed
    sample_listed : {cell : PixelCell} → SampleListed memory screen entry x cell → Among cell (reads memory (under_cursor screen entry x))
    unfolding plain_at normal_at
    sample_listed listed =
        plain listed.overlay_transparent (value_read memory (normal_at screen.depth entry x) _ (inl (Memᴰ.head listed.used)))

    module _ {number : ℕ} where
      -- so is the map entry that is hit
      map_hit : MapListed memory screen entry x number → Among (map_entry number) (reads memory (under_cursor screen entry x))
      unfolding overlaid plain_at normal_at
      map_hit (by_overlay byte shows hit) = over shows (Memᴰ.head (ap map_entry hit))
      map_hit (by_sample clear hit) =
          plain clear
          (value_read memory (normal_at screen.depth entry x) _
          (inl (Memᴰ.tail (subst (λ (shown : Shown). Among (map_entry number) (reads memory (shown_colour shown))) (sym hit) (Memᴰ.head refl)))))

      module _ {channel : Channel} (through : entry.bypass ≡ false) where
        -- so is the gamma word that a channel of the colour indexes
        gamma_of : {colour : ℕ} → number ≡ channel_in channel (channels_of colour) → BeforeGamma memory screen entry x colour
            → Among (gamma channel number) (reads memory (under_cursor screen entry x))
        unfolding overlaid plain_at
        gamma_of {colour} hit (of_overlay byte shows is) =
            over shows (Memᴰ.tail (Memᴰ.cast (indexes hit is) (gamma_hit entry.bypass through channel (memory (map_entry (4352 + byte))))))
        gamma_of {colour} hit (of_sample clear is) =
            plain clear
            (value_read memory (normal_at screen.depth entry x) _
            (inr (Memᴰ.cast (indexes hit (is ∙ sym (normal_word memory screen entry x)))
            (gamma_hit entry.bypass through channel (value memory (normal_at screen.depth entry x))))))

    -- every cell that is listed of a pixel's colour is read
    pub colour_listed : (cell : PixelCell) → ColourListed memory screen entry x cell → Among cell (reads memory (colour_of_pixel screen entry x))
    colour_listed (glyph row column) listed = glyph_listed listed
    colour_listed (cursor_colour number) listed = cursor_listed listed
    colour_listed (overlay_byte pixel) listed = under listed.0 (overlay_listed listed.1)
    colour_listed (sample depth pixel low count) listed = under listed.0 (sample_listed listed.1)
    colour_listed (map_entry number) listed = under listed.0 (map_hit listed.1)
    colour_listed (gamma channel number) listed = under listed.0 (gamma_of listed.1.through listed.1.hit listed.1.before)
