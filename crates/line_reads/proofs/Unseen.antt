-- What a line doesn't see changes nothing, all of it at once. Assumes nothing.
use Prim.Native.Nat.{ℕ}
use mathlib.Core.Path.{◌≡◌, sym, ap, ◌∙◌}
use mathlib.Core.List.{List}
use lib.ListN.{length}
use Rattle.line_pixels.specs.Cells.{Channel, PixelCell, glyph, cursor_colour, overlay_byte, sample, map_entry, gamma}
use Rattle.line_setup.specs.declared.setup.Setup.{Setup}
use Rattle.line.specs.Cells.{of_table, window_entry, of_colour, Lent, view}
use Rattle.line.specs.Line.{line_of}
use Rattle.line.specs.Drawn.{setup_of}
use Rattle.line.specs.declared.request.Request.{Request}
use Rattle.line_reads.specs.Calls.{SameCall, DrawnAlike}
use Rattle.line_reads.specs.Listed.{AgreeOnList}
use Rattle.line_reads.specs.Unseen.{SameSeen}
use Rattle.line_reads.proofs.Active.{ShownBy, colour_active}
use Rattle.line_reads.proofs.ByList.{line_rests_on_list, alike_on_list}

module _ (setup : Setup) (lent other : Lent) (same : SameSeen setup lent other) where
  -- ---- each cell of a colour that the line sees holds the same

  -- the cell holds the same in both
  abbrev Agrees : PixelCell → Type 0
  Agrees cell = view lent (of_colour cell) ≡ view other (of_colour cell)

  -- a cell of the glyph
  glyph_agrees : {row column : ℕ} → ShownBy setup lent (glyph row column) → Agrees (glyph row column)
  glyph_agrees {row} {column} by =
      let at = by.shown in same.store.glyphs by.colours by.is_drawn at.pixel at.active at.entry at.has row column at.listed

  -- a cursor colour
  cursor_agrees : {number : ℕ} → ShownBy setup lent (cursor_colour number) → Agrees (cursor_colour number)
  cursor_agrees {number} by =
      let at = by.shown in same.store.cursor_colours by.colours by.is_drawn at.pixel at.active at.entry at.has number at.listed

  -- an overlay byte
  overlay_agrees : {x : ℕ} → ShownBy setup lent (overlay_byte x) → Agrees (overlay_byte x)
  overlay_agrees by =
      let at = by.shown in
      rw at.listed.1.here
      (same.rows.overlay_bytes by.colours by.is_drawn at.pixel at.active at.entry at.has at.listed.0 at.listed.1.counts)

  -- used bits
  sample_agrees : {depth x low count : ℕ} → ShownBy setup lent (sample depth x low count) → Agrees (sample depth x low count)
  sample_agrees by =
      let at = by.shown in
      ap (view lent) (ap of_colour at.listed.1.used)
      ∙ same.rows.samples by.colours by.is_drawn at.pixel at.active at.entry at.has at.listed.0 at.listed.1.overlay_transparent
      ∙ ap (view other) (ap of_colour (sym at.listed.1.used))

  -- a map entry
  map_agrees : {number : ℕ} → ShownBy setup lent (map_entry number) → Agrees (map_entry number)
  map_agrees {number} by =
      let at = by.shown in
      same.store.map_entries by.colours by.is_drawn at.pixel at.active at.entry at.has at.listed.0 number at.listed.1

  -- a byte of a gamma word
  gamma_agrees : {channel : Channel} {number : ℕ} → ShownBy setup lent (gamma channel number) → Agrees (gamma channel number)
  gamma_agrees {channel} {number} by =
      let at = by.shown in
      same.store.gamma_bytes by.colours by.is_drawn at.pixel at.active at.entry at.has at.listed.0 channel number at.listed.1

  -- any of them
  colours_agree : (cell : PixelCell) → ShownBy setup lent cell → Agrees cell
  colours_agree (glyph row column) by = glyph_agrees by
  colours_agree (cursor_colour number) by = cursor_agrees by
  colours_agree (overlay_byte x) by = overlay_agrees by
  colours_agree (sample depth x low count) by = sample_agrees by
  colours_agree (map_entry number) by = map_agrees by
  colours_agree (gamma channel number) by = gamma_agrees by

  -- ---- the line

  -- the two lents agree on the cells listed for the first
  pub seen_agree : AgreeOnList setup lent other
  seen_agree (of_table cell) listed = same.table cell listed
  seen_agree (window_entry id) listed = same.store.windows id listed
  seen_agree (of_colour cell) listed = colours_agree cell (colour_active setup lent cell listed)

  -- the line has one outcome
  pub seen_rests : line_of setup lent ≡ line_of setup other
  seen_rests = line_rests_on_list setup lent other seen_agree

-- two calls whose memory is the same in what the first line sees answer and draw the same, whatever else their memory holds and whatever their outputs held
pub seen_alike : (request again : Request) (lent other : Lent) (output old : List ℕ) → SameCall request again lent other output old
    → SameSeen (setup_of request lent (length output)) lent other → DrawnAlike request again lent other output old
seen_alike request again lent other output old calls same =
    alike_on_list request again lent other output old calls (seen_agree (setup_of request lent (length output)) lent other same)
