-- The cells of the pixels met are those listed. Assumes nothing.
use Prim.Native.Nat.{ℕ, ◌-◌, ◌≤◌, ◌<◌}
use mathlib.Core.Path.{◌≡◌, refl, sym, ap, subst, ◌∙◌}
use mathlib.Core.Bool.{Bool, true, false}
use native.Mathlib.Omega.{arith}
use Rattle.rules.specs.Rule.{ok, run, reads}
use Rattle.rules.proofs.Lists.{Among}
use Rattle.refusals.specs.Refusal.{numbered}
use Rattle.refusals.specs.declared.Refusal.TheVariants.{NoLineEntry}
use Rattle.line_windows.specs.Table.{yend, line_table, xend, window_id, table_view}
use Rattle.line_windows.specs.Ids.{line_entries, entry_byte, end_of}
use Rattle.line_windows.proofs.Whole.{ReachedAt, whole_tells, later_entry}
use Rattle.line_pixels.specs.Cells.{PixelCell}
use Rattle.line_setup.specs.declared.setup.Setup.{Setup}
use Rattle.line.specs.Cells.{Cell, of_table, window_entry, of_colour, Lent, view}
use Rattle.line_reads.specs.Reach.{Search, to_the_one_found, through_all, Reach, no_line_entry}
use Rattle.line_reads.specs.TableList.{StartsAt, Searched, IdListed, WindowListed}
use Rattle.line_reads.specs.Listed.{PixelListed, ColoursListed, ListedTo}
use Rattle.line_reads.proofs.Served.{LineFound, whole_line, line_whole, found_line, line_found}
use Rattle.line_reads.proofs.Frames.{starting, identifying, starts_at, starts_found, frame_listed, line_table_listed}
use Rattle.line_reads.proofs.Pixels.{entering, OfPixel, pixel_end, pixel_id, pixel_window, entry_of, read_pixel}
use Rattle.line_reads.proofs.Having.{id_has, has_id}

module _ (setup : Setup) (lent : Lent) {start : ℕ} (started : run (view lent) (starting setup lent) ≡ ok start) where
  -- the entry that a pixel has is reached
  reached : {x entry : ℕ} → LineFound setup lent start x entry
      → ReachedAt (table_view lent.table) (end_of start) (line_entries setup.lengths.table start) x entry
  reached {x} found = whole_tells (table_view lent.table) (numbered (NoLineEntry x)) (end_of start) (line_entries setup.lengths.table start) x found

  -- every pixel before `met` has an ID
  abbrev pub AllIds : ℕ → Type 0
  AllIds met = (i : ℕ) → i < met → (id : ℕ) × (run (view lent) (identifying setup lent start i) ≡ ok id)

  -- an end that a pixel met reads is one of those searched
  pub searched_for : (lines : Search) {met x entry number : ℕ} → setup.controls.ids ≡ true → AllIds met → x < met → LineFound setup lent start x entry
      → number ≤ entry → Searched setup lent lines met start number
  searched_for to_the_one_found {met} {x} {entry} {number} on ids is_met found up_to =
      let last : ℕ = met - 1 in
      let there = entry_of setup lent start on last (ids last (omega arith)).1 in
      record {
        last = last;
        is_last = omega arith;
        entry = there.0;
        found = found_line setup lent start there.1;
        up_to = omega (arith, later_entry (reached found) (reached there.1) (omega arith));
      }
  searched_for through_all on ids is_met found up_to = line_whole setup lent start (omega (arith, (reached found).below))

  -- what a pixel met reads is listed
  pub pixel_met : (reach : Reach) {x : ℕ} {cell : Cell} → AllIds reach.met → x < reach.met → OfPixel setup lent start x cell → ListedTo setup lent reach cell
  pixel_met reach {x} ids is_met (pixel_end on entry found number up_to is) =
      subst (ListedTo setup lent reach) (sym is)
      (record {
        start = start;
        starts = starts_at setup lent on started;
        number = number;
        searched = searched_for reach.lines on ids is_met found up_to;
        stands = refl;
      })
  pixel_met reach {x} ids is_met (pixel_id on entry found is) =
      subst (ListedTo setup lent reach) (sym is)
      (record { start = start; starts = starts_at setup lent on started; pixel = x; is_met = is_met; entry = entry; found = found_line setup lent start found; stands = refl })
  pixel_met reach {x} ids is_met (pixel_window id found is) =
      subst (ListedTo setup lent reach) (sym is) (record { pixel = x; is_met = is_met; has = id_has setup lent started x found })

  -- where no line entry serves x, the end of any is listed
  pub any_end_listed : (x number : ℕ) {cell : Cell} → setup.controls.ids ≡ true → number < line_entries setup.lengths.table start
      → cell ≡ of_table (end_of start number) → ListedTo setup lent (no_line_entry x) cell
  any_end_listed x number on below is =
      subst (ListedTo setup lent (no_line_entry x)) (sym is)
      (record { start = start; starts = starts_at setup lent on started; number = number; searched = line_whole setup lent start below; stands = refl })

  -- ---- the other way round

  -- a cell that is listed is read to find the line table, by a pixel met, by a search of all line entries, or for a colour
  pub data ReadFor (reach : Reach) (cell : Cell) : Type 0 where
    for_start : Among cell (reads (view lent) (starting setup lent)) → ReadFor reach cell
    for_pixel : (x : ℕ) → x < reach.met → Among cell (reads (view lent) (entering setup lent start x)) → ReadFor reach cell
    for_search : reach.lines ≡ through_all → (number : ℕ) → number < line_entries setup.lengths.table start
        → cell ≡ of_table (end_of start number) → ReadFor reach cell
    for_colour : reach.coloured ≡ true → (inner : PixelCell) → PixelListed setup lent inner → cell ≡ of_colour inner → ReadFor reach cell

  -- there is one line table
  pub same_start : {other : ℕ} → StartsAt setup lent other → other ≡ start
  same_start starts = cc (starts_found setup lent starts, started)

  -- the end of a line entry that is searched is read by the last pixel met, or by a search of all
  line_listed : (reach : Reach) (number : ℕ) → setup.controls.ids ≡ true → (lines : Search) → reach.lines ≡ lines
      → Searched setup lent lines reach.met start number → ReadFor reach (of_table (end_of start number))
  line_listed reach number on to_the_one_found is listed =
      for_pixel listed.last (omega (arith, listed.is_last))
      (read_pixel setup lent start listed.last (pixel_end on listed.entry (line_found setup lent start listed.found) number listed.up_to refl))
  line_listed reach number on through_all is listed = for_search is number (whole_line setup lent start listed) refl

  -- the ID in the line entry of a pixel met is read by the pixel
  id_listed : (reach : Reach) {byte : ℕ} → IdListed setup lent reach.met byte → ReadFor reach (of_table (window_id byte))
  id_listed reach {byte} listed =
      let same = same_start listed.starts in
      for_pixel listed.pixel listed.is_met
      (read_pixel setup lent start listed.pixel
      (pixel_id listed.starts.found.whole.on listed.entry (line_found setup lent start (rw (← same) listed.found))
      (ap (λ (at : ℕ). of_table (window_id at)) (listed.stands ∙ ap (λ (from : ℕ). entry_byte from listed.entry) same))))

  -- the window entry of the ID of a pixel met is read by the pixel
  window_listed : (reach : Reach) {id : ℕ} → WindowListed setup lent reach.met id → ReadFor reach (window_entry id)
  window_listed reach {id} listed =
      for_pixel listed.pixel listed.is_met
      (read_pixel setup lent start listed.pixel (pixel_window id (has_id setup lent started listed.pixel listed.has) refl))

  -- a cell of a colour is read for that, where there are colours
  colours_listed : (reach : Reach) {cell : PixelCell} (coloured : Bool) → reach.coloured ≡ coloured → ColoursListed setup lent coloured cell
      → ReadFor reach (of_colour cell)
  colours_listed reach {cell} true is listed = for_colour is cell listed refl
  colours_listed reach {cell} false is listed = absurd listed

  -- every cell that is listed of a line that finds its line table is read for one of these
  pub listed_for : (reach : Reach) → reach.frames ≡ to_the_one_found → (cell : Cell) → ListedTo setup lent reach cell → ReadFor reach cell
  listed_for reach is_found (of_table (yend number)) listed = for_start (frame_listed setup lent (rw is_found at listed))
  listed_for reach is_found (of_table (line_table number)) listed = for_start (line_table_listed setup lent listed)
  listed_for reach is_found (of_table (xend byte)) listed =
      let same = same_start listed.starts in
      subst (λ (at : ℕ). ReadFor reach (of_table (xend at)))
      (sym (listed.stands ∙ ap (λ (from : ℕ). entry_byte from listed.number) same))
      (line_listed reach listed.number listed.starts.found.whole.on reach.lines refl
      (subst (λ (from : ℕ). Searched setup lent reach.lines reach.met from listed.number) same listed.searched))
  listed_for reach is_found (of_table (window_id byte)) listed = id_listed reach listed
  listed_for reach is_found (window_entry id) listed = window_listed reach listed
  listed_for reach is_found (of_colour cell) listed = colours_listed reach reach.coloured refl listed
