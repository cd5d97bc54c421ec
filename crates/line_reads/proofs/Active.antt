-- What is listed is of active pixels, and of a colour only where the line is drawn. Assumes nothing.
use Prim.Native.Nat.{ℕ, ◌≤◌, ◌<◌}
use mathlib.Core.Path.{◌≡◌, refl}
use mathlib.Core.Bool.{true}
use mathlib.Core.List.{List}
use native.Mathlib.Omega.{arith}
use Rattle.rules.specs.Rule.{Outcome, ok, refused, run}
use Rattle.rules.specs.Faults.{Numbered, place_in}
use Rattle.rules.specs.Checked.{verdict}
use Rattle.rules.proofs.Cases.{impossible}
use Rattle.rules.proofs.Parts.{Either, at_first, at_second, either}
use Rattle.rules.proofs.Each.{StopsAt, each_stops}
use Rattle.line_colour.specs.declared.entry.WindowEntry.{WindowEntry}
use Rattle.line_windows.specs.Table.{TableCell, yend, line_table, xend, window_id}
use Rattle.line_pixels.specs.Cells.{PixelCell}
use Rattle.line_setup.specs.Faults.{line_faults}
use Rattle.line_setup.specs.declared.setup.Setup.{Setup}
use Rattle.line.specs.Cells.{of_table, window_entry, of_colour, Lent, view}
use Rattle.line.specs.Line.{entries_of, line_of}
use Rattle.line_reads.specs.Reach.{Search, to_the_one_found, through_all, Reach, no_frame_entry, no_line_entry, undefined_entry}
use Rattle.line_reads.specs.TableList.{FrameListed, WindowListed}
use Rattle.line_reads.specs.Listed.{PixelListed, ListedTo, RefusedListed, of_7, of_8, of_9, ListedFor, Listed}
use Rattle.line_reads.proofs.Before.{refused_unread}
use Rattle.line_reads.proofs.Frames.{starting, no_frame, frame_number}
use Rattle.line_reads.proofs.Pixels.{entering, RefusedPixel, without_id, undefined, pixel_refused}
use Rattle.line_reads.proofs.Early.{NothingListed, early}
use Rattle.line_reads.proofs.OnlyListed.{passing, whole, answered_drawn, answered_refused}

module _ (setup : Setup) (lent : Lent) where
  -- ---- a pixel that a line is refused for is active

  -- 8 and 9 are placed at an active pixel
  record Placed (refusal : Numbered) : Type 0 where
    at_8 : refusal.number ≡ 8 → place_in refusal < setup.controls.width
    at_9 : refusal.number ≡ 9 → place_in refusal < setup.controls.width

  -- a refusal that comes before anything is read is neither 8 nor 9
  placed_early : {refusal : Numbered} → NothingListed refusal → Placed refusal
  placed_early none = record { at_8 = λ is. absurd (none.not_8 is); at_9 = λ is. absurd (none.not_9 is) }

  -- 8 and 9 of a first pass that is refused are placed so
  placed_entries : {refusal : Numbered} → run (view lent) (entries_of setup) ≡ refused refusal → Placed refusal
  unfolding entries_of
  placed_entries {refusal} e = by (either (view lent) (starting setup lent) (passing setup lent) e)
    where
      -- a pixel that is refused is one of the active width, and the refusal is placed there
      by_pixel : {start : ℕ} (at : StopsAt (view lent) (entering setup lent start) setup.controls.width 0 refusal)
          → RefusedPixel setup lent start at.position refusal → Placed refusal
      by_pixel at (without_id lacks is place) = record { at_8 = λ e. omega (arith, at.high, place); at_9 = λ e. omega (arith, at.high, place) }
      by_pixel at (undefined id found is place) = record { at_8 = λ e. omega (arith, at.high, place); at_9 = λ e. omega (arith, at.high, place) }

      -- without a frame entry the refusal is 7; else it is that of a pixel
      by : Either (view lent) (starting setup lent) (passing setup lent) refusal → Placed refusal
      by (at_first none) =
          let seven = frame_number setup lent (no_frame setup lent none) in
          record { at_8 = λ is. absurd (omega arith); at_9 = λ is. absurd (omega arith) }
      by (at_second start started stops) =
          let at = each_stops (view lent) (entering setup lent start) setup.controls.width 0 stops in
          by_pixel at (pixel_refused setup lent start at.position at.stops)

  -- 8 and 9 of a line that is refused are placed so
  placed : {refusal : Numbered} → line_of setup lent ≡ refused refusal → Placed refusal
  placed {refusal} e = by_verdict (verdict (line_faults setup)) refl
    where
      -- a line that is refused for what it reads is refused by its first pass
      by_entries : verdict (line_faults setup) ≡ ok tt → (outcome : Outcome Numbered (List WindowEntry)) → run (view lent) (entries_of setup) ≡ outcome → Placed refusal
      by_entries fine (ok entries) found = impossible (cc (answered_drawn setup lent fine found).1)
      by_entries fine (refused other) found =
          let same : other ≡ refusal = cc (answered_refused setup lent fine found) in placed_entries (rw same at found)

      -- a line is refused before anything is read, or by its first pass
      by_verdict : (outcome : Outcome Numbered (Unit {0})) → verdict (line_faults setup) ≡ outcome → Placed refusal
      by_verdict (refused other) found =
          let same : other ≡ refusal = cc (refused_unread setup lent found) in placed_early (early setup (rw same at found))
      by_verdict (ok tt) fine = by_entries fine (run (view lent) (entries_of setup)) refl

  -- ---- what is listed

  module _ (id : ℕ) where
    -- a window entry that is listed of some pixels is listed of more
    widened : {met wider : ℕ} → met ≤ wider → WindowListed setup lent met id → WindowListed setup lent wider id
    widened fits listed = record { pixel = listed.pixel; is_met = omega (arith, listed.is_met); has = listed.has }

    -- a window entry that is listed for a refusal is listed of all active pixels
    window_refused : {refusal : Numbered} → Placed refusal → RefusedListed setup lent refusal (window_entry id) → WindowListed setup lent setup.controls.width id
    window_refused at (of_7 is listed) = widened (omega arith) listed
    window_refused at (of_8 is listed) = let below = at.at_8 is in widened (omega arith) listed
    window_refused at (of_9 is listed) = let below = at.at_9 is in widened (omega arith) listed

    -- a window entry that is listed is one of an ID that an active pixel has
    pub window_active : Listed setup lent (window_entry id) → WindowListed setup lent setup.controls.width id
    window_active listed = by (line_of setup lent) refl listed
      where
        -- a line that is drawn meets all active pixels, one that is refused only such
        by : (line : Outcome Numbered (List ℕ)) → line_of setup lent ≡ line → ListedFor setup lent line (window_entry id)
            → WindowListed setup lent setup.controls.width id
        by (ok colours) e there = there
        by (refused refusal) e there = window_refused (placed e) there

  module _ (cell : PixelCell) where
    -- no refusal lists a cell that a colour comes from
    colour_refused : {refusal : Numbered} → RefusedListed setup lent refusal (of_colour cell) → ⊥
    colour_refused (of_7 is listed) = listed
    colour_refused (of_8 is listed) = listed
    colour_refused (of_9 is listed) = listed

    -- a cell that a colour comes from is listed only of a line that is drawn, and for an active pixel of it
    pub record ShownBy : Type 0 where
      pub colours : List ℕ
      pub is_drawn : line_of setup lent ≡ ok colours
      pub shown : PixelListed setup lent cell

    -- a line that is refused lists none
    pub colour_active : Listed setup lent (of_colour cell) → ShownBy
    colour_active listed = by (line_of setup lent) refl listed
      where
        -- a line that is drawn lists it for a pixel
        by : (line : Outcome Numbered (List ℕ)) → line_of setup lent ≡ line → ListedFor setup lent line (of_colour cell) → ShownBy
        by (ok colours) e there = record { colours = colours; is_drawn = e; shown = there }
        by (refused refusal) e there = absurd (colour_refused there)

  -- ---- where window IDs are off

  -- the end of a frame entry is listed only where window IDs are on
  frame_on : (frames : Search) (number : ℕ) → FrameListed setup lent frames number → setup.controls.ids ≡ true
  frame_on to_the_one_found number listed = listed.found.whole.on
  frame_on through_all number listed = listed.on

  -- so is every cell of the table, however far the line gets
  reach_on : (reach : Reach) (cell : TableCell) → ListedTo setup lent reach (of_table cell) → setup.controls.ids ≡ true
  reach_on reach (yend number) listed = frame_on reach.frames number listed
  reach_on reach (line_table number) listed = listed.whole.on
  reach_on reach (xend byte) listed = listed.starts.found.whole.on
  reach_on reach (window_id byte) listed = listed.starts.found.whole.on

  -- a cell of the table is listed for a refusal only where window IDs are on
  table_refused : {refusal : Numbered} (cell : TableCell) → RefusedListed setup lent refusal (of_table cell) → setup.controls.ids ≡ true
  table_refused cell (of_7 is listed) = reach_on no_frame_entry cell listed
  table_refused {refusal} cell (of_8 is listed) = reach_on (no_line_entry (place_in refusal)) cell listed
  table_refused {refusal} cell (of_9 is listed) = reach_on (undefined_entry (place_in refusal)) cell listed

  -- a cell of the table is listed only where window IDs are on
  pub table_on : (cell : TableCell) → Listed setup lent (of_table cell) → setup.controls.ids ≡ true
  table_on cell listed = by (line_of setup lent) listed
    where
      -- whether the line is drawn or refused
      by : (line : Outcome Numbered (List ℕ)) → ListedFor setup lent line (of_table cell) → setup.controls.ids ≡ true
      by (ok colours) there = reach_on (whole setup lent) cell there
      by (refused refusal) there = table_refused cell there
