-- A line reads all that is listed. Assumes nothing.
use Prim.Native.Nat.{ℕ, suc, ◌≤◌, ◌<◌}
use mathlib.Core.Path.{◌≡◌, refl, sym, subst}
use mathlib.Core.Bool.{true, false}
use mathlib.Core.List.Memᴰ
use mathlib.Core.List.{List, Memᴰ}
use native.Mathlib.Omega.{arith}
use Rattle.rules.specs.Rule.{Rule, Outcome, ok, refused, run, reads, ◌>>=◌}
use Rattle.rules.specs.Faults.{Numbered}
use Rattle.rules.specs.Checked.{verdict}
use Rattle.rules.proofs.Cases.{impossible}
use Rattle.rules.proofs.Lists.{Among}
use Rattle.rules.proofs.Parts.{both, Either, at_first, at_second, either, by_first, by_second, either_read, within_read}
use Rattle.rules.proofs.Each.{AllAnswer, each_answers, StopsAt, each_stops}
use Rattle.rules.proofs.EachReads.{each_read}
use Rattle.rules.proofs.EachOf.{each_of_read}
use Rattle.rules.proofs.Value.{run_within_value}
use Rattle.line_colour.specs.declared.entry.WindowEntry.{WindowEntry}
use Rattle.line_windows.specs.Table.{yend, line_table, xend, window_id}
use Rattle.line_windows.specs.Ids.{line_entries, end_of}
use Rattle.line_pixels.specs.Cells.{PixelCell}
use Rattle.line_pixels.specs.Colour.{colour_of_pixel}
use Rattle.line_setup.specs.Faults.{line_faults}
use Rattle.line_setup.specs.declared.setup.Setup.{Setup}
use Rattle.line.specs.Screen.{screen_in}
use Rattle.line.specs.Cells.{Cell, of_table, window_entry, of_colour, Lent, view}
use Rattle.line.specs.Line.{entries_of, in_colours, colours_of, line_rule, line_of}
use Rattle.line_reads.specs.Reach.{to_the_one_found, through_all, Reach, no_frame_entry, no_line_entry, undefined_entry}
use Rattle.line_reads.specs.Listed.{PixelListed, ListedTo, RefusedListed, of_7, of_8, of_9, ListedFor, Listed}
use Rattle.line_reads.proofs.Before.{refused_unread, reads_passes}
use Rattle.line_reads.proofs.ListedColours.{colour_listed}
use Rattle.line_reads.proofs.Frames.{starting, line_table_listed, no_frame, NoFrame, frame_number, no_frame_listed}
use Rattle.line_reads.proofs.Pixels.{entering, NoId, RefusedPixel, without_id, undefined, pixel_refused, read_no_id}
use Rattle.line_reads.proofs.Served.{whole_frame}
use Rattle.line_reads.proofs.Having.{has_entry}
use Rattle.line_reads.proofs.MetPixels.{ReadFor, for_start, for_pixel, for_search, for_colour, listed_for}
use Rattle.line_reads.proofs.Early.{early, nothing_listed}
use Rattle.line_reads.proofs.OnlyListed.{passing, whole, answered_drawn, answered_refused}

module _ (setup : Setup) (lent : Lent) where
  -- ---- the two passes

  -- the two passes, one after the other
  abbrev two_passes : Rule Numbered Cell (List ℕ)
  two_passes = entries_of setup >>= colours_of setup

  -- what the first pass reads, the two read
  of_entries : {cell : Cell} → Among cell (reads (view lent) (entries_of setup)) → Among cell (reads (view lent) two_passes)
  of_entries here = either_read (view lent) (entries_of setup) (colours_of setup) (by_first here)

  -- what is read to find the line table, the two passes read
  of_start : {cell : Cell} → Among cell (reads (view lent) (starting setup lent)) → Among cell (reads (view lent) two_passes)
  unfolding entries_of
  of_start here = of_entries (either_read (view lent) (starting setup lent) (passing setup lent) (by_first here))

  module _ {start : ℕ} (started : run (view lent) (starting setup lent) ≡ ok start) where
    -- what a pixel reads before which all have window entries, the two passes read
    of_pixel : {x : ℕ} {cell : Cell} → x < setup.controls.width → AllAnswer (view lent) (entering setup lent start) 0 x
        → Among cell (reads (view lent) (entering setup lent start x)) → Among cell (reads (view lent) two_passes)
    unfolding entries_of
    of_pixel {x} below earlier here =
        of_entries
        (either_read (view lent) (starting setup lent) (passing setup lent)
        (by_second start started (each_read (view lent) (entering setup lent start) setup.controls.width 0 x (omega arith) (omega arith) earlier here)))

    -- what is listed of a line that gets so far, its passes read, where they read the ends of a search through all line entries, and the cells of colours
    of_listed : (reach : Reach) → reach.frames ≡ to_the_one_found → reach.met ≤ setup.controls.width
        → ((x : ℕ) → x < reach.met → AllAnswer (view lent) (entering setup lent start) 0 x)
        → (reach.lines ≡ through_all → (number : ℕ) → number < line_entries setup.lengths.table start
        → Among (of_table (end_of start number)) (reads (view lent) two_passes))
        → (reach.coloured ≡ true → (cell : PixelCell) → PixelListed setup lent cell → Among (of_colour cell) (reads (view lent) two_passes))
        → (cell : Cell) → ListedTo setup lent reach cell → Among cell (reads (view lent) two_passes)
    of_listed reach is_found fits earlier ends colours cell listed = by (listed_for setup lent started reach is_found cell listed)
      where
        -- whatever the cell is listed for, one of the passes reads it
        by : ReadFor setup lent started reach cell → Among cell (reads (view lent) two_passes)
        by (for_start here) = of_start here
        by (for_pixel x below here) = of_pixel (omega arith) (earlier x below) here
        by (for_search all number below is) = Memᴰ.cast is (ends all number below)
        by (for_colour coloured inner there is) = Memᴰ.cast is (colours coloured inner there)

  -- ---- a line that is drawn

  module _ {entries : List WindowEntry} (e : run (view lent) (entries_of setup) ≡ ok entries) where
    -- what is listed of a pixel's colour, the second pass reads
    pixel_listed : {cell : PixelCell} → PixelListed setup lent cell → Among (of_colour cell) (reads (view lent) (colours_of setup entries))
    unfolding entries_of colours_of
    pixel_listed {cell} listed =
        let screen = screen_in setup in
        let two = both (view lent) (starting setup lent) (passing setup lent) e in
        each_of_read (view lent) (λ entry x. in_colours (colour_of_pixel screen entry x)) (entering setup lent two.first)
        (λ entry x. (_, run_within_value (λ (refusal : ⊥). absurd refusal) of_colour (view lent) (colour_of_pixel screen entry x))) setup.controls.width 0 two.next
        (record {
          position = listed.pixel;
          low = omega arith;
          high = omega (arith, listed.active);
          value = listed.entry;
          found = has_entry setup lent two.found listed.pixel listed.has;
          here =
              within_read (λ (refusal : ⊥). absurd refusal) of_colour (view lent) (colour_of_pixel screen listed.entry listed.pixel)
              (colour_listed (λ (c : PixelCell). view lent (of_colour c)) screen listed.entry listed.pixel cell listed.listed);
        })

    -- what is listed for a drawn line, its two passes read
    drawn_listed : (cell : Cell) → ListedTo setup lent (whole setup lent) cell → Among cell (reads (view lent) two_passes)
    unfolding entries_of
    drawn_listed cell listed =
        let two = both (view lent) (starting setup lent) (passing setup lent) e in
        of_listed two.found (whole setup lent) refl (omega arith)
        (λ x below i low high.
        each_answers (view lent) (entering setup lent two.first) setup.controls.width 0 two.next i (omega arith) (omega arith))
        (λ all. impossible (cc))
        (λ coloured inner there. either_read (view lent) (entries_of setup) (colours_of setup) (by_second entries e (pixel_listed there)))
        cell listed

  -- ---- a line that is refused

  -- what is listed for 7, the passes read
  no_frame_all : {refusal : Numbered} → NoFrame setup lent refusal → (cell : Cell) → ListedTo setup lent no_frame_entry cell
      → Among cell (reads (view lent) two_passes)
  no_frame_all lacks (of_table (yend number)) listed = of_start (no_frame_listed setup lent lacks number (whole_frame setup lent listed))
  no_frame_all lacks (of_table (line_table number)) listed = of_start (line_table_listed setup lent listed)
  no_frame_all lacks (of_table (xend byte)) listed = absurd (omega (arith, listed.searched.is_last))
  no_frame_all lacks (of_table (window_id byte)) listed = absurd (omega (arith, listed.is_met))
  no_frame_all lacks (window_entry id) listed = absurd (omega (arith, listed.is_met))
  no_frame_all lacks (of_colour cell) listed = absurd listed

  module _ {start : ℕ} (started : run (view lent) (starting setup lent) ≡ ok start) {refusal : Numbered}
      (at : StopsAt (view lent) (entering setup lent start) setup.controls.width 0 refusal) where
    -- what is listed up to the pixel that is refused, the passes read
    up_to_stop : (reach : Reach) → reach.frames ≡ to_the_one_found → reach.met ≤ suc at.position → reach.coloured ≡ false
        → (reach.lines ≡ through_all → NoId setup lent start at.position refusal)
        → (cell : Cell) → ListedTo setup lent reach cell → Among cell (reads (view lent) two_passes)
    up_to_stop reach is_found up_to_lem plain lacks =
        of_listed started reach is_found (omega (arith, at.high)) (λ x below i low high. at.earlier i low (omega arith))
        (λ all number below.
        of_pixel started (omega (arith, at.high)) at.earlier (read_no_id setup lent start at.position (lacks all) number below))
        (λ coloured. impossible (cc))

    -- what is listed for 8 or 9, the passes read
    stopped_listed : RefusedPixel setup lent start at.position refusal → (cell : Cell) → RefusedListed setup lent refusal cell
        → Among cell (reads (view lent) two_passes)
    stopped_listed (without_id lacks is place) cell (of_7 other listed) = absurd (omega arith)
    stopped_listed (without_id lacks is place) cell (of_8 same listed) =
        up_to_stop (no_line_entry at.position) refl (omega arith) refl (λ all. lacks) cell (rw place at listed)
    stopped_listed (without_id lacks is place) cell (of_9 other listed) = absurd (omega arith)
    stopped_listed (undefined id found is place) cell (of_7 other listed) = absurd (omega arith)
    stopped_listed (undefined id found is place) cell (of_8 other listed) = absurd (omega arith)
    stopped_listed (undefined id found is place) cell (of_9 same listed) =
        up_to_stop (undefined_entry at.position) refl (omega arith) refl (λ all. impossible (cc)) cell (rw place at listed)

  -- what is listed for a refused line, its passes read
  refused_listed : {refusal : Numbered} → run (view lent) (entries_of setup) ≡ refused refusal → (cell : Cell) → RefusedListed setup lent refusal cell
      → Among cell (reads (view lent) two_passes)
  unfolding entries_of
  refused_listed {refusal} e cell listed = by (either (view lent) (starting setup lent) (passing setup lent) e)
    where
      -- without a frame entry the refusal is 7, and what is listed for that is read
      by_frame : NoFrame setup lent refusal → RefusedListed setup lent refusal cell → Among cell (reads (view lent) two_passes)
      by_frame lacks (of_7 is listed) = no_frame_all lacks cell listed
      by_frame lacks (of_8 other listed) = absurd (omega (arith, frame_number setup lent lacks))
      by_frame lacks (of_9 other listed) = absurd (omega (arith, frame_number setup lent lacks))

      -- the line has no frame entry, or a pixel of it is refused
      by : Either (view lent) (starting setup lent) (passing setup lent) refusal → Among cell (reads (view lent) two_passes)
      by (at_first none) = by_frame (no_frame setup lent none) listed
      by (at_second start started stops) =
          let at = each_stops (view lent) (entering setup lent start) setup.controls.width 0 stops in
          stopped_listed started at (pixel_refused setup lent start at.position at.stops) cell listed

  -- ---- the line

  -- every cell that is listed a line reads
  pub listed_reads : (cell : Cell) → Listed setup lent cell → Memᴰ cell (reads (view lent) (line_rule setup))
  listed_reads cell listed = by_verdict (verdict (line_faults setup)) refl
    where
      -- the cell is listed by what comes of the line
      by_outcome : {outcome : Outcome Numbered (List ℕ)} → line_of setup lent ≡ outcome → ListedFor setup lent outcome cell
      by_outcome e = subst (λ (outcome : Outcome Numbered (List ℕ)). ListedFor setup lent outcome cell) e listed

      -- a line whose first pass answers is drawn, any other is refused as that pass is
      by_entries : verdict (line_faults setup) ≡ ok tt → (outcome : Outcome Numbered (List WindowEntry)) → run (view lent) (entries_of setup) ≡ outcome
          → Among cell (reads (view lent) two_passes)
      by_entries fine (ok entries) e = drawn_listed e cell (by_outcome (answered_drawn setup lent fine e).1)
      by_entries fine (refused refusal) e = refused_listed e cell (by_outcome (answered_refused setup lent fine e))

      -- for a line that is refused before anything is read nothing is listed; any other has its two passes
      by_verdict : (outcome : Outcome Numbered (Unit {0})) → verdict (line_faults setup) ≡ outcome → Memᴰ cell (reads (view lent) (line_rule setup))
      by_verdict (refused refusal) e =
          absurd (nothing_listed setup lent cell (early setup e) (by_outcome (refused_unread setup lent e)))
      by_verdict (ok tt) fine = subst (Among cell) (sym (reads_passes setup lent fine)) (by_entries fine (run (view lent) (entries_of setup)) refl)
