-- A line reads only what is listed. Assumes nothing.
use Prim.Native.Nat.{ℕ, suc, ◌≤◌, ◌<◌}
use mathlib.Core.Path.{◌≡◌, refl, sym, subst, ◌∙◌}
use mathlib.Core.List.Memᴰ
use mathlib.Core.List.{List, Memᴰ}
use mathlib.Core.Logic.{◌⊎◌, inl, inr, ⊎_elim}
use native.Mathlib.Omega.{arith}
use native.Mathlib.Nat.{eq-or-lt_of_le}
use Rattle.rules.specs.Rule.{Rule, Outcome, ok, refused, run, reads}
use Rattle.rules.specs.Each.{each}
use Rattle.rules.specs.Faults.{Numbered}
use Rattle.rules.specs.Checked.{verdict}
use Rattle.rules.proofs.Cases.{impossible, le_or_lt}
use Rattle.rules.proofs.Then.{run_ok, run_refused}
use Rattle.rules.proofs.Lists.{Among}
use Rattle.rules.proofs.Parts.{both, Either, at_first, at_second, either, Read, by_first, by_second, read_either, read_within}
use Rattle.rules.proofs.Each.{each_answers, StopsAt, each_stops}
use Rattle.rules.proofs.EachReads.{ReadAt, read_each}
use Rattle.rules.proofs.EachOf.{read_each_of}
use Rattle.rules.proofs.Asks.{never_answers}
use Rattle.line_colour.specs.declared.entry.WindowEntry.{WindowEntry}
use Rattle.line_pixels.specs.Cells.{PixelCell}
use Rattle.line_pixels.specs.Colour.{colour_of_pixel}
use Rattle.line_setup.specs.Faults.{line_faults}
use Rattle.line_setup.specs.declared.setup.Setup.{Setup}
use Rattle.line.specs.Screen.{screen_in}
use Rattle.line.specs.Cells.{Cell, of_colour, Lent, view}
use Rattle.line.specs.Line.{entries_of, in_colours, colours_of, line_rule, line_of}
use Rattle.line.proofs.Uncovered.{never_colours}
use Rattle.line_reads.specs.Reach.{Reach, drawn_whole, no_line_entry, undefined_entry}
use Rattle.line_reads.specs.Listed.{ListedTo, RefusedListed, of_7, of_8, of_9, ListedFor, Listed}
use Rattle.line_reads.proofs.Before.{unread, passes, reads_passes}
use Rattle.line_reads.proofs.Colours.{colour_read}
use Rattle.line_reads.proofs.Frames.{starting, identifying, start_read, NoFrame, no_frame, frame_number, no_frame_read}
use Rattle.line_reads.proofs.Pixels.{entering, pixel_read, entry_id, NoId, RefusedPixel, without_id, undefined, pixel_refused, no_id_read}
use Rattle.line_reads.proofs.Having.{entry_has}
use Rattle.line_reads.proofs.MetPixels.{AllIds, pixel_met, any_end_listed}

module _ (setup : Setup) (lent : Lent) where
  -- the pass over the pixels from the line table that starts at a byte
  abbrev pub passing : ℕ → Rule Numbered Cell (List WindowEntry)
  passing start = each (entering setup lent start) setup.controls.width 0

  -- how far a line gets that is drawn
  abbrev pub whole : Reach
  whole = drawn_whole setup.controls.width

  -- ---- a first pass that answers

  module _ {entries : List WindowEntry} (e : run (view lent) (entries_of setup) ≡ ok entries) where
    -- what it reads is listed of all active pixels
    answered_read : {cell : Cell} → Among cell (reads (view lent) (entries_of setup)) → ListedTo setup lent whole cell
    unfolding entries_of
    answered_read {cell} here = by (read_either (view lent) (starting setup lent) _ here)
      where
        -- a cell is read to find the line table, or by an active pixel
        by : Read (view lent) (starting setup lent) passing cell → ListedTo setup lent whole cell
        by (by_first there) = start_read setup lent whole refl (both (view lent) (starting setup lent) passing e).found there
        by (by_second start started there) =
            let at = read_each (view lent) (entering setup lent start) setup.controls.width 0 there in
            let answers = each_answers (view lent) (entering setup lent start) setup.controls.width 0 (sym (run_ok (view lent) (starting setup lent) passing started) ∙ e) in
            let ids : AllIds setup lent started setup.controls.width = λ i below. entry_id setup lent start i (answers i (omega arith) (omega arith)).1 in
            let below : at.position < setup.controls.width = omega (arith, at.high) in
            pixel_met setup lent started whole ids below (pixel_read setup lent start at.position (ids at.position below).1 at.here)

    -- what the second pass then reads is listed
    colours_read : {cell : Cell} → Among cell (reads (view lent) (colours_of setup entries)) → ListedTo setup lent whole cell
    unfolding entries_of colours_of
    colours_read {cell} here =
        let two = both (view lent) (starting setup lent) passing e in
        let at = read_each_of (view lent) (λ entry x. in_colours (colour_of_pixel (screen_in setup) entry x)) (entering setup lent two.first) setup.controls.width 0 two.next here in
        let inner = read_within (λ (refusal : ⊥). absurd refusal) of_colour (view lent) (colour_of_pixel (screen_in setup) at.value at.position) at.here in
        subst (ListedTo setup lent whole) (sym inner.is)
        (record {
          pixel = at.position;
          active = omega (arith, at.high);
          entry = at.value;
          has = entry_has setup lent two.found at.position at.found;
          listed = colour_read (λ (c : PixelCell). view lent (of_colour c)) (screen_in setup) at.value at.position inner.here;
        })

  -- ---- a first pass that refuses

  -- what is read without a frame entry is listed for 7
  no_table_read : {refusal : Numbered} → NoFrame setup lent refusal → run (view lent) (starting setup lent) ≡ refused refusal
      → {cell : Cell} → Read (view lent) (starting setup lent) passing cell → RefusedListed setup lent refusal cell
  no_table_read lacks none (by_first there) = of_7 (frame_number setup lent lacks) (no_frame_read setup lent lacks there)
  no_table_read lacks none (by_second start started there) = impossible (cc)

  module _ {start : ℕ} (started : run (view lent) (starting setup lent) ≡ ok start) {refusal : Numbered}
      (at : StopsAt (view lent) (entering setup lent start) setup.controls.width 0 refusal) where
    -- the pixels before the one that is refused have IDs
    ids_before : AllIds setup lent started at.position
    ids_before = λ i below. entry_id setup lent start i (at.earlier i (omega arith) below).1

    -- the pixel that is refused has an ID too, where it is refused for its window entry
    ids_up_to : {id : ℕ} → run (view lent) (identifying setup lent start at.position) ≡ ok id → AllIds setup lent started (suc at.position)
    ids_up_to {id} found = λ i below. ⊎_elim (λ same. (id, rw same found)) (λ before. ids_before i before) (eq-or-lt_of_le (le_of_lt_suc below))
      where
        -- what is below the next number is not above this one
        le_of_lt_suc : {i n : ℕ} → i < suc n → i ≤ n
        le_of_lt_suc h = omega arith

    -- no pixel behind it is read
    not_behind : {cell : Cell} (there : ReadAt (view lent) (entering setup lent start) setup.controls.width 0 cell) → there.position ≤ at.position
    not_behind there =
        ⊎_elim (λ fine. fine)
        (λ behind. let answer = there.earlier at.position (omega arith) behind in impossible (cc (answer.1, at.stops)))
        (le_or_lt there.position at.position)

    -- a cell is read to find the line table, or by a pixel
    read_parts : {cell : Cell} → Read (view lent) (starting setup lent) passing cell
        → Among cell (reads (view lent) (starting setup lent)) ⊎ ReadAt (view lent) (entering setup lent start) setup.controls.width 0 cell
    read_parts (by_first there) = inl there
    read_parts {cell} (by_second other started' there) =
        let same : other ≡ start = cc in
        inr (read_each (view lent) (entering setup lent start) setup.controls.width 0
        (subst (λ (from : ℕ). Among cell (reads (view lent) (passing from))) same there))

    -- what a pixel met reads is listed
    met_read : (reach : Reach) → AllIds setup lent started reach.met → {cell : Cell}
        → (there : ReadAt (view lent) (entering setup lent start) setup.controls.width 0 cell) → there.position < reach.met → ListedTo setup lent reach cell
    met_read reach ids there is_met =
        pixel_met setup lent started reach ids is_met (pixel_read setup lent start there.position (ids there.position is_met).1 there.here)

    -- what is read up to a pixel without an ID is listed: of that pixel all line entries
    without_id_read : NoId setup lent start at.position refusal → {cell : Cell}
        → ReadAt (view lent) (entering setup lent start) setup.controls.width 0 cell → ListedTo setup lent (no_line_entry at.position) cell
    without_id_read lacks there =
        ⊎_elim
        (λ same.
        let found = no_id_read setup lent start at.position lacks (rw same at there.here) in
        any_end_listed setup lent started at.position found.0 lacks.on found.1.0 found.1.1)
        (met_read (no_line_entry at.position) ids_before there)
        (eq-or-lt_of_le (not_behind there))

    -- what is read up to the pixel that is refused is listed
    stopped_read : RefusedPixel setup lent start at.position refusal → {cell : Cell} → Read (view lent) (starting setup lent) passing cell
        → RefusedListed setup lent refusal cell
    stopped_read (without_id lacks is place) {cell} here =
        of_8 is
        (subst (λ (x : ℕ). ListedTo setup lent (no_line_entry x) cell) (sym place)
        (⊎_elim (start_read setup lent (no_line_entry at.position) refl started) (without_id_read lacks) (read_parts here)))
    stopped_read (undefined id found is place) {cell} here =
        of_9 is
        (subst (λ (x : ℕ). ListedTo setup lent (undefined_entry x) cell) (sym place)
        (⊎_elim (start_read setup lent (undefined_entry at.position) refl started)
        (λ there. met_read (undefined_entry at.position) (ids_up_to found) there (omega (arith, not_behind there)))
        (read_parts here)))

  -- what it reads is listed for the refusal
  refused_read : {refusal : Numbered} → run (view lent) (entries_of setup) ≡ refused refusal → {cell : Cell}
      → Among cell (reads (view lent) (entries_of setup)) → RefusedListed setup lent refusal cell
  unfolding entries_of
  refused_read {refusal} e {cell} here = by (either (view lent) (starting setup lent) passing e) (read_either (view lent) (starting setup lent) passing here)
    where
      -- the line has no frame entry, or a pixel of it is refused
      by : Either (view lent) (starting setup lent) passing refusal → Read (view lent) (starting setup lent) passing cell → RefusedListed setup lent refusal cell
      by (at_first none) there = no_table_read (no_frame setup lent none) none there
      by (at_second start started stops) there =
          let at = each_stops (view lent) (entering setup lent start) setup.controls.width 0 stops in
          stopped_read started at (pixel_refused setup lent start at.position at.stops) there

  -- ---- the line

  -- a line whose first pass answers is drawn
  pub answered_drawn : verdict (line_faults setup) ≡ ok tt → {entries : List WindowEntry} → run (view lent) (entries_of setup) ≡ ok entries
      → (colours : List ℕ) × (line_of setup lent ≡ ok colours)
  answered_drawn fine {entries} e =
      let drawn = never_answers (view lent) (colours_of setup entries) (never_colours setup entries) in
      (drawn.0, passes setup lent fine ∙ run_ok (view lent) (entries_of setup) (colours_of setup) e ∙ drawn.1)

  -- a line whose first pass is refused is refused
  pub answered_refused : verdict (line_faults setup) ≡ ok tt → {refusal : Numbered} → run (view lent) (entries_of setup) ≡ refused refusal
      → line_of setup lent ≡ refused refusal
  answered_refused fine e = passes setup lent fine ∙ run_refused (view lent) (entries_of setup) (colours_of setup) e

  -- every cell that a line reads is listed
  pub reads_listed : (cell : Cell) → Memᴰ cell (reads (view lent) (line_rule setup)) → Listed setup lent cell
  reads_listed cell here = by_verdict (verdict (line_faults setup)) refl
    where
      -- of a line whose first pass answers, what either pass reads is listed
      by_answer : {entries : List WindowEntry} → run (view lent) (entries_of setup) ≡ ok entries → Read (view lent) (entries_of setup) (colours_of setup) cell
          → ListedTo setup lent whole cell
      by_answer e (by_first there) = answered_read e there
      by_answer e (by_second entries found there) = colours_read found there

      -- of a line whose first pass is refused, what that pass reads is listed, and there is no second
      by_refusal : {refusal : Numbered} → run (view lent) (entries_of setup) ≡ refused refusal → Read (view lent) (entries_of setup) (colours_of setup) cell
          → RefusedListed setup lent refusal cell
      by_refusal e (by_first there) = refused_read e there
      by_refusal e (by_second entries found there) = impossible (cc)

      -- a line whose first pass answers is drawn, any other is refused as that pass is
      by_entries : verdict (line_faults setup) ≡ ok tt → Read (view lent) (entries_of setup) (colours_of setup) cell
          → (outcome : Outcome Numbered (List WindowEntry)) → run (view lent) (entries_of setup) ≡ outcome → Listed setup lent cell
      by_entries fine there (ok entries) e =
          subst (λ (outcome : Outcome Numbered (List ℕ)). ListedFor setup lent outcome cell) (sym (answered_drawn fine e).1) (by_answer e there)
      by_entries fine there (refused refusal) e =
          subst (λ (outcome : Outcome Numbered (List ℕ)). ListedFor setup lent outcome cell) (sym (answered_refused fine e)) (by_refusal e there)

      -- a line that is refused before anything is read reads nothing; any other has its two passes
      by_verdict : (outcome : Outcome Numbered (Unit {0})) → verdict (line_faults setup) ≡ outcome → Listed setup lent cell
      by_verdict (refused refusal) early = absurd (Memᴰ.not-nil (subst (Among cell) (unread setup lent early) here))
      by_verdict (ok tt) fine =
          by_entries fine (read_either (view lent) (entries_of setup) (colours_of setup) (subst (Among cell) (reads_passes setup lent fine) here))
          (run (view lent) (entries_of setup)) refl
