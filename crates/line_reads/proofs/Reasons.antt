-- A line is refused exactly for its reasons, and drawn exactly where there is none. Assumes nothing.
use Prim.Native.Nat.{ℕ}
use mathlib.Core.Path.{◌≡◌, refl, sym, ap, ◌∙◌}
use mathlib.Core.List.{List}
use native.Mathlib.Omega.{arith}
use Rattle.std.specs.Prelude.{Option}
use Rattle.rules.specs.Rule.{Outcome, ok, refused, run}
use Rattle.rules.specs.Faults.{Numbered, Clear}
use Rattle.rules.specs.Checked.{verdict}
use Rattle.rules.proofs.Cases.{impossible}
use Rattle.rules.proofs.Then.{run_ok, run_refused}
use Rattle.rules.proofs.Parts.{Either, at_first, at_second, either}
use Rattle.rules.proofs.Each.{each_refuses, StopsAt, each_stops}
use Rattle.rules.proofs.Asks.{never_refused}
use Rattle.rules.proofs.Checked.{verdict_clear, verdict_first, first_verdict, clear_verdict}
use Rattle.refusals.specs.Refusal.{numbered}
use Rattle.refusals.specs.declared.Refusal.TheVariants.{NoFrameEntry, NoLineEntry, UndefinedEntry}
use Rattle.line_colour.specs.declared.entry.WindowEntry.{WindowEntry}
use Rattle.line_windows.specs.Table.{yend, table_view}
use Rattle.line_windows.specs.Frame.{frame_entries, line_table_of}
use Rattle.line_windows.specs.Ids.{line_entries, end_of}
use Rattle.line_windows.proofs.Whole.{whole_misses}
use Rattle.line_windows.proofs.Answers.{table_of_none, table_unanswered, id_of_none, id_unanswered}
use Rattle.line_setup.specs.Faults.{line_faults}
use Rattle.line_setup.specs.declared.setup.Setup.{Setup}
use Rattle.line.specs.Cells.{Lent, view}
use Rattle.line.specs.Line.{defined_at, window_entry_at, entries_of, colours_of, line_of}
use Rattle.line.proofs.Entries.{run_in_table}
use Rattle.line.proofs.Defined.{refuses_undefined}
use Rattle.line.proofs.Uncovered.{never_colours}
use Rattle.line_reads.specs.Reasons.{NoFrameServes, NoLineEntryServes, UndefinedAt, ComesTo, Reason, at_once, is_no_frame_entry, is_no_line_entry, is_undefined_entry}
use Rattle.line_reads.proofs.Before.{refused_unread, passes}
use Rattle.line_reads.proofs.Served.{whole_frame, frame_whole, whole_line, line_whole}
use Rattle.line_reads.proofs.Frames.{starting, identifying, start_on, starts_at, starts_found, NoFrame, no_frame}
use Rattle.line_reads.proofs.Pixels.{entering, id_run, RefusedPixel, without_id, undefined, pixel_refused}
use Rattle.line_reads.proofs.Having.{has_start, id_has, has_id, entry_has, has_entry}
use Rattle.line_reads.proofs.OnlyListed.{passing, answered_refused}

module _ (setup : Setup) (lent : Lent) where
  -- ---- a line that is refused has its reason

  module _ (clear : Clear (line_faults setup)) where
    -- a line without a frame entry has the reason for 7
    for_frame : {refusal : Numbered} → NoFrame setup lent refusal → Reason setup lent refusal
    for_frame lacks =
        let none = table_unanswered (table_view lent.table) setup.lengths.table setup.y lacks.none in
        is_no_frame_entry clear (record { on = lacks.on; none = λ number at. none.none.short number (whole_frame setup lent at) }) none.named

    module _ {start : ℕ} (started : run (view lent) (starting setup lent) ≡ ok start) where
      -- a pixel that is refused is the reason for 8 or 9
      for_pixel : (x : ℕ) {refusal : Numbered} → ComesTo setup lent x → run (view lent) (entering setup lent start x) ≡ refused refusal
          → RefusedPixel setup lent start x refusal → Reason setup lent refusal
      unfolding window_entry_at
      for_pixel x comes stops (without_id lacks is place) =
          let none = id_unanswered (table_view lent.table) setup.lengths.table start x lacks.none in
          is_no_line_entry clear x comes
          (record { start = start; starts = starts_at setup lent lacks.on started; none = λ number at. none.none.short number (whole_line setup lent start at) })
          none.named
      for_pixel x comes stops (undefined id found is place) =
          let says = refuses_undefined (view lent) x _ (sym (run_ok (view lent) (identifying setup lent start x) _ found) ∙ stops) in
          is_undefined_entry clear x comes
          (record { id = id; has = id_has setup lent started x found; says = says.0 }) says.1

      -- the line comes to the pixel at which the pass stops
      for_pass : {refusal : Numbered} → StopsAt (view lent) (entering setup lent start) setup.controls.width 0 refusal → Reason setup lent refusal
      for_pass at =
          for_pixel at.position
          (record {
            active = omega (arith, at.high);
            earlier = λ i below.
                let found = at.earlier i (omega arith) (omega arith) in (found.0, entry_has setup lent started i found.1);
          })
          at.stops (pixel_refused setup lent start at.position at.stops)

    -- a first pass that is refused has a reason
    for_entries : {refusal : Numbered} → run (view lent) (entries_of setup) ≡ refused refusal → Reason setup lent refusal
    unfolding entries_of
    for_entries {refusal} e = by (either (view lent) (starting setup lent) (passing setup lent) e)
      where
        -- the line has no frame entry, or a pixel of it is refused
        by : Either (view lent) (starting setup lent) (passing setup lent) refusal → Reason setup lent refusal
        by (at_first none) = for_frame (no_frame setup lent none)
        by (at_second start started stops) =
            for_pass started (each_stops (view lent) (entering setup lent start) setup.controls.width 0 stops)

    -- two passes that are refused have a reason: the second refuses nothing
    for_passes : {refusal : Numbered} → Either (view lent) (entries_of setup) (colours_of setup) refusal → Reason setup lent refusal
    for_passes (at_first e) = for_entries e
    for_passes (at_second entries found e) = absurd (never_refused (view lent) (colours_of setup entries) (never_colours setup entries) e)

  -- a line is refused only for a reason
  pub refused_for : {refusal : Numbered} → line_of setup lent ≡ refused refusal → Reason setup lent refusal
  refused_for {refusal} e = by (verdict (line_faults setup)) refl
    where
      -- a line is refused before anything is read, or in its passes
      by : (outcome : Outcome Numbered (Unit {0})) → verdict (line_faults setup) ≡ outcome → Reason setup lent refusal
      by (refused other) early =
          at_once (first_verdict (line_faults setup) refusal (let same : other ≡ refusal = cc (refused_unread setup lent early, e) in early ∙ ap refused same))
      by (ok tt) fine =
          for_passes (clear_verdict (line_faults setup) fine) (either (view lent) (entries_of setup) (colours_of setup) (sym (passes setup lent fine) ∙ e))

  -- ---- a line that has a reason is refused so

  -- a line that no frame entry serves is refused by 7
  frame_refuses : NoFrameServes setup lent → run (view lent) (entries_of setup) ≡ refused (numbered (NoFrameEntry setup.y))
  unfolding entries_of
  frame_refuses none =
      run_refused (view lent) (starting setup lent) _
      (rw (start_on setup lent none.on)
      (run_in_table lent (line_table_of setup.lengths.table setup.y)
      ∙ table_of_none (table_view lent.table) setup.lengths.table setup.y
      (whole_misses (table_view lent.table) _ yend (frame_entries setup.lengths.table) setup.y
      (record { short = λ entry below. none.none entry (frame_whole setup lent none.on below) }))))

  -- a line that comes to a pixel is refused as the pixel is
  pixel_decides : {start : ℕ} → run (view lent) (starting setup lent) ≡ ok start → (x : ℕ) {refusal : Numbered} → ComesTo setup lent x
      → run (view lent) (entering setup lent start x) ≡ refused refusal → run (view lent) (entries_of setup) ≡ refused refusal
  unfolding entries_of
  pixel_decides {start} started x comes stops =
      run_ok (view lent) (starting setup lent) _ started
      ∙ each_refuses (view lent) (entering setup lent start) setup.controls.width 0 x (omega arith) (omega (arith, comes.active))
      (λ i low below.
      let found = comes.earlier i (omega arith) in (found.0, has_entry setup lent started i found.1))
      stops

  -- a line that comes to a pixel that no line entry serves is refused by 8
  id_refuses : (x : ℕ) → ComesTo setup lent x → NoLineEntryServes setup lent x → run (view lent) (entries_of setup) ≡ refused (numbered (NoLineEntry x))
  unfolding window_entry_at
  id_refuses x comes none =
      pixel_decides (starts_found setup lent none.starts) x comes
      (run_refused (view lent) (identifying setup lent none.start x) _
      (id_run setup lent none.start none.starts.found.whole.on x
      ∙ id_of_none (table_view lent.table) setup.lengths.table none.start x
      (whole_misses (table_view lent.table) _ (end_of none.start) (line_entries setup.lengths.table none.start) x
      (record { short = λ entry below. none.none entry (line_whole setup lent none.start below) }))))

  -- a line that comes to a pixel whose window entry is undefined is refused by 9
  entry_refuses : (x : ℕ) → ComesTo setup lent x → UndefinedAt setup lent x → run (view lent) (entries_of setup) ≡ refused (numbered (UndefinedEntry x))
  unfolding window_entry_at
  entry_refuses x comes at =
      let start = has_start setup lent at.has in
      pixel_decides start.1 x comes
      (run_ok (view lent) (identifying setup lent start.0 x) _ (has_id setup lent start.1 x at.has) ∙ ap (λ (entry : Option WindowEntry). run (view lent) (defined_at x entry)) at.says)

  -- a line is refused for each reason
  pub for_refused : {refusal : Numbered} → Reason setup lent refusal → line_of setup lent ≡ refused refusal
  for_refused (at_once found) = refused_unread setup lent (verdict_first (line_faults setup) _ found)
  for_refused (is_no_frame_entry clear none is) =
      answered_refused setup lent (verdict_clear (line_faults setup) clear) (frame_refuses none) ∙ ap refused (sym is)
  for_refused (is_no_line_entry clear x comes none is) =
      answered_refused setup lent (verdict_clear (line_faults setup) clear) (id_refuses x comes none) ∙ ap refused (sym is)
  for_refused (is_undefined_entry clear x comes at is) =
      answered_refused setup lent (verdict_clear (line_faults setup) clear) (entry_refuses x comes at) ∙ ap refused (sym is)

  -- so there is one reason at most
  pub one_reason : {refusal other : Numbered} → Reason setup lent refusal → Reason setup lent other → refusal ≡ other
  one_reason reason another = cc (for_refused reason, for_refused another)

  -- ---- a line that is drawn

  -- a line that is drawn has no reason
  pub drawn_without : {colours : List ℕ} → line_of setup lent ≡ ok colours → (refusal : Numbered) → Reason setup lent refusal → ⊥
  drawn_without e refusal reason = impossible (cc (for_refused reason))

  -- a line that has none is drawn
  pub without_drawn : ((refusal : Numbered) → Reason setup lent refusal → ⊥) → (colours : List ℕ) × (line_of setup lent ≡ ok colours)
  without_drawn none = by (line_of setup lent) refl
    where
      -- a line is drawn or refused, and it isn't refused without a reason
      by : (outcome : Outcome Numbered (List ℕ)) → line_of setup lent ≡ outcome → (colours : List ℕ) × (line_of setup lent ≡ ok colours)
      by (ok colours) e = (colours, e)
      by (refused refusal) e = absurd (none refusal (refused_for e))
