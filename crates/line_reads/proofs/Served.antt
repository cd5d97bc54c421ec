-- Which entry serves: what the searches find is what the list says. Assumes nothing.
use Prim.Native.Nat.{ℕ, ◌<◌}
use mathlib.Core.Path.{◌≡◌, sym, ap, ◌∙◌}
use mathlib.Core.Bool.{true}
use native.Mathlib.Omega.{arith}
use Rattle.rules.specs.Rule.{ok, run}
use Rattle.refusals.specs.Refusal.{numbered}
use Rattle.refusals.specs.declared.Refusal.TheVariants.{NoFrameEntry, NoLineEntry}
use Rattle.line_windows.specs.Table.{yend, table_view}
use Rattle.line_windows.specs.Frame.{frame_entries, frame_of, line_table_of}
use Rattle.line_windows.specs.Ids.{line_entries, end_of, line_entry_of}
use Rattle.line_windows.proofs.Whole.{ReachedAt, whole_tells, whole_finds}
use Rattle.line_windows.proofs.Answers.{table_of_entry, table_answered}
use Rattle.line_setup.specs.declared.setup.Setup.{Setup}
use Rattle.line.specs.Cells.{Lent}
use Rattle.line_reads.specs.TableList.{WholeFrameEntry, FrameEntry, StartsAt, WholeLineEntry, LineEntry}

module _ (setup : Setup) (lent : Lent) where
  -- ---- frame entries

  -- a whole frame entry is one of those that are searched
  pub whole_frame : {number : ℕ} → WholeFrameEntry setup lent number → number < frame_entries setup.lengths.table
  whole_frame at = omega (arith, at.at_most, at.in_table)

  module _ (on : setup.controls.ids ≡ true) where
    -- each that is searched is a whole one
    pub frame_whole : {number : ℕ} → number < frame_entries setup.lengths.table → WholeFrameEntry setup lent number
    frame_whole below = record { on = on; at_most = omega arith; in_table = omega arith }

    -- one that serves is the line's
    reached_frame : {entry : ℕ} → ReachedAt (table_view lent.table) yend (frame_entries setup.lengths.table) setup.y entry → FrameEntry setup lent entry
    reached_frame at = record { whole = frame_whole at.below; reaches = at.reaches; earlier = at.earlier.short }

    -- the frame entry that the search finds is the line's
    pub found_frame : {entry : ℕ} → run (table_view lent.table) (frame_of setup.lengths.table setup.y) ≡ ok entry → FrameEntry setup lent entry
    found_frame e =
        reached_frame (whole_tells (table_view lent.table) (numbered (NoFrameEntry setup.y)) yend (frame_entries setup.lengths.table) setup.y e)

    -- the line table that the look-up finds starts there
    pub found_start : {start : ℕ} → run (table_view lent.table) (line_table_of setup.lengths.table setup.y) ≡ ok start → StartsAt setup lent start
    found_start e =
        let at = table_answered (table_view lent.table) setup.lengths.table setup.y e in
        record { frame = at.entry; found = reached_frame at.reached; is = sym at.is }

  -- the search finds the line's frame entry
  pub frame_found : {entry : ℕ} → FrameEntry setup lent entry → run (table_view lent.table) (frame_of setup.lengths.table setup.y) ≡ ok entry
  frame_found at =
      whole_finds (table_view lent.table) (numbered (NoFrameEntry setup.y)) yend (frame_entries setup.lengths.table) setup.y
      (record { below = whole_frame at.whole; reaches = at.reaches; earlier = record { short = at.earlier } })

  -- the look-up finds where the line table starts
  pub start_found : {start : ℕ} → StartsAt setup lent start → run (table_view lent.table) (line_table_of setup.lengths.table setup.y) ≡ ok start
  start_found at = table_of_entry (table_view lent.table) setup.lengths.table setup.y (frame_found at.found) ∙ ap ok (sym at.is)

  -- ---- line entries

  module _ (start : ℕ) where
    -- a whole line entry is one of those that are searched
    pub whole_line : {number : ℕ} → WholeLineEntry setup lent start number → number < line_entries setup.lengths.table start
    whole_line at = omega (arith, at.in_block, at.in_table)

    -- each that is searched is a whole one
    pub line_whole : {number : ℕ} → number < line_entries setup.lengths.table start → WholeLineEntry setup lent start number
    line_whole below = record { in_block = omega arith; in_table = omega arith }

    -- the search for pixel x finds this entry
    abbrev pub LineFound : ℕ → ℕ → Type 0
    LineFound x entry = run (table_view lent.table) (line_entry_of setup.lengths.table start x) ≡ ok entry

    -- one that serves is the pixel's
    pub reached_line : {x entry : ℕ} → ReachedAt (table_view lent.table) (end_of start) (line_entries setup.lengths.table start) x entry
        → LineEntry setup lent start x entry
    reached_line at = record { whole = line_whole at.below; reaches = at.reaches; earlier = at.earlier.short }

    -- the line entry that the search finds is the pixel's
    pub found_line : {x entry : ℕ} → LineFound x entry → LineEntry setup lent start x entry
    found_line {x} e =
        reached_line (whole_tells (table_view lent.table) (numbered (NoLineEntry x)) (end_of start) (line_entries setup.lengths.table start) x e)

    -- the search finds the pixel's line entry
    pub line_found : {x entry : ℕ} → LineEntry setup lent start x entry → LineFound x entry
    line_found {x} at =
        whole_finds (table_view lent.table) (numbered (NoLineEntry x)) (end_of start) (line_entries setup.lengths.table start) x
        (record { below = whole_line at.whole; reaches = at.reaches; earlier = record { short = at.earlier } })
