-- What is read of the frame entries to find where the line table starts. Assumes nothing.
use Prim.Native.Nat.{ℕ, ◌<◌}
use mathlib.Core.Path.{◌≡◌, refl, sym, ap, subst, ◌∙◌}
use mathlib.Core.Bool.{Bool, true, false}
use mathlib.Core.List.Memᴰ
use Rattle.rules.specs.Rule.{Rule, done, ok, refused, run, reads}
use Rattle.rules.specs.Faults.{Numbered}
use Rattle.rules.proofs.Cases.{impossible}
use Rattle.rules.proofs.Lists.{Among}
use Rattle.rules.proofs.Parts.{Becomes, read_within, within_read}
use Rattle.refusals.specs.Refusal.{numbered}
use Rattle.refusals.specs.declared.Refusal.TheVariants.{NoFrameEntry}
use Rattle.line_windows.specs.Table.{TableCell, yend, line_table, table_view}
use Rattle.line_windows.specs.Frame.{frame_entries, line_table_of}
use Rattle.line_windows.specs.Ids.{id_of}
use Rattle.line_setup.specs.declared.setup.Setup.{Setup}
use Rattle.line.specs.Cells.{Cell, of_table, Lent, view}
use Rattle.line.specs.Line.{in_table, start_of, id_at}
use Rattle.line.proofs.Entries.{run_in_table}
use Rattle.line_reads.specs.Reach.{Reach, to_the_one_found, no_frame_entry}
use Rattle.line_reads.specs.TableList.{FrameEntry, UpToFrameEntry, StartsAt}
use Rattle.line_reads.specs.Listed.{ListedTo}
use Rattle.line_reads.proofs.Served.{frame_whole, found_frame, found_start, frame_found, start_found}
use Rattle.line_reads.proofs.LookUps.{LookedUpCell, an_end, its_cell, look_up_read, read_end, read_cell, refusal_named, refused_look_up_read, read_any_end}

module _ (setup : Setup) (lent : Lent) where
  -- the rule that finds the line table
  abbrev pub starting : Rule Numbered Cell ℕ
  starting = start_of setup.controls setup.lengths.table setup.y

  -- the rule of pixel x's ID
  abbrev pub identifying : ℕ → ℕ → Rule Numbered Cell ℕ
  identifying start x = id_at setup.controls setup.lengths.table start x

  -- ---- window IDs on or off

  -- on, the line table is looked up
  pub start_on : setup.controls.ids ≡ true → starting ≡ in_table (line_table_of setup.lengths.table setup.y)
  unfolding start_of
  start_on on = rw on refl

  -- off, no line table is looked up
  pub start_off : setup.controls.ids ≡ false → starting ≡ done 0
  unfolding start_of
  start_off off = rw off refl

  -- on, a pixel's ID is looked up
  pub id_on : setup.controls.ids ≡ true → (start x : ℕ) → identifying start x ≡ in_table (id_of setup.lengths.table start x)
  unfolding id_at
  id_on on start x = rw on refl

  -- off, a pixel's ID is 0
  pub id_off : setup.controls.ids ≡ false → (start x : ℕ) → identifying start x ≡ done 0
  unfolding id_at
  id_off off start x = rw off refl

  -- a line table that is found starts there
  pub starts_at : setup.controls.ids ≡ true → {start : ℕ} → run (view lent) starting ≡ ok start → StartsAt setup lent start
  starts_at on e = found_start setup lent on (sym (run_in_table lent (line_table_of setup.lengths.table setup.y)) ∙ (rw (start_on on) at e))

  -- where a line table starts, it is found
  pub starts_found : {start : ℕ} → StartsAt setup lent start → run (view lent) starting ≡ ok start
  starts_found at = rw (start_on at.found.whole.on) (run_in_table lent (line_table_of setup.lengths.table setup.y) ∙ start_found setup lent at)

  -- ---- where the line table starts

  module _ (on : setup.controls.ids ≡ true) where
    -- what is read to find the line table is read of the table
    start_inner : {cell : Cell} → Among cell (reads (view lent) starting)
        → Becomes of_table (reads (table_view lent.table) (line_table_of setup.lengths.table setup.y)) cell
    start_inner {cell} here =
        read_within (λ (refusal : Numbered). refusal) of_table (view lent) (line_table_of setup.lengths.table setup.y)
        (subst (λ (rule : Rule Numbered Cell ℕ). Among cell (reads (view lent) rule)) (start_on on) here)

    -- what the look-up in the table reads is read to find the line table
    inner_start : {inner : TableCell} → Among inner (reads (table_view lent.table) (line_table_of setup.lengths.table setup.y))
        → Among (of_table inner) (reads (view lent) starting)
    inner_start {inner} here =
        subst (λ (rule : Rule Numbered Cell ℕ). Among (of_table inner) (reads (view lent) rule)) (sym (start_on on))
        (within_read (λ (refusal : Numbered). refusal) of_table (view lent) (line_table_of setup.lengths.table setup.y) here)

    -- what is read of the table to find the line table is listed of a line that finds it
    start_listed : (reach : Reach) → reach.frames ≡ to_the_one_found → {start : ℕ} {cell : Cell} → StartsAt setup lent start
        → Becomes of_table (reads (table_view lent.table) (line_table_of setup.lengths.table setup.y)) cell → ListedTo setup lent reach cell
    unfolding line_table_of
    start_listed reach is_found {start} {cell} starts found =
        subst (ListedTo setup lent reach) (sym found.is)
        (by (look_up_read (table_view lent.table) (numbered (NoFrameEntry setup.y)) yend line_table (frame_entries setup.lengths.table) setup.y
        (start_found setup lent starts) found.here))
      where
        -- a cell that the look-up reads is an end up to that of the entry found, or where its line table starts
        by : {inner : TableCell}
            → LookedUpCell (table_view lent.table) (numbered (NoFrameEntry setup.y)) yend line_table (frame_entries setup.lengths.table) setup.y inner
            → ListedTo setup lent reach (of_table inner)
        by (an_end entry at number up_to is) =
            subst (λ (inner : TableCell). ListedTo setup lent reach (of_table inner)) (sym is)
            (rw is_found (record { entry = entry; found = found_frame setup lent on at; up_to = up_to }))
        by (its_cell entry at is) =
            subst (λ (inner : TableCell). ListedTo setup lent reach (of_table inner)) (sym is) (found_frame setup lent on at)

  -- a cell that is read to find the line table is listed of a line that finds it
  pub start_read : (reach : Reach) → reach.frames ≡ to_the_one_found → {start : ℕ} → run (view lent) starting ≡ ok start
      → {cell : Cell} → Among cell (reads (view lent) starting) → ListedTo setup lent reach cell
  start_read reach is_found e {cell} here = by setup.controls.ids refl
    where
      -- with window IDs on the table is looked up, with them off nothing is read
      by : (test : Bool) → setup.controls.ids ≡ test → ListedTo setup lent reach cell
      by true on = start_listed on reach is_found (starts_at on e) (start_inner on here)
      by false off =
          absurd (Memᴰ.not-nil (subst (λ (rule : Rule Numbered Cell ℕ). Among cell (reads (view lent) rule)) (start_off off) here))

  -- frame entries up to the one found are read
  pub frame_listed : {number : ℕ} → UpToFrameEntry setup lent number → Among (of_table (yend number)) (reads (view lent) starting)
  unfolding line_table_of
  frame_listed {number} listed =
      inner_start listed.found.whole.on
      (read_end (table_view lent.table) (numbered (NoFrameEntry setup.y)) yend line_table (frame_entries setup.lengths.table) setup.y
      (frame_found setup lent listed.found) number listed.up_to)

  -- of the frame entry found, where its line table starts is read
  pub line_table_listed : {entry : ℕ} → FrameEntry setup lent entry → Among (of_table (line_table entry)) (reads (view lent) starting)
  unfolding line_table_of
  line_table_listed {entry} listed =
      inner_start listed.whole.on
      (read_cell (table_view lent.table) (numbered (NoFrameEntry setup.y)) yend line_table (frame_entries setup.lengths.table) setup.y (frame_found setup lent listed))

  -- ---- where there is no frame entry

  -- window IDs are on, and the search in the table refuses
  pub record NoFrame (refusal : Numbered) : Type 0 where
    pub on : setup.controls.ids ≡ true
    pub none : run (table_view lent.table) (line_table_of setup.lengths.table setup.y) ≡ refused refusal

  -- a start that is refused is refused by that search
  pub no_frame : {refusal : Numbered} → run (view lent) starting ≡ refused refusal → NoFrame refusal
  no_frame {refusal} e = by setup.controls.ids refl
    where
      -- with window IDs on it is the search that refuses, with them off nothing is refused
      by : (test : Bool) → setup.controls.ids ≡ test → NoFrame refusal
      by true on = record { on = on; none = sym (run_in_table lent (line_table_of setup.lengths.table setup.y)) ∙ (rw (start_on on) at e) }
      by false off = impossible (cc (start_off off))

  module _ {refusal : Numbered} (lacks : NoFrame refusal) where
    -- a line without a frame entry is refused by 7
    pub frame_number : refusal.number ≡ 7
    unfolding line_table_of
    frame_number =
        ap (λ (told : Numbered). told.number)
        (refusal_named (table_view lent.table) (numbered (NoFrameEntry setup.y)) yend line_table (frame_entries setup.lengths.table) setup.y lacks.none)

    -- what is read without a frame entry is listed: ends of frame entries
    pub no_frame_read : {cell : Cell} → Among cell (reads (view lent) starting) → ListedTo setup lent no_frame_entry cell
    unfolding line_table_of
    no_frame_read {cell} here =
        let found = start_inner lacks.on here in
        let at = refused_look_up_read (table_view lent.table) (numbered (NoFrameEntry setup.y)) yend line_table (frame_entries setup.lengths.table) setup.y lacks.none found.here in
        subst (ListedTo setup lent no_frame_entry) (sym (found.is ∙ ap of_table at.is)) (frame_whole setup lent lacks.on at.below)

    -- without a frame entry every end is read
    pub no_frame_listed : (number : ℕ) → number < frame_entries setup.lengths.table → Among (of_table (yend number)) (reads (view lent) starting)
    unfolding line_table_of
    no_frame_listed number below =
        inner_start lacks.on
        (read_any_end (table_view lent.table) (numbered (NoFrameEntry setup.y)) yend line_table (frame_entries setup.lengths.table) setup.y lacks.none number below)
