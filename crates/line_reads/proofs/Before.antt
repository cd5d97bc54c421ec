-- A refused line reads no cell that a colour comes from, and one that is refused before its first entry reads nothing. Assumes nothing.
use Prim.Native.Nat.{ℕ}
use mathlib.Core.Path.{◌≡◌, refl, sym, subst, ap, ◌∙◌}
use mathlib.Core.List.Memᴰ
use mathlib.Core.List.{List, [], ◌++◌, Memᴰ}
use Rattle.rules.specs.Rule.{Rule, Outcome, ok, refused, run, reads, ◌>>=◌}
use Rattle.rules.specs.Faults.{Numbered}
use Rattle.rules.specs.Checked.{checked, verdict}
use Rattle.rules.proofs.Then.{reads_ok, reads_refused}
use Rattle.rules.proofs.Asks.{Asks, asks_reads, asks_then, refused_reads, asks_cond, asks_any, asks_each, asks_within}
use Rattle.rules.proofs.Checked.{run_checked, checked_reads}
use Rattle.line_colour.specs.Entry.{decoded}
use Rattle.line_windows.specs.Table.{TableCell}
use Rattle.line_windows.specs.Frame.{line_table_of}
use Rattle.line_windows.specs.Ids.{id_of}
use Rattle.line_setup.specs.Faults.{line_faults}
use Rattle.line_setup.specs.declared.controls.Controls.{Controls}
use Rattle.line_setup.specs.declared.setup.Setup.{Setup}
use Rattle.line.specs.Cells.{Cell, of_table, window_entry, of_colour, Lent, view}
use Rattle.line.specs.Line.{in_table, start_of, id_at, window_entry_at, entries_of, colours_of, line_rule, line_of}
use Rattle.line.proofs.Defined.{asks_nothing}
use Rattle.line.proofs.Whole.{line_unfit, by_entries}
use Rattle.line.proofs.Uncovered.{never_colours}

-- no colour comes from the cell
abbrev pub NoColour : Cell → Type 0
NoColour (of_table cell) = Unit {0}
NoColour (window_entry id) = Unit {0}
NoColour (of_colour cell) = ⊥

-- ---- the first pass asks for no other cell

-- a rule over the table asks for cells of the table alone
asks_table : {A : Type 0} (rule : Rule Numbered TableCell A) → Asks NoColour (in_table rule)
asks_table rule = asks_within NoColour _ of_table rule (asks_any _ (λ cell. tt) rule)

module _ (controls : Controls) (table_bytes : ℕ) where
  -- no colour is asked for to find where the line table starts
  asks_start : (y : ℕ) → Asks NoColour (start_of controls table_bytes y)
  unfolding start_of
  asks_start y = asks_cond NoColour controls.ids _ _ (asks_table (line_table_of table_bytes y)) tt

  -- nor for a pixel's ID
  asks_id : (start x : ℕ) → Asks NoColour (id_at controls table_bytes start x)
  unfolding id_at
  asks_id start x = asks_cond NoColour controls.ids _ _ (asks_table (id_of table_bytes start x)) tt

  -- nor for a pixel's window entry
  asks_entry : (start x : ℕ) → Asks NoColour (window_entry_at controls table_bytes start x)
  unfolding window_entry_at
  asks_entry start x =
      asks_then NoColour (id_at controls table_bytes start x) _ (asks_id start x)
      (λ id. (tt, λ word. asks_nothing NoColour x (decoded word controls.depth)))

module _ (setup : Setup) where
  -- nor in the whole first pass
  asks_entries : Asks NoColour (entries_of setup)
  unfolding entries_of
  asks_entries =
      asks_then NoColour (start_of setup.controls setup.lengths.table setup.y) _ (asks_start setup.controls setup.lengths.table setup.y)
      (λ start. asks_each NoColour _ (asks_entry setup.controls setup.lengths.table start) setup.controls.width 0)

  module _ (lent : Lent) where
    -- a line that is refused by what it goes by alone reads nothing
    pub unread : {refusal : Numbered} → verdict (line_faults setup) ≡ refused refusal → reads (view lent) (line_rule setup) ≡ []
    unfolding line_rule
    unread e =
        reads_refused (view lent) (checked (line_faults setup)) _ (run_checked (view lent) (line_faults setup) ∙ e)
        ∙ checked_reads (view lent) (line_faults setup)

    -- a line that has such a refusal is refused so
    pub refused_unread : {refusal : Numbered} → verdict (line_faults setup) ≡ refused refusal → line_of setup lent ≡ refused refusal
    unfolding line_of
    refused_unread e = line_unfit setup lent e

    module _ (fine : verdict (line_faults setup) ≡ ok tt) where
      -- a line that is not refused so is its two passes
      pub passes : line_of setup lent ≡ run (view lent) (entries_of setup >>= colours_of setup)
      unfolding line_of
      passes = by_entries setup lent fine

      -- it reads what its two passes read
      pub reads_passes : reads (view lent) (line_rule setup) ≡ reads (view lent) (entries_of setup >>= colours_of setup)
      unfolding line_rule
      reads_passes =
          reads_ok (view lent) (checked (line_faults setup)) _ (run_checked (view lent) (line_faults setup) ∙ fine)
          ∙ ap (λ (cells : List Cell). cells ++ reads (view lent) (entries_of setup >>= colours_of setup)) (checked_reads (view lent) (line_faults setup))

    -- a line that is refused reads what its first pass reads, and so no cell that a colour comes from
    pub refused_line_reads : {refusal : Numbered} → line_of setup lent ≡ refused refusal
        → (cell : Cell) → Memᴰ cell (reads (view lent) (line_rule setup)) → NoColour cell
    refused_line_reads {refusal} e cell here = by (verdict (line_faults setup)) refl
      where
        -- a line that is refused before anything is read reads nothing; any other is refused in its first pass, which reads no such cell
        by : (outcome : Outcome Numbered (Unit {0})) → verdict (line_faults setup) ≡ outcome → NoColour cell
        by (refused other) early = absurd (Memᴰ.not-nil (subst (Memᴰ cell) (unread early) here))
        by (ok tt) fine =
            asks_reads NoColour (view lent) (entries_of setup) asks_entries cell
            (subst (Memᴰ cell)
            (reads_passes fine ∙ refused_reads (view lent) (entries_of setup) (colours_of setup) (never_colours setup) (sym (passes fine) ∙ e)) here)
