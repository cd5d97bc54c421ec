-- The whole rule of a line, by what its checks and passes come to. Assumes nothing.
use Prim.Native.Nat.{ℕ}
use mathlib.Core.Path.{◌≡◌, sym, ap, ◌∙◌}
use mathlib.Core.List.{List}
use native.Mathlib.Omega.{arith}
use lib.ListN.{length}
use Rattle.rules.specs.Rule.{Rule, Outcome, ok, refused, run, ◌>>=◌}
use Rattle.rules.specs.Lists.{values}
use Rattle.rules.specs.Each.{each}
use Rattle.rules.specs.Faults.{Numbered}
use Rattle.rules.specs.Checked.{checked, verdict}
use Rattle.rules.proofs.Then.{run_ok, run_refused}
use Rattle.rules.proofs.Each.{each_ok}
use Rattle.rules.proofs.EachOf.{each_of_values}
use Rattle.rules.proofs.Checked.{run_checked}
use Rattle.rules.proofs.Value.{run_within_value}
use Rattle.line_colour.specs.declared.entry.WindowEntry.{WindowEntry}
use Rattle.line_pixels.specs.Cells.{pixel_view}
use Rattle.line_pixels.specs.Colour.{colour_of_pixel}
use Rattle.line_setup.specs.Faults.{line_faults}
use Rattle.line_setup.specs.declared.setup.Setup.{Setup}
use Rattle.line.specs.Screen.{screen_in}
use Rattle.line.specs.Cells.{Cell, of_colour, Lent, lent_of, view}
use Rattle.line.specs.Line.{start_of, window_entry_at, entries_of, in_colours, colours_of, line_rule}
use Rattle.line.specs.Inner.{Drawable, colour_by, colour_at}
use Rattle.line.proofs.Pass.{entry_of, has_entry, entries_run}

module _ (setup : Setup) (lent : Lent) where
  -- refused before anything is read
  pub line_unfit : {refusal : Numbered} → verdict (line_faults setup) ≡ refused refusal → run (view lent) (line_rule setup) ≡ refused refusal
  unfolding line_rule
  line_unfit unfit = run_refused (view lent) (checked (line_faults setup)) _ (run_checked (view lent) (line_faults setup) ∙ unfit)

  module _ (passes : verdict (line_faults setup) ≡ ok tt) where
    -- past them the passes decide
    pub by_entries : run (view lent) (line_rule setup) ≡ run (view lent) (entries_of setup >>= colours_of setup)
    unfolding line_rule
    by_entries = run_ok (view lent) (checked (line_faults setup)) _ (run_checked (view lent) (line_faults setup) ∙ passes)

    -- no line table: that refusal
    pub line_no_table : {refusal : Numbered} → run (view lent) (start_of setup.controls setup.lengths.table setup.y) ≡ refused refusal
        → run (view lent) (line_rule setup) ≡ refused refusal
    unfolding entries_of
    line_no_table none =
        by_entries
        ∙ run_refused (view lent) (entries_of setup) _
        (run_refused (view lent) (start_of setup.controls setup.lengths.table setup.y) _ none)

    module _ {start : ℕ} (starts : run (view lent) (start_of setup.controls setup.lengths.table setup.y) ≡ ok start) where
      -- a pixel without a defined window entry: its refusal
      pub line_no_entry : {refusal : Numbered}
          → run (view lent) (each (window_entry_at setup.controls setup.lengths.table start) setup.controls.width 0) ≡ refused refusal
          → run (view lent) (line_rule setup) ≡ refused refusal
      unfolding entries_of
      line_no_entry none =
          by_entries
          ∙ run_refused (view lent) (entries_of setup) _
          (run_ok (view lent) (start_of setup.controls setup.lengths.table setup.y) _ starts ∙ none)

      -- every pixel with one: the colours
      pub line_coloured : {entries : List WindowEntry}
          → run (view lent) (each (window_entry_at setup.controls setup.lengths.table start) setup.controls.width 0) ≡ ok entries
          → run (view lent) (line_rule setup) ≡ run (view lent) (colours_of setup entries)
      unfolding entries_of
      line_coloured all =
          by_entries
          ∙ run_ok (view lent) (entries_of setup) _
          (run_ok (view lent) (start_of setup.controls setup.lengths.table setup.y) _ starts ∙ all)

-- a line that may be drawn has the colours of its pixels
pub line_drawn : (setup : Setup) (store table normal overlay : List ℕ) (start : ℕ) → length table ≡ setup.lengths.table → Drawable setup store table start
    → run (view (lent_of store table normal overlay)) (line_rule setup)
    ≡ ok (values (colour_at setup.controls (screen_in setup) (lent_of store table normal overlay) start) setup.controls.width 0)
unfolding colours_of colour_at
line_drawn setup store table normal overlay start long drawable =
    let lent = lent_of store table normal overlay in
    let memory = view lent in
    let screen = screen_in setup in
    let found : ℕ → WindowEntry = λ p. entry_of (run memory (window_entry_at setup.controls (length table) start p)) in
    line_coloured setup lent drawable.fit {start = start} (rw (sym long) (drawable.starts normal overlay)) {entries = values found setup.controls.width 0}
    (rw (sym long) (entries_run setup.controls store table start drawable.entries normal overlay))
    ∙ ap (λ (rule : Rule Numbered Cell (List ℕ)). run memory rule)
    (each_of_values (λ (entry : WindowEntry) (x : ℕ). in_colours (colour_of_pixel screen entry x)) found setup.controls.width 0)
    ∙ each_ok memory (λ (x : ℕ). in_colours (colour_of_pixel screen (found x) x)) (colour_at setup.controls (screen_in setup) lent start) setup.controls.width 0
    (λ x low high.
    run_within_value _ of_colour memory (colour_of_pixel screen (found x) x)
    ∙ ap (λ (outcome : Outcome Numbered WindowEntry). ok (colour_by (pixel_view store normal overlay) screen x outcome))
    (sym (has_entry (drawable.entries normal overlay x (omega arith)))))
