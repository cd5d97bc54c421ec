-- What a line is refused for rests on nothing that covers or colours its pixels: not on the cursor, the overlay row, the normal row, the maps or the glyph. Assumes nothing.
use Prim.Native.Nat.{ℕ, zero, suc, ◌%◌, ◌^◌, ◌<◌}
use mathlib.Core.Path.{◌≡◌, refl, sym, ap, ◌∙◌}
use mathlib.Core.Bool.{Bool, true, false, cond}
use mathlib.Core.List.{List}
use native.Mathlib.Omega.{arith}
use lib.ListN.{length, get_or}
use Rattle.std.specs.Prelude.{Option, Some, None}
use Rattle.rules.specs.Rule.{Rule, done, Outcome, ok, refused, run, ◌>>=◌}
use Rattle.rules.specs.Faults.{Numbered}
use Rattle.rules.specs.Each.{each}
use Rattle.rules.specs.Checked.{checked}
use Rattle.rules.proofs.Cases.{impossible}
use Rattle.rules.proofs.Then.{run_ok, run_refused}
use Rattle.rules.proofs.Parts.{Either, at_first, at_second, either}
use Rattle.rules.proofs.Checked.{run_checked}
use Rattle.rules.proofs.Asks.{NeverRefuses, never_refused, never_each_of}
use Rattle.rules.proofs.Value.{never_within}
use Rattle.line_colour.specs.Entry.{decoded}
use Rattle.line_colour.specs.declared.entry.WindowEntry.{WindowEntry}
use Rattle.line_colour.proofs.Kept.{decoded_kept}
use Rattle.line_pixels.specs.Colour.{colour_of_pixel}
use Rattle.line_windows.specs.Table.{TableCell, table_view}
use Rattle.line_windows.specs.Frame.{line_table_of}
use Rattle.line_windows.specs.Ids.{id_of}
use Rattle.line_windows.proofs.Belongs.{id_found_by}
use Rattle.chip.specs.State.{good_state}
use Rattle.line_setup.specs.Controls.{controls_of}
use Rattle.line_setup.specs.Faults.{above_total, table_too_long, overlay_wrong, length_faults, line_faults}
use Rattle.line_setup.specs.declared.controls.Controls.{Controls}
use Rattle.line_setup.specs.declared.setup.Setup.{Setup}
use Rattle.line.specs.Screen.{screen_in}
use Rattle.line.specs.Cells.{Cell, of_colour, window_entry, Lent, view}
use Rattle.line.specs.Line.{in_table, start_of, id_at, defined_at, window_entry_at, entries_of, colours_of, line_rule, line_of}
use Rattle.line.specs.Drawn.{setup_of, without_colours, drawn}
use Rattle.line.specs.declared.request.Request.{Request}
use Rattle.line.proofs.Entries.{run_in_table, kept_decoded}

-- the fields of the control words without those of the cursor
abbrev pub uncovered : Controls → Controls
uncovered controls =
    record {
      overlay = controls.overlay;
      ids = controls.ids;
      cursor = false;
      crosshair = false;
      depth = controls.depth;
      columns = controls.columns;
      lines = controls.lines;
      left = controls.left;
      top = controls.top;
      width = controls.width;
      height = controls.height;
      cx = 0;
      cy = 0;
    }

-- two lines are checked alike: states, control words but for the cursor's fields, numbers, lengths, table and the 13 bits of each window entry are the same to a check; cursor, glyph, maps and rows may hold anything
pub record CheckedAlike (request other : Request) (lent given : Lent) : Type 0 where
  pub good : good_state request.state ≡ good_state other.state
  pub controls : uncovered (controls_of request.state.control) ≡ uncovered (controls_of other.state.control)
  pub line : request.y ≡ other.y
  pub store : length lent.store ≡ length given.store
  pub table : lent.table ≡ given.table
  pub normal : length lent.normal ≡ length given.normal
  pub overlay : length lent.overlay ≡ length given.overlay
  pub entries : (id : ℕ) → id < 32 → get_or lent.store id 0 % 2 ^ 13 ≡ get_or given.store id 0 % 2 ^ 13

-- ---- the checks of a line

-- what a line goes by, without the fields of the cursor
abbrev bare : Setup → Setup
bare setup = record { good = setup.good; controls = uncovered setup.controls; y = setup.y; lengths = setup.lengths }

-- every check of a line, and no colour
abbrev checks_of : Setup → Rule Numbered Cell (List WindowEntry)
checks_of setup = checked (line_faults setup) >>= (λ fine. entries_of setup)

-- no check looks at the cursor
checks_bare : (setup : Setup) → checks_of (bare setup) ≡ checks_of setup
unfolding line_faults above_total length_faults table_too_long overlay_wrong entries_of start_of window_entry_at id_at
checks_bare setup = refl

-- no colour refuses
pub never_colours : (setup : Setup) (entries : List WindowEntry) → NeverRefuses (colours_of setup entries)
unfolding colours_of
never_colours setup entries = never_each_of _ (λ entry x. never_within _ of_colour (colour_of_pixel (screen_in setup) entry x)) entries 0

module _ (setup : Setup) (lent : Lent) {refusal : Numbered} where
  -- a line is refused by a check
  line_by_checks : line_of setup lent ≡ refused refusal → run (view lent) (checks_of setup) ≡ refused refusal
  unfolding line_of line_rule
  line_by_checks e = by (either (view lent) (checked (line_faults setup)) _ e)
    where
      -- past the faults an entry refuses
      next : Either (view lent) (entries_of setup) (colours_of setup) refusal → run (view lent) (entries_of setup) ≡ refused refusal
      next (at_first none) = none
      next (at_second entries found none) = absurd (never_refused (view lent) (colours_of setup entries) (never_colours setup entries) none)

      -- a fault refuses, or an entry
      by : Either (view lent) (checked (line_faults setup)) (λ fine. entries_of setup >>= colours_of setup) refusal → run (view lent) (checks_of setup) ≡ refused refusal
      by (at_first none) = run_refused (view lent) (checked (line_faults setup)) _ none
      by (at_second fine found none) =
          run_ok (view lent) (checked (line_faults setup)) _ found ∙ next (either (view lent) (entries_of setup) (colours_of setup) none)

  -- what a check refuses, the line is refused by
  checks_line : run (view lent) (checks_of setup) ≡ refused refusal → line_of setup lent ≡ refused refusal
  unfolding line_of line_rule
  checks_line e = by (either (view lent) (checked (line_faults setup)) _ e)
    where
      -- a fault refuses, or an entry
      by : Either (view lent) (checked (line_faults setup)) (λ fine. entries_of setup) refusal
          → run (view lent) (checked (line_faults setup) >>= (λ fine. entries_of setup >>= colours_of setup)) ≡ refused refusal
      by (at_first none) = run_refused (view lent) (checked (line_faults setup)) _ none
      by (at_second fine found none) =
          run_ok (view lent) (checked (line_faults setup)) _ found ∙ run_refused (view lent) (entries_of setup) _ none

-- ---- two memories

module _ {R Q : Type 0} (memory other : Q → ℕ) where
  -- one rule and then another come to the same over both where the first does, and the second by its answer
  then_alike : {A B : Type 0} (rule : Rule R Q A) (after : A → Rule R Q B) → run memory rule ≡ run other rule
      → ((answer : A) → run memory rule ≡ ok answer → run memory (after answer) ≡ run other (after answer)) → run memory (rule >>= after) ≡ run other (rule >>= after)
  then_alike {A} {B} rule after same next = by (run memory rule) refl
    where
      -- by what the first comes to
      by : (outcome : Outcome R A) → run memory rule ≡ outcome → run memory (rule >>= after) ≡ run other (rule >>= after)
      by (ok answer) e = run_ok memory rule after e ∙ next answer e ∙ sym (run_ok other rule after (sym same ∙ e))
      by (refused refusal) e = run_refused memory rule after e ∙ sym (run_refused other rule after (sym same ∙ e))

  -- a pass comes to the same where each position does
  each_alike : {A : Type 0} (rule : ℕ → Rule R Q A) → ((x : ℕ) → run memory (rule x) ≡ run other (rule x))
      → (count from : ℕ) → run memory (each rule count from) ≡ run other (each rule count from)
  each_alike rule same zero from = refl
  each_alike rule same (suc count) from =
      then_alike (rule from) _ (same from) (λ answer e. then_alike (each rule count (suc from)) _ (each_alike rule same count (suc from)) (λ answers e'. refl))

module _ (lent given : Lent) (table : lent.table ≡ given.table)
    (entries : (id : ℕ) → id < 32 → get_or lent.store id 0 % 2 ^ 13 ≡ get_or given.store id 0 % 2 ^ 13) where
  -- a rule over the table comes to the same
  in_table_alike : {A : Type 0} (rule : Rule Numbered TableCell A) → run (view lent) (in_table rule) ≡ run (view given) (in_table rule)
  in_table_alike rule = run_in_table lent rule ∙ ap (λ (bytes : List ℕ). run (table_view bytes) rule) table ∙ sym (run_in_table given rule)

  module _ (controls : Controls) (table_bytes : ℕ) where
    -- so does the start of the line table
    start_alike : (y : ℕ) → run (view lent) (start_of controls table_bytes y) ≡ run (view given) (start_of controls table_bytes y)
    unfolding start_of
    start_alike y = by controls.ids
      where
        -- by the switch
        by : (on : Bool) → run (view lent) (cond on (in_table (line_table_of table_bytes y)) (done 0)) ≡ run (view given) (cond on (in_table (line_table_of table_bytes y)) (done 0))
        by true = in_table_alike (line_table_of table_bytes y)
        by false = refl

    module _ (start x : ℕ) where
      -- so does a pixel's ID
      id_alike : run (view lent) (id_at controls table_bytes start x) ≡ run (view given) (id_at controls table_bytes start x)
      unfolding id_at
      id_alike = by controls.ids
        where
          -- by the switch
          by : (on : Bool) → run (view lent) (cond on (in_table (id_of table_bytes start x)) (done 0)) ≡ run (view given) (cond on (in_table (id_of table_bytes start x)) (done 0))
          by true = in_table_alike (id_of table_bytes start x)
          by false = refl

      -- an ID is one of 32
      id_below : {id : ℕ} → run (view lent) (id_at controls table_bytes start x) ≡ ok id → id < 32
      unfolding id_at
      id_below {id} has = by controls.ids has
        where
          -- by the switch
          by : (on : Bool) → run (view lent) (cond on (in_table (id_of table_bytes start x)) (done 0)) ≡ ok id → id < 32
          by true e =
              let found = id_found_by (table_view lent.table) table_bytes start x (sym (run_in_table lent (id_of table_bytes start x)) ∙ e) in
              omega (arith, found.says)
          by false e = let none : 0 ≡ id = cc in omega arith

      -- what an entry says comes to the same
      said_alike : (what : Option WindowEntry) → run (view lent) (defined_at x what) ≡ run (view given) (defined_at x what)
      said_alike (Some entry) = refl
      said_alike None = refl

      -- so does a pixel's window entry
      entry_alike : run (view lent) (window_entry_at controls table_bytes start x) ≡ run (view given) (window_entry_at controls table_bytes start x)
      unfolding window_entry_at
      entry_alike =
          then_alike (view lent) (view given) (id_at controls table_bytes start x) _ id_alike (λ id has.
          let kept = entries id (id_below has) in
          let depth = controls.depth in
          let same : decoded (view lent (window_entry id)) depth ≡ decoded (view given (window_entry id)) depth =
          kept_decoded lent.store id depth
          ∙ sym (decoded_kept (get_or lent.store id 0) depth)
          ∙ ap (λ (word : ℕ). decoded word depth) kept
          ∙ decoded_kept (get_or given.store id 0) depth
          ∙ sym (kept_decoded given.store id depth) in
          said_alike (decoded (view lent (window_entry id)) depth) ∙ ap (λ (what : Option WindowEntry). run (view given) (defined_at x what)) same)

  -- so does every check
  checks_alike : (setup : Setup) → run (view lent) (checks_of setup) ≡ run (view given) (checks_of setup)
  unfolding entries_of
  checks_alike setup =
      let controls = setup.controls in
      let bytes = setup.lengths.table in
      then_alike (view lent) (view given) (checked (line_faults setup)) _
      (run_checked (view lent) (line_faults setup) ∙ sym (run_checked (view given) (line_faults setup)))
      (λ fine e.
      then_alike (view lent) (view given) (start_of controls bytes setup.y) _ (start_alike controls bytes setup.y)
      (λ start e'. each_alike (view lent) (view given) (window_entry_at controls bytes start) (entry_alike controls bytes start) controls.width 0))

-- what is refused without its colours is refused
without_refused : (line : Outcome Numbered (List ℕ)) {refusal : Numbered} → without_colours line ≡ refused refusal → line ≡ refused refusal
without_refused (ok colours) e = impossible (cc)
without_refused (refused other) e = cc

-- ---- two lines

module _ (request other : Request) (lent given : Lent) (alike : CheckedAlike request other lent given) (output old : List ℕ) (room : length output ≡ length old) where
  -- without the fields of the cursor they go by the same
  same_bare : bare (setup_of request lent (length output)) ≡ bare (setup_of other given (length old))
  unfolding setup_of
  same_bare =
      let bytes : length lent.table ≡ length given.table = ap length alike.table in
      let at = alike.controls in
      rw (alike.good, alike.controls, alike.line, alike.store, bytes, alike.normal, alike.overlay, room)

  -- where one line is refused, the other is refused by the same number at the same place
  pub refused_alike : {refusal : Numbered} → (drawn request lent output).1 ≡ refused refusal → (drawn other given old).1 ≡ refused refusal
  unfolding drawn
  refused_alike {refusal} e =
      let setup = setup_of request lent (length output) in
      let setup' = setup_of other given (length old) in
      let first = line_by_checks setup lent (without_refused (line_of setup lent) e) in
      let moved : run (view given) (checks_of setup') ≡ refused refusal =
      sym (ap (run (view given)) (sym (checks_bare setup) ∙ ap checks_of same_bare ∙ checks_bare setup'))
      ∙ (sym (checks_alike lent given alike.table alike.entries setup) ∙ first) in
      ap without_colours (checks_line setup' given moved)
