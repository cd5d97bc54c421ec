-- Lines with a fault: a refused line leaves the output as it was, and a line is drawn only where every active pixel has a defined window entry. Assumes nothing.
use Prim.Native.Nat.{ℕ, ◌<◌}
use mathlib.Core.Path.{◌≡◌, refl, sym, subst, ◌∙◌}
use mathlib.Core.Bool.{Bool, true, false}
use mathlib.Core.List.{List}
use native.Mathlib.Omega.{arith}
use lib.ListN.{length, get_or}
use Rattle.std.specs.Prelude.{Option, Some, None}
use Rattle.rules.specs.Rule.{Outcome, ok, refused, run}
use Rattle.rules.specs.Faults.{Numbered}
use Rattle.rules.specs.Checked.{checked}
use Rattle.rules.proofs.Cases.{impossible}
use Rattle.rules.proofs.Parts.{both}
use Rattle.rules.proofs.Each.{each_answers}
use Rattle.line_colour.specs.Entry.{decoded}
use Rattle.line_colour.specs.declared.entry.WindowEntry.{WindowEntry}
use Rattle.line_colour.proofs.EntryBits.{DefinedBits, entry_bits}
use Rattle.line_windows.specs.Table.{table_view}
use Rattle.line_windows.specs.Frame.{line_table_of}
use Rattle.line_windows.specs.Ids.{id_of}
use Rattle.line_windows.proofs.Belongs.{TableBy, table_found_by, table_by_found, IdBy, id_found_by, id_by_found}
use Rattle.line_setup.specs.Controls.{controls_of}
use Rattle.line_setup.specs.Faults.{line_faults}
use Rattle.line_setup.specs.declared.controls.Controls.{Controls}
use Rattle.line.specs.Cells.{Lent, window_entry, view}
use Rattle.line.specs.Line.{start_of, id_at, defined_at, window_entry_at, entries_of, colours_of, line_rule, line_of}
use Rattle.line.specs.Drawn.{setup_of, without_colours, output_after, drawn}
use Rattle.line.specs.declared.request.Request.{Request}
use Rattle.line.proofs.Entries.{run_in_table, kept_decoded}

-- pixel x of line y has this ID: 0 where window IDs are off, else that of the first line entry that serves it, in the line table of the first frame entry that serves the line
pub data PixelId (table : List ℕ) (controls : Controls) (y x id : ℕ) : Type 0 where
  ids_off : controls.ids ≡ false → id ≡ 0 → PixelId table controls y x id
  ids_on : controls.ids ≡ true → (start : ℕ) → TableBy (table_view table) (length table) y start → IdBy (table_view table) (length table) start x id
      → PixelId table controls y x id

-- a pixel has one ID
pub one_id : {table : List ℕ} {controls : Controls} {y x id other : ℕ} → PixelId table controls y x id → PixelId table controls y x other → id ≡ other
one_id (ids_off off is) (ids_off off' is') = is ∙ sym is'
one_id (ids_off off is) (ids_on on start by there) = impossible (cc)
one_id (ids_on on start by there) (ids_off off is) = impossible (cc)
one_id {table} {controls} {y} {x} {id} {other} (ids_on on start by there) (ids_on on' start' by' there') =
    let first = table_by_found (table_view table) (length table) y by in
    let second = table_by_found (table_view table) (length table) y by' in
    let same : start ≡ start' = cc in
    let found = id_by_found (table_view table) (length table) start' x (subst (λ (s : ℕ). IdBy (table_view table) (length table) s x id) same there) in
    let again = id_by_found (table_view table) (length table) start' x there' in
    cc

-- ---- what a line's rule found

module _ (lent : Lent) (controls : Controls) (y x : ℕ) where
  -- where the rule finds a line table and an ID in it, that is the pixel's
  found_id : {start id : ℕ} → run (view lent) (start_of controls (length lent.table) y) ≡ ok start
      → run (view lent) (id_at controls (length lent.table) start x) ≡ ok id → PixelId lent.table controls y x id
  unfolding start_of id_at
  found_id {start} {id} starts has = by controls.ids refl
    where
      -- by the switch
      by : (on : Bool) → controls.ids ≡ on → PixelId lent.table controls y x id
      by false off = ids_off off (let none = rw off at has in cc)
      by true on =
          ids_on on start
          (table_found_by (table_view lent.table) (length lent.table) y (sym (run_in_table lent (line_table_of (length lent.table) y)) ∙ rw on at starts))
          (id_found_by (table_view lent.table) (length lent.table) start x (sym (run_in_table lent (id_of (length lent.table) start x)) ∙ rw on at has))

-- the window entry of an ID is defined at a depth
abbrev pub DefinedId : Lent → ℕ → ℕ → Type 0
DefinedId lent depth id = DefinedBits (get_or lent.store id 0) depth

-- pixel x has an ID whose window entry is defined
abbrev pub DefinedPixel : Lent → Controls → ℕ → ℕ → Type 0
DefinedPixel lent controls y x = (id : ℕ) × (PixelId lent.table controls y x id × DefinedId lent controls.depth id)

module _ (lent : Lent) (controls : Controls) (y x : ℕ) {start : ℕ} (starts : run (view lent) (start_of controls (length lent.table) y) ≡ ok start) where
  -- a window entry that was found is a defined one
  found_entry : {entry : WindowEntry} → run (view lent) (window_entry_at controls (length lent.table) start x) ≡ ok entry → DefinedPixel lent controls y x
  unfolding window_entry_at
  found_entry {entry} has =
      let parts = both (view lent) (id_at controls (length lent.table) start x) _ has in
      let id = parts.first in
      (id, (found_id lent controls y x starts parts.found, entry_bits (get_or lent.store id 0) controls.depth (sym (kept_decoded lent.store id controls.depth) ∙ by (decoded (view lent (window_entry id)) controls.depth) refl parts.next)))
    where
      -- what was answered was defined
      by : {word : Option WindowEntry} (what : Option WindowEntry) → word ≡ what → run (view lent) (defined_at x word) ≡ ok entry → word ≡ Some entry
      by {word} (Some said) is e = let told : run (view lent) (defined_at x (Some said)) ≡ ok entry = rw is at e in cc
      by {word} None is e = let told : run (view lent) (defined_at x None) ≡ ok entry = rw is at e in impossible (cc)

-- ---- the whole line

module _ (request : Request) (lent : Lent) (output : List ℕ) where
  -- the fields of the control words
  abbrev pub controls_asked : Controls
  controls_asked = controls_of request.state.control

  -- a refused line leaves the output as it was: nothing is drawn of it
  pub refused_leaves : {refusal : Numbered} → (drawn request lent output).1 ≡ refused refusal → (drawn request lent output).0.1 ≡ output
  unfolding drawn setup_of
  refused_leaves {refusal} e = by (line_of (setup_of request lent (length output)) lent) e
    where
      -- whatever the line comes to
      by : (line : Outcome Numbered (List ℕ)) → without_colours line ≡ refused refusal → output_after (controls_of request.state.control).width output line ≡ output
      by (ok colours) e = impossible (cc)
      by (refused other) e = refl

  -- where the rule answers colours, every active pixel has a defined window entry
  line_defined : {colours : List ℕ} → line_of (setup_of request lent (length output)) lent ≡ ok colours → (x : ℕ) → x < controls_asked.width
      → DefinedPixel lent controls_asked request.y x
  unfolding setup_of line_of line_rule entries_of
  line_defined e x inside =
      let setup = setup_of request lent (length output) in
      let passes = (both (view lent) (checked (line_faults setup)) _ e).next in
      let entries = (both (view lent) (entries_of setup) (colours_of setup) passes).found in
      let parts = both (view lent) (start_of controls_asked (length lent.table) request.y) _ entries in
      found_entry lent controls_asked request.y x parts.found
      (each_answers (view lent) (window_entry_at controls_asked (length lent.table) parts.first) controls_asked.width 0 parts.next x (omega arith) (omega arith)).1

  -- a line that is drawn has a defined window entry at every active pixel
  pub drawn_defined : (drawn request lent output).1 ≡ ok tt → (x : ℕ) → x < controls_asked.width → DefinedPixel lent controls_asked request.y x
  unfolding drawn
  drawn_defined e = by (line_of (setup_of request lent (length output)) lent) refl e
    where
      -- a line that is drawn came to its colours
      by : (line : Outcome Numbered (List ℕ)) → line_of (setup_of request lent (length output)) lent ≡ line → without_colours line ≡ ok tt
          → (x : ℕ) → x < controls_asked.width → DefinedPixel lent controls_asked request.y x
      by (ok colours) is e = line_defined is
      by (refused refusal) is e = impossible (cc)

  -- a line with an active pixel whose window entry is undefined is refused
  pub undefined_refused : {x id : ℕ} → x < controls_asked.width → PixelId lent.table controls_asked request.y x id
      → (DefinedId lent controls_asked.depth id → ⊥) → (refusal : Numbered) × ((drawn request lent output).1 ≡ refused refusal)
  undefined_refused {x} {id} inside has undefined = by (drawn request lent output).1 refl
    where
      -- it is not drawn
      by : (answer : Outcome Numbered (Unit {0})) → (drawn request lent output).1 ≡ answer → (refusal : Numbered) × ((drawn request lent output).1 ≡ refused refusal)
      by (refused refusal) is = (refusal, is)
      by (ok tt) is =
          let there = drawn_defined is x inside in
          absurd (undefined (subst (DefinedId lent controls_asked.depth) (one_id there.1.0 has) there.1.1))
