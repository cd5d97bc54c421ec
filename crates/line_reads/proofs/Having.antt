-- Which ID and window entry a pixel has: what the rule of a line finds is what the list says. Assumes nothing.
use Prim.Native.Nat.{ℕ}
use mathlib.Core.Path.{◌≡◌, refl, sym, ap, subst, ◌∙◌}
use mathlib.Core.Bool.{Bool, true, false}
use Rattle.std.specs.Prelude.{Option, Some, None}
use Rattle.rules.specs.Rule.{ok, run}
use Rattle.rules.proofs.Cases.{impossible}
use Rattle.rules.proofs.Then.{run_ok}
use Rattle.rules.proofs.Parts.{both}
use Rattle.line_colour.specs.Entry.{decoded}
use Rattle.line_colour.specs.declared.entry.WindowEntry.{WindowEntry}
use Rattle.line_windows.specs.Table.{table_view}
use Rattle.line_windows.proofs.Answers.{id_of_entry, id_answered}
use Rattle.line_setup.specs.declared.setup.Setup.{Setup}
use Rattle.line.specs.Cells.{window_entry, Lent, view}
use Rattle.line.specs.Line.{defined_at, window_entry_at}
use Rattle.line_reads.specs.TableList.{HasId, ids_off, ids_on, HasEntry}
use Rattle.line_reads.proofs.Served.{reached_line, line_found}
use Rattle.line_reads.proofs.Frames.{starting, identifying, start_off, id_off, starts_at, starts_found}
use Rattle.line_reads.proofs.Pixels.{entering, id_run}

module _ (setup : Setup) (lent : Lent) where
  -- where a pixel has an ID, the line table is found, if one is looked for
  pub has_start : {x id : ℕ} → HasId setup lent x id → (start : ℕ) × (run (view lent) (starting setup lent) ≡ ok start)
  has_start (ids_off off is) = (0, ap (run (view lent)) (start_off setup lent off))
  has_start (ids_on start starts entry found is) = (start, starts_found setup lent starts)

  module _ {start : ℕ} (started : run (view lent) (starting setup lent) ≡ ok start) (x : ℕ) where
    -- the ID that the rule finds is the pixel's
    pub id_has : {id : ℕ} → run (view lent) (identifying setup lent start x) ≡ ok id → HasId setup lent x id
    id_has {id} e = by setup.controls.ids refl
      where
        -- with window IDs on it is looked up, with them off it is 0
        by : (test : Bool) → setup.controls.ids ≡ test → HasId setup lent x id
        by true on =
            let at = id_answered (table_view lent.table) setup.lengths.table start x (sym (id_run setup lent start on x) ∙ e) in
            ids_on start (starts_at setup lent on started) at.entry (reached_line setup lent start at.reached) (sym at.is)
        by false off = ids_off off (cc (id_off setup lent off start x, e))

    -- the rule finds the pixel's ID
    pub has_id : {id : ℕ} → HasId setup lent x id → run (view lent) (identifying setup lent start x) ≡ ok id
    has_id (ids_off off is) = rw (id_off setup lent off start x) (ap ok (sym is))
    has_id {id} (ids_on other starts entry found is) =
        let same : other ≡ start = cc (starts_found setup lent starts, started) in
        subst (λ (from : ℕ). run (view lent) (identifying setup lent from x) ≡ ok id) same
        (id_run setup lent other starts.found.whole.on x
        ∙ id_of_entry (table_view lent.table) setup.lengths.table other x (line_found setup lent other found)
        ∙ ap ok (sym is))

    -- what a window entry says that is defined
    said_defined : (said : Option WindowEntry) {entry : WindowEntry} → run (view lent) (defined_at x said) ≡ ok entry → said ≡ Some entry
    said_defined (Some other) e = cc
    said_defined None e = impossible (cc)

    -- the window entry that the rule finds is the pixel's
    pub entry_has : {entry : WindowEntry} → run (view lent) (entering setup lent start x) ≡ ok entry → HasEntry setup lent x entry
    unfolding window_entry_at
    entry_has e =
        let two = both (view lent) (identifying setup lent start x) _ e in
        record {
          id = two.first;
          has = id_has two.found;
          says = said_defined (decoded (view lent (window_entry two.first)) setup.controls.depth) two.next;
        }

    -- the rule finds the pixel's window entry
    pub has_entry : {entry : WindowEntry} → HasEntry setup lent x entry → run (view lent) (entering setup lent start x) ≡ ok entry
    unfolding window_entry_at
    has_entry at =
        run_ok (view lent) (identifying setup lent start x) _ (has_id at.has) ∙ ap (λ (said : Option WindowEntry). run (view lent) (defined_at x said)) at.says

  -- a pixel has one window entry
  pub one_entry : {x : ℕ} {entry other : WindowEntry} → HasEntry setup lent x entry → HasEntry setup lent x other → entry ≡ other
  one_entry {x} first second = let start = has_start first.has in cc (has_entry start.1 x first, has_entry start.1 x second)
