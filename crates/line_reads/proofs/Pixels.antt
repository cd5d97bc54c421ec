-- What is read for one pixel's ID and window entry. Assumes nothing.
use Prim.Native.Nat.{ℕ, ◌≤◌, ◌<◌}
use mathlib.Core.Path.{◌≡◌, refl, sym, ap, subst, ◌∙◌}
use mathlib.Core.Bool.{Bool, true, false}
use mathlib.Core.List.Memᴰ
use mathlib.Core.Logic.{⊎_elim}
use Rattle.std.specs.Prelude.{Option}
use Rattle.rules.specs.Rule.{Rule, ok, refused, run, reads, get, ◌>>=◌}
use Rattle.rules.specs.Faults.{Numbered, place_in}
use Rattle.rules.proofs.Cases.{impossible}
use Rattle.rules.proofs.Lists.{Among}
use Rattle.rules.proofs.Parts.{both, Either, at_first, at_second, either, Read, by_first, by_second, read_either, either_read, Becomes, read_within, within_read}
use Rattle.rules.proofs.Asks.{asks_reads}
use Rattle.refusals.specs.Refusal.{numbered}
use Rattle.refusals.specs.declared.Refusal.TheVariants.{NoLineEntry, UndefinedEntry}
use Rattle.line_colour.specs.Entry.{decoded}
use Rattle.line_colour.specs.declared.entry.WindowEntry.{WindowEntry}
use Rattle.line_windows.specs.Table.{TableCell, table_view}
use Rattle.line_windows.specs.Ids.{line_entries, end_of, id_cell, line_entry_of, id_of}
use Rattle.line_setup.specs.declared.setup.Setup.{Setup}
use Rattle.line.specs.Cells.{Cell, of_table, window_entry, Lent, view}
use Rattle.line.specs.Line.{defined_at, window_entry_at}
use Rattle.line.proofs.Entries.{run_in_table}
use Rattle.line.proofs.Defined.{asks_nothing, refuses_undefined}
use Rattle.line_reads.proofs.Served.{LineFound}
use Rattle.line_reads.proofs.LookUps.{LookedUpCell, an_end, its_cell, look_up_read, read_end, read_cell, refusal_named, refused_look_up_read, read_any_end}
use Rattle.line_reads.proofs.Frames.{identifying, id_on, id_off}

module _ (setup : Setup) (lent : Lent) (start : ℕ) where
  -- the rule of pixel x's window entry
  abbrev pub entering : ℕ → Rule Numbered Cell WindowEntry
  entering x = window_entry_at setup.controls setup.lengths.table start x

  -- the cells of a pixel that has an ID: ends up to that of its line entry, the ID in that, and the window entry of the ID
  pub data OfPixel (x : ℕ) (cell : Cell) : Type 0 where
    pixel_end : setup.controls.ids ≡ true → (entry : ℕ) → LineFound setup lent start x entry → (number : ℕ) → number ≤ entry
        → cell ≡ of_table (end_of start number) → OfPixel x cell
    pixel_id : setup.controls.ids ≡ true → (entry : ℕ) → LineFound setup lent start x entry → cell ≡ of_table (id_cell start entry) → OfPixel x cell
    pixel_window : (id : ℕ) → run (view lent) (identifying setup lent start x) ≡ ok id → cell ≡ window_entry id → OfPixel x cell

  module _ (on : setup.controls.ids ≡ true) (x : ℕ) where
    -- what comes of the pixel's ID comes of the look-up in the table
    pub id_run : run (view lent) (identifying setup lent start x) ≡ run (table_view lent.table) (id_of setup.lengths.table start x)
    id_run = rw (id_on setup lent on start x) (run_in_table lent (id_of setup.lengths.table start x))

    -- what is read for the ID is read of the table
    id_inner : {cell : Cell} → Among cell (reads (view lent) (identifying setup lent start x))
        → Becomes of_table (reads (table_view lent.table) (id_of setup.lengths.table start x)) cell
    id_inner {cell} here =
        read_within (λ (refusal : Numbered). refusal) of_table (view lent) (id_of setup.lengths.table start x)
        (subst (λ (rule : Rule Numbered Cell ℕ). Among cell (reads (view lent) rule)) (id_on setup lent on start x) here)

    -- what the look-up in the table reads is read for the ID
    inner_id : {inner : TableCell} → Among inner (reads (table_view lent.table) (id_of setup.lengths.table start x))
        → Among (of_table inner) (reads (view lent) (identifying setup lent start x))
    inner_id {inner} here =
        subst (λ (rule : Rule Numbered Cell ℕ). Among (of_table inner) (reads (view lent) rule)) (sym (id_on setup lent on start x))
        (within_read (λ (refusal : Numbered). refusal) of_table (view lent) (id_of setup.lengths.table start x) here)

    -- a pixel that has an ID has it by a line entry
    pub entry_of : {id : ℕ} → run (view lent) (identifying setup lent start x) ≡ ok id → (entry : ℕ) × LineFound setup lent start x entry
    unfolding id_of
    entry_of e =
        let two = both (table_view lent.table) (line_entry_of setup.lengths.table start x) _ (sym id_run ∙ e) in (two.first, two.found)

    -- with window IDs on, what is read for an ID that is found is one of the pixel's cells
    id_cells : {id : ℕ} → run (view lent) (identifying setup lent start x) ≡ ok id → {cell : Cell}
        → Among cell (reads (view lent) (identifying setup lent start x)) → OfPixel x cell
    unfolding id_of
    id_cells e {cell} here =
        let found = id_inner here in
        by found.is
        (look_up_read (table_view lent.table) (numbered (NoLineEntry x)) (end_of start) (id_cell start) (line_entries setup.lengths.table start) x
        (sym id_run ∙ e) found.here)
      where
        -- a cell that the look-up reads is an end up to that of the pixel's entry, or the ID in that
        by : {inner : TableCell} → cell ≡ of_table inner
            → LookedUpCell (table_view lent.table) (numbered (NoLineEntry x)) (end_of start) (id_cell start) (line_entries setup.lengths.table start) x inner
            → OfPixel x cell
        by is (an_end entry at number up_to_lem same) = pixel_end on entry at number up_to_lem (is ∙ ap of_table same)
        by is (its_cell entry at same) = pixel_id on entry at (is ∙ ap of_table same)

  module _ (x : ℕ) where
    -- what is read for an ID that is found is one of the pixel's cells, whether window IDs are on or not
    id_read : {id : ℕ} → run (view lent) (identifying setup lent start x) ≡ ok id → {cell : Cell}
        → Among cell (reads (view lent) (identifying setup lent start x)) → OfPixel x cell
    id_read e {cell} here = by setup.controls.ids refl
      where
        -- with window IDs on the table is looked up, with them off nothing is read
        by : (test : Bool) → setup.controls.ids ≡ test → OfPixel x cell
        by true on = id_cells on x e here
        by false off =
            absurd (Memᴰ.not-nil (subst (λ (rule : Rule Numbered Cell ℕ). Among cell (reads (view lent) rule)) (id_off setup lent off start x) here))

    -- what a window entry says asks for nothing more
    said_read : (said : Option WindowEntry) {cell : Cell} → Among cell (reads (view lent) (defined_at x said)) → ⊥
    said_read said {cell} here = asks_reads (λ _. ⊥) (view lent) (defined_at x said) (asks_nothing _ x said) cell here

    -- a pixel that has an ID reads these cells, whatever comes of its window entry
    pub pixel_read : {id : ℕ} → run (view lent) (identifying setup lent start x) ≡ ok id → {cell : Cell}
        → Among cell (reads (view lent) (entering x)) → OfPixel x cell
    unfolding window_entry_at
    pixel_read e {cell} here = by (read_either (view lent) (identifying setup lent start x) _ here)
      where
        -- a cell is read for the ID, or it is the window entry of that
        by : Read (view lent) (identifying setup lent start x)
            (λ id. get (window_entry id) >>= (λ word. defined_at x (decoded word setup.controls.depth))) cell → OfPixel x cell
        by (by_first there) = id_read e there
        by (by_second id found there) =
            ⊎_elim (λ same. pixel_window id found same) (λ later. absurd (said_read (decoded (view lent (window_entry id)) setup.controls.depth) later))
            (Memᴰ.cases_cons there)

    -- ---- what comes of a pixel

    -- a pixel that has a window entry has an ID
    pub entry_id : {entry : WindowEntry} → run (view lent) (entering x) ≡ ok entry → (id : ℕ) × (run (view lent) (identifying setup lent start x) ≡ ok id)
    unfolding window_entry_at
    entry_id e = let two = both (view lent) (identifying setup lent start x) _ e in (two.first, two.found)

    -- a pixel without an ID: window IDs are on, and the look-up in the table refuses
    pub record NoId (refusal : Numbered) : Type 0 where
      pub on : setup.controls.ids ≡ true
      pub none : run (table_view lent.table) (id_of setup.lengths.table start x) ≡ refused refusal

    -- a pixel whose ID is refused has none
    no_id : {refusal : Numbered} → run (view lent) (identifying setup lent start x) ≡ refused refusal → NoId refusal
    no_id {refusal} e = by setup.controls.ids refl
      where
        -- with window IDs on it is the look-up that refuses, with them off nothing is refused
        by : (test : Bool) → setup.controls.ids ≡ test → NoId refusal
        by true on = record { on = on; none = sym (id_run on x) ∙ e }
        by false off = impossible (cc (id_off setup lent off start x))

    -- why a pixel is refused: it has no ID, which is 8 at the pixel, or the entry of its ID is undefined, which is 9 there
    pub data RefusedPixel (refusal : Numbered) : Type 0 where
      without_id : NoId refusal → refusal.number ≡ 8 → place_in refusal ≡ x → RefusedPixel refusal
      undefined : (id : ℕ) → run (view lent) (identifying setup lent start x) ≡ ok id → refusal.number ≡ 9 → place_in refusal ≡ x → RefusedPixel refusal

    -- a pixel without an ID is refused by 8
    id_refusal : {refusal : Numbered} → NoId refusal → refusal ≡ numbered (NoLineEntry x)
    unfolding id_of
    id_refusal lacks =
        refusal_named (table_view lent.table) (numbered (NoLineEntry x)) (end_of start) (id_cell start) (line_entries setup.lengths.table start) x lacks.none

    -- a window entry that refuses does so by 9
    said_refusal : (said : Option WindowEntry) {refusal : Numbered} → run (view lent) (defined_at x said) ≡ refused refusal → refusal ≡ numbered (UndefinedEntry x)
    said_refusal said e = (refuses_undefined (view lent) x said e).1

    -- a pixel is refused for no other reason
    pub pixel_refused : {refusal : Numbered} → run (view lent) (entering x) ≡ refused refusal → RefusedPixel refusal
    unfolding window_entry_at
    pixel_refused {refusal} e = by (either (view lent) (identifying setup lent start x) _ e)
      where
        -- the look-up of the ID refuses, or what the window entry says
        by : Either (view lent) (identifying setup lent start x)
            (λ id. get (window_entry id) >>= (λ word. defined_at x (decoded word setup.controls.depth))) refusal → RefusedPixel refusal
        by (at_first none) =
            let is = id_refusal (no_id none) in without_id (no_id none) (ap (λ (told : Numbered). told.number) is) (ap place_in is)
        by (at_second id found none) =
            let is = said_refusal (decoded (view lent (window_entry id)) setup.controls.depth) none in
            undefined id found (ap (λ (told : Numbered). told.number) is) (ap place_in is)

    module _ {refusal : Numbered} (lacks : NoId refusal) where
      -- a pixel without an ID reads all ends of the line table, and nothing else
      pub no_id_read : {cell : Cell} → Among cell (reads (view lent) (entering x))
          → (number : ℕ) × ((number < line_entries setup.lengths.table start) × (cell ≡ of_table (end_of start number)))
      unfolding window_entry_at id_of
      no_id_read {cell} here = by (read_either (view lent) (identifying setup lent start x) _ here)
        where
          -- the look-up reads all ends, and without an ID nothing is read behind it
          by : Read (view lent) (identifying setup lent start x)
              (λ id. get (window_entry id) >>= (λ word. defined_at x (decoded word setup.controls.depth))) cell
              → (number : ℕ) × ((number < line_entries setup.lengths.table start) × (cell ≡ of_table (end_of start number)))
          by (by_first there) =
              let found = id_inner lacks.on x there in
              let at = refused_look_up_read (table_view lent.table) (numbered (NoLineEntry x)) (end_of start) (id_cell start) (line_entries setup.lengths.table start) x lacks.none found.here in
              (at.number, (at.below, found.is ∙ ap of_table at.is))
          by (by_second id found there) = impossible (cc (id_run lacks.on x, lacks.none))

      -- a pixel without an ID reads every end of the line table
      pub read_no_id : (number : ℕ) → number < line_entries setup.lengths.table start → Among (of_table (end_of start number)) (reads (view lent) (entering x))
      unfolding window_entry_at id_of
      read_no_id number below =
          either_read (view lent) (identifying setup lent start x) _
          (by_first (inner_id lacks.on x
          (read_any_end (table_view lent.table) (numbered (NoLineEntry x)) (end_of start) (id_cell start) (line_entries setup.lengths.table start) x lacks.none number below)))

    -- ---- what a pixel with an ID reads

    -- each cell of a pixel that has an ID is read
    pub read_pixel : {cell : Cell} → OfPixel x cell → Among cell (reads (view lent) (entering x))
    unfolding window_entry_at id_of
    read_pixel (pixel_end on entry found number up_to_lem is) =
        Memᴰ.cast is
        (either_read (view lent) (identifying setup lent start x) _
        (by_first (inner_id on x
        (read_end (table_view lent.table) (numbered (NoLineEntry x)) (end_of start) (id_cell start) (line_entries setup.lengths.table start) x found number up_to_lem))))
    read_pixel (pixel_id on entry found is) =
        Memᴰ.cast is
        (either_read (view lent) (identifying setup lent start x) _
        (by_first (inner_id on x
        (read_cell (table_view lent.table) (numbered (NoLineEntry x)) (end_of start) (id_cell start) (line_entries setup.lengths.table start) x found))))
    read_pixel (pixel_window id found is) =
        Memᴰ.cast is (either_read (view lent) (identifying setup lent start x) _ (by_second id found (Memᴰ.head refl)))
