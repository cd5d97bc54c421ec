-- A pixel's ID and window entry: what the rule makes of what the look-up and the decoder answer. Assumes nothing.
use Prim.Native.Nat.{ℕ, ◌%◌, ◌^◌, ◌≤◌, ◌<◌}
use mathlib.Core.Path.{◌≡◌, refl, sym, ap, ◌∙◌}
use mathlib.Core.Bool.{true, false}
use mathlib.Core.List.{List}
use mathlib.Core.Logic.{⊎_elim}
use native.Mathlib.Nat.{zero-add}
use native.Mathlib.Omega.{arith}
use lib.ListN.{length, get_or}
use Rattle.rules.specs.Rule.{Rule, Outcome, ok, refused, run}
use Rattle.rules.specs.Faults.{Numbered}
use Rattle.rules.proofs.Cases.{le_or_lt}
use Rattle.rules.proofs.Then.{renamed, run_ok, run_refused, run_within}
use Rattle.refusals.specs.Refusal.{numbered, outcome_of}
use Rattle.refusals.specs.declared.Refusal.{Refusal}
use Rattle.refusals.specs.declared.Refusal.TheVariants.{UndefinedEntry}
use Rattle.line_colour.specs.Entry.{decoded}
use Rattle.line_colour.specs.declared.entry.WindowEntry.{WindowEntry}
use Rattle.std.specs.Prelude.{Option, Some, None, Result, Ok, Err, IfOk}
use Rattle.line_colour.proofs.Kept.{decoded_kept}
use Rattle.chip_registers.specs.Store.{stored}
use Rattle.chip_registers.specs.declared.Block.TheVariants.{WindowEntries}
use Rattle.line_windows.specs.Table.{TableCell, table_view}
use Rattle.line_windows.specs.Frame.{line_table_of}
use Rattle.line_windows.specs.Ids.{id_of}
use Rattle.line_windows.specs.Carried.{found_from}
use Rattle.line_windows.specs.declared.ids.FoundId.{FoundId}
use Rattle.line_windows.proofs.Pixels.{found_serves, refused_serves}
use Rattle.line_setup.specs.declared.controls.Controls.{Controls}
use Rattle.line.specs.Cells.{Lent, lent_of, view}
use Rattle.line.specs.Line.{in_table, start_of, id_at, defined_at, window_entry_at}
use Rattle.line_pixels.specs.Colour.{SaidAt}
use Rattle.line.specs.Inner.{Over, PassedAt, Served, EndsRun, StartAnswer}

-- from pixel x to before `end` all pixels have this window entry, and behind them the look-up may go on from line entry `next`
pub record RunOf (controls : Controls) (store table : List ℕ) (start x : ℕ) (entry : WindowEntry) (end next : ℕ) : Type 0 where
  pub some : x < end
  pub within : end ≤ controls.width
  pub passed : end < controls.width → PassedAt controls table start next end
  pub said : SaidAt controls.depth entry
  pub all_have : Over store table (λ memory. (p : ℕ) → x ≤ p → p < end → run memory (window_entry_at controls (length table) start p) ≡ ok entry)

-- pixel x has no defined window entry, for this reason
abbrev pub NoRun : Controls → List ℕ → List ℕ → ℕ → ℕ → Refusal → Type 0
NoRun controls store table start x refusal =
    Over store table (λ memory. run memory (window_entry_at controls (length table) start x) ≡ refused (numbered refusal))

-- refusals under their own names
renamed_same : {R A : Type 0} (outcome : Outcome R A) → renamed (λ (refusal : R). refusal) outcome ≡ outcome
renamed_same (ok answer) = refl
renamed_same (refused refusal) = refl

-- a rule over the table goes by the table that is lent
pub run_in_table : {A : Type 0} (lent : Lent) (rule : Rule Numbered TableCell A) → run (view lent) (in_table rule) ≡ run (table_view lent.table) rule
run_in_table lent rule = run_within _ _ (view lent) rule ∙ renamed_same _

module _ (controls : Controls) (table : List ℕ) where
  -- where the line table starts, window IDs on
  pub start_on : (y : ℕ) (found : Result ℕ Refusal) → controls.ids ≡ true
      → outcome_of found ≡ run (table_view table) (line_table_of (length table) y) → StartAnswer controls table y found
  unfolding start_of
  start_on y (Ok byte) on says = λ store normal overlay. rw on (run_in_table (lent_of store table normal overlay) (line_table_of (length table) y) ∙ sym says)
  start_on y (Err refusal) on says = λ store normal overlay. rw on (run_in_table (lent_of store table normal overlay) (line_table_of (length table) y) ∙ sym says)

  -- off, there is none
  pub start_off : (y : ℕ) → controls.ids ≡ false → StartAnswer controls table y (Ok 0)
  unfolding start_of
  start_off y off = λ store normal overlay. rw off refl

  module _ (start from x : ℕ) where
    -- a pixel's ID, window IDs on
    pub served_on : (found : Result FoundId Refusal) → controls.ids ≡ true → PassedAt controls table start from x
        → outcome_of found ≡ run (table_view table) (found_from (length table) start from x) → IfOk found (λ has. has.id < 32) → Served controls table start x found
    unfolding id_at
    served_on (Ok found) on passed says below =
        let serves = found_serves (table_view table) (length table) start from x (passed on) (sym says) in (
          below,
          serves.reaches,
          λ again. serves.passed,
          λ store normal overlay p low high. rw on (run_in_table (lent_of store table normal overlay) (id_of (length table) start p) ∙ serves.ids p low high),
        )
    served_on (Err refusal) on passed says below =
        λ store normal overlay.
        rw on
        (run_in_table (lent_of store table normal overlay) (id_of (length table) start x)
        ∙ refused_serves (table_view table) (length table) start from x (passed on) (sym says))

-- off, every pixel has ID 0
pub id_off : (controls : Controls) (lent : Lent) (table_bytes start p : ℕ) → controls.ids ≡ false → run (view lent) (id_at controls table_bytes start p) ≡ ok 0
unfolding id_at
id_off controls lent table_bytes start p off = rw off refl

-- of a window entry the decoder looks at the kept bits alone
pub kept_decoded : (store : List ℕ) (id depth : ℕ) → decoded (stored store (record { block = WindowEntries; word = id })) depth ≡ decoded (get_or store id 0) depth
kept_decoded store id depth =
    let kept : stored store (record { block = WindowEntries; word = id }) ≡ get_or store id 0 % 2 ^ 13 = rw zero-add (omega arith) in
    rw kept (decoded_kept (get_or store id 0) depth)

module _ (controls : Controls) (lent : Lent) (start x : ℕ) where
  -- no ID: that refusal
  pub entry_no_id : {refusal : Numbered} → run (view lent) (id_at controls (length lent.table) start x) ≡ refused refusal
      → run (view lent) (window_entry_at controls (length lent.table) start x) ≡ refused refusal
  unfolding window_entry_at
  entry_no_id none = run_refused (view lent) (id_at controls (length lent.table) start x) _ none

  module _ {id : ℕ} (found : run (view lent) (id_at controls (length lent.table) start x) ≡ ok id) where
    -- the decoder decides
    by_decoded : {what : Option WindowEntry} → decoded (get_or lent.store id 0) controls.depth ≡ what
        → run (view lent) (window_entry_at controls (length lent.table) start x) ≡ run (view lent) (defined_at x what)
    unfolding window_entry_at
    by_decoded e =
        run_ok (view lent) (id_at controls (length lent.table) start x) _ found
        ∙ ap (λ (what : Option WindowEntry). run (view lent) (defined_at x what)) (kept_decoded lent.store id controls.depth ∙ e)

    -- an ID and a defined entry
    pub entry_defined : {entry : WindowEntry} → decoded (get_or lent.store id 0) controls.depth ≡ Some entry
        → run (view lent) (window_entry_at controls (length lent.table) start x) ≡ ok entry
    entry_defined e = by_decoded e

    -- an ID and an undefined entry: 9
    pub entry_undefined : decoded (get_or lent.store id 0) controls.depth ≡ None
        → run (view lent) (window_entry_at controls (length lent.table) start x) ≡ refused (numbered (UndefinedEntry x))
    entry_undefined e = by_decoded e

-- what the look-up answered for pixel x, and the decoder for the window entry of its ID
module _ (controls : Controls) (store table : List ℕ) (start x : ℕ) (found : FoundId) (served : Served controls table start x (Ok found)) where
  -- an entry that is defined: the run that ends where the line entry does, or the line
  pub run_of : (entry : WindowEntry) (end : ℕ) → decoded (get_or store found.id 0) controls.depth ≡ Some entry → x < controls.width
      → EndsRun controls.width found.last end → RunOf controls store table start x entry end found.next
  run_of entry end says inside ends =
      let all_have : (normal overlay : List ℕ) (p : ℕ) → x ≤ p → p ≤ found.last
      → run (view (lent_of store table normal overlay)) (window_entry_at controls (length table) start p) ≡ ok entry =
      λ normal overlay p low high. entry_defined controls (lent_of store table normal overlay) start p (served.3 store normal overlay p low high) says in
      ⊎_elim
      (λ (beyond : controls.width ≤ found.last).
      let e = ends.1 beyond in record {
        some = omega arith;
        within = omega arith;
        passed = λ more. absurd (omega arith);
        said = (get_or store found.id 0, says);
        all_have = λ normal overlay p low high. all_have normal overlay p low (omega arith);
      })
      (λ (within : found.last < controls.width).
      let e = ends.0 within in record {
        some = omega (arith, served.1);
        within = omega arith;
        passed = λ more. rw e served.2;
        said = (get_or store found.id 0, says);
        all_have = λ normal overlay p low high. all_have normal overlay p low (omega arith);
      })
      (le_or_lt controls.width found.last)

  -- an undefined entry: 9
  pub run_undefined : decoded (get_or store found.id 0) controls.depth ≡ None → NoRun controls store table start x (UndefinedEntry x)
  run_undefined says normal overlay =
      entry_undefined controls (lent_of store table normal overlay) start x (served.3 store normal overlay x (omega arith) served.1) says

-- no ID: that refusal
pub run_no_id : (controls : Controls) (store table : List ℕ) (start x : ℕ) (refusal : Refusal) → Served controls table start x (Err refusal) → NoRun controls store table start x refusal
run_no_id controls store table start x refusal served normal overlay =
    entry_no_id controls (lent_of store table normal overlay) start x (served store normal overlay)
