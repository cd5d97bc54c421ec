-- The two passes over a line's runs, as the loops make them. Assumes nothing.
use Prim.Native.Nat.{ℕ, ◌≤◌, ◌<◌}
use mathlib.Core.Path.{◌≡◌, sym, ap, ◌∙◌}
use mathlib.Core.Bool.{false}
use mathlib.Core.List.{List}
use mathlib.Core.Logic.{⊎_elim}
use native.Mathlib.Omega.{arith}
use lib.ListN.{length}
use Rattle.rules.specs.Rule.{Outcome, ok, refused, run}
use Rattle.rules.specs.Lists.{values}
use Rattle.rules.specs.Each.{each}
use Rattle.rules.specs.Faults.{Numbered}
use Rattle.rules.proofs.Cases.{le_or_lt}
use Rattle.rules.proofs.Each.{each_ok, each_refuses}
use Rattle.refusals.specs.Refusal.{numbered}
use Rattle.refusals.specs.declared.Refusal.{Refusal}
use Rattle.line_formats.specs.declared.Format.TheVariants.{Index8}
use Rattle.line_colour.specs.declared.entry.WindowEntry.{WindowEntry}
use Rattle.line_windows.specs.Table.{table_view}
use Rattle.line_windows.proofs.Pixels.{passed_start}
use Rattle.line_setup.specs.declared.controls.Controls.{Controls}
use Rattle.line.specs.Cells.{lent_of, view}
use Rattle.line.specs.Line.{window_entry_at}
use Rattle.line.specs.Inner.{Over, PassedAt, Entries}
use Rattle.line.proofs.Entries.{RunOf, NoRun}

-- the entry of an outcome; any one where it was refused
abbrev pub entry_of : Outcome Numbered WindowEntry → WindowEntry
entry_of (ok entry) = entry
entry_of (refused refusal) = record { format = Index8; low = 0; bank = 0; bypass = false; overlay = false }

-- an outcome that has an entry has that
pub has_entry : {outcome : Outcome Numbered WindowEntry} → ((entry : WindowEntry) × (outcome ≡ ok entry)) → outcome ≡ ok (entry_of outcome)
has_entry has = has.1 ∙ ap (λ (outcome : Outcome Numbered WindowEntry). ok (entry_of outcome)) (sym has.1)

module _ (controls : Controls) (store table : List ℕ) (start : ℕ) where
  -- every pixel before x has a defined window entry
  abbrev pub HadTo : ℕ → Type 0
  HadTo x = Over store table (λ memory. (p : ℕ) → p < x → (entry : WindowEntry) × (run memory (window_entry_at controls (length table) start p) ≡ ok entry))

  -- a pass by runs is at pixel x, and its look-up goes on from a line entry
  pub record Passing (x from : ℕ) : Type 0 where
    pub in_range : x ≤ controls.width
    pub goes_on : x < controls.width → PassedAt controls table start from x
    pub had : HadTo x

  -- before the first run
  pub pass_start : Passing 0 0
  pass_start = record {
    in_range = omega arith;
    goes_on = λ more on. passed_start (table_view table) start 0;
    had = λ normal overlay p before. absurd (omega arith);
  }

  module _ {x from : ℕ} (here : Passing x from) where
    -- one run on
    pub pass_run : {entry : WindowEntry} {end next : ℕ} → RunOf controls store table start x entry end next → Passing end next
    pass_run {entry} told = record {
      in_range = told.within;
      goes_on = told.passed;
      had = λ normal overlay p before.
          ⊎_elim (λ low. (entry, told.all_have normal overlay p low before)) (λ high. here.had normal overlay p high) (le_or_lt x p);
    }

    -- a pixel that has none decides the line
    pub pass_refused : (refusal : Refusal) → x < controls.width → NoRun controls store table start x refusal
        → Over store table (λ memory. run memory (each (window_entry_at controls (length table) start) controls.width 0) ≡ refused (numbered refusal))
    pass_refused refusal more told = λ normal overlay.
        let memory = view (lent_of store table normal overlay) in
        each_refuses memory (window_entry_at controls (length table) start) controls.width 0 x (omega arith) (omega arith)
        (λ p low high. here.had normal overlay p high) (told normal overlay)

    -- after the last run
    pub pass_over : controls.width ≤ x → Entries controls store table start
    pass_over all = λ normal overlay p inside. here.had normal overlay p (omega arith)

  -- the first pass of a line all of whose pixels have entries
  pub entries_run : Entries controls store table start → (normal overlay : List ℕ)
      → let memory = view (lent_of store table normal overlay) in
      run memory (each (window_entry_at controls (length table) start) controls.width 0)
      ≡ ok (values (λ p. entry_of (run memory (window_entry_at controls (length table) start p))) controls.width 0)
  entries_run all normal overlay =
      let memory = view (lent_of store table normal overlay) in
      each_ok memory (window_entry_at controls (length table) start) (λ p. entry_of (run memory (window_entry_at controls (length table) start p))) controls.width 0
      (λ p low high. has_entry (all normal overlay p (omega arith)))
