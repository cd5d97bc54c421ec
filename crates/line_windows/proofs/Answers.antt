-- What an entry found answers and reads, of frame entries and of line entries alike. Assumes nothing.
use Prim.Native.Nat.{ℕ, suc}
use mathlib.Core.Path.{◌≡◌, refl, sym, ap, ◌∙◌}
use mathlib.Core.List.{List, [], ◌∷◌, ◌++◌}
use Rattle.rules.specs.Rule.{Rule, Outcome, ok, refused, run, reads, get, ◌>>=◌, and_then}
use Rattle.rules.specs.Faults.{Numbered}
use Rattle.rules.specs.Lists.{values}
use Rattle.rules.proofs.Cases.{impossible}
use Rattle.rules.proofs.Then.{run_then, run_ok, run_refused, reads_ok, reads_refused}
use Rattle.refusals.specs.Refusal.{numbered}
use Rattle.refusals.specs.declared.Refusal.TheVariants.{NoFrameEntry, NoLineEntry}
use Rattle.line_windows.specs.Table.{TableCell, yend, line_table}
use Rattle.line_windows.specs.Search.{serving_entry, NoneServes}
use Rattle.line_windows.specs.Frame.{frame_entries, frame_of, line_table_of}
use Rattle.line_windows.specs.Ids.{line_entries, end_of, id_cell, line_entry_of, id_of}
use Rattle.line_windows.proofs.Whole.{ReachedAt, whole_tells, whole_reads, none_named, none_tells, none_reads}

-- ---- a search, and then a rule that always answers

module _ {R Q A : Type 0} (memory : Q → ℕ) (search : Rule R Q ℕ) (after : ℕ → Rule R Q A) (answer_of : ℕ → A)
    (always : (entry : ℕ) → run memory (after entry) ≡ ok (answer_of entry)) where
  -- the entry from which an answer comes
  pub record From (answer : A) : Type 0 where
    pub entry : ℕ
    pub found : run memory search ≡ ok entry
    pub is : answer_of entry ≡ answer

  -- an answer comes from an entry found
  pub answer_from : {answer : A} → run memory (search >>= after) ≡ ok answer → From answer
  answer_from {answer} e = by (run memory search) refl (sym (run_then memory search after) ∙ e)
    where
      -- the search found an entry, for what refused does not answer
      by : (outcome : Outcome R ℕ) → run memory search ≡ outcome → and_then outcome (λ entry. run memory (after entry)) ≡ ok answer → From answer
      by (ok entry) found e = record { entry = entry; found = found; is = cc (always entry) }
      by (refused refusal) found e = impossible (cc)

  -- a refusal comes from the search
  pub refusal_from : {refusal : R} → run memory (search >>= after) ≡ refused refusal → run memory search ≡ refused refusal
  refusal_from {refusal} e = by (run memory search) refl (sym (run_then memory search after) ∙ e)
    where
      -- the search refused, for what found an entry answers
      by : (outcome : Outcome R ℕ) → run memory search ≡ outcome → and_then outcome (λ entry. run memory (after entry)) ≡ refused refusal
          → outcome ≡ refused refusal
      by (ok entry) found e = impossible (cc (always entry))
      by (refused other) found e = cc

-- ---- the look_up of one cell by an end

-- what it tells that a look_up answers: by the first of `count` entries whose end is at least `position`, and with the ends up to that read
pub record Answered {R Q : Type 0} (memory : Q → ℕ) (look_up : Rule R Q ℕ) (end value : ℕ → Q) (count position answer : ℕ) : Type 0 where
  pub entry : ℕ
  pub reached : ReachedAt memory end count position entry
  pub is : memory (value entry) ≡ answer
  pub read : reads memory look_up ≡ values end (suc entry) 0 ++ (value entry ∷ [])

-- what it tells that a look_up refuses: every end is below `position`, and they are all read
pub record Unanswered {R Q : Type 0} (memory : Q → ℕ) (look_up : Rule R Q ℕ) (missing : R) (end : ℕ → Q) (count position : ℕ) (refusal : R) : Type 0 where
  pub named : refusal ≡ missing
  pub none : NoneServes memory end count position
  pub read : reads memory look_up ≡ values end count 0

module _ {R Q : Type 0} (memory : Q → ℕ) (missing : R) (end value : ℕ → Q) (count position : ℕ) where
  -- the first entry whose end is at least `position`, and then one of its cells
  abbrev cell_at : Rule R Q ℕ
  cell_at = do
    entry ← serving_entry missing end count position
    get (value entry)

  -- an answer is that of the entry that serves the position
  cell_answered : {answer : ℕ} → run memory cell_at ≡ ok answer → Answered memory cell_at end value count position answer
  cell_answered e =
      let from = answer_from memory (serving_entry missing end count position) _ (λ entry. memory (value entry)) (λ entry. refl) e in
      record {
        entry = from.entry;
        reached = whole_tells memory missing end count position from.found;
        is = from.is;
        read =
            reads_ok memory (serving_entry missing end count position) _ from.found
            ∙ ap (λ (cells : List Q). cells ++ (value from.entry ∷ [])) (whole_reads memory missing end count position from.found);
      }

  -- a refusal means that no entry serves the position
  cell_unanswered : {refusal : R} → run memory cell_at ≡ refused refusal → Unanswered memory cell_at missing end count position refusal
  cell_unanswered e =
      let none = refusal_from memory (serving_entry missing end count position) _ (λ entry. memory (value entry)) (λ entry. refl) e in
      record {
        named = none_named memory missing end count position none;
        none = none_tells memory missing end count position none;
        read =
            reads_refused memory (serving_entry missing end count position) _ none
            ∙ none_reads memory missing end count position none;
      }

-- ---- line tables

module _ (memory : TableCell → ℕ) (table_bytes y : ℕ) where
  -- the frame entry found says where the line table starts
  pub table_of_entry : {entry : ℕ} → run memory (frame_of table_bytes y) ≡ ok entry → run memory (line_table_of table_bytes y) ≡ ok (memory (line_table entry))
  unfolding line_table_of
  table_of_entry found = run_ok memory (frame_of table_bytes y) _ found

  -- where no frame entry serves the line, the line table is refused by the same refusal
  pub table_of_none : {refusal : Numbered} → run memory (frame_of table_bytes y) ≡ refused refusal → run memory (line_table_of table_bytes y) ≡ refused refusal
  unfolding line_table_of
  table_of_none none = run_refused memory (frame_of table_bytes y) _ none

  -- a line that has a line table has it by the frame entry that serves it, and has read the ends up to that and where it says
  pub table_answered : {byte : ℕ} → run memory (line_table_of table_bytes y) ≡ ok byte
      → Answered memory (line_table_of table_bytes y) yend line_table (frame_entries table_bytes) y byte
  unfolding line_table_of
  table_answered e = cell_answered memory (numbered (NoFrameEntry y)) yend line_table (frame_entries table_bytes) y e

  -- a line that has no line table is served by no frame entry, and has read every end
  pub table_unanswered : {refusal : Numbered} → run memory (line_table_of table_bytes y) ≡ refused refusal
      → Unanswered memory (line_table_of table_bytes y) (numbered (NoFrameEntry y)) yend (frame_entries table_bytes) y refusal
  unfolding line_table_of
  table_unanswered e = cell_unanswered memory (numbered (NoFrameEntry y)) yend line_table (frame_entries table_bytes) y e

-- ---- IDs

module _ (memory : TableCell → ℕ) (table_bytes start x : ℕ) where
  -- the line entry found says the ID
  pub id_of_entry : {entry : ℕ} → run memory (line_entry_of table_bytes start x) ≡ ok entry → run memory (id_of table_bytes start x) ≡ ok (memory (id_cell start entry))
  unfolding id_of
  id_of_entry found = run_ok memory (line_entry_of table_bytes start x) _ found

  -- where no line entry serves the pixel, its ID is refused by the same refusal
  pub id_of_none : {refusal : Numbered} → run memory (line_entry_of table_bytes start x) ≡ refused refusal → run memory (id_of table_bytes start x) ≡ refused refusal
  unfolding id_of
  id_of_none none = run_refused memory (line_entry_of table_bytes start x) _ none

  -- a pixel that has an ID has it by the line entry that serves it, and has read the ends up to that and its ID
  pub id_answered : {id : ℕ} → run memory (id_of table_bytes start x) ≡ ok id
      → Answered memory (id_of table_bytes start x) (end_of start) (id_cell start) (line_entries table_bytes start) x id
  unfolding id_of
  id_answered e = cell_answered memory (numbered (NoLineEntry x)) (end_of start) (id_cell start) (line_entries table_bytes start) x e

  -- a pixel that has no ID is served by no line entry, and has read every end
  pub id_unanswered : {refusal : Numbered} → run memory (id_of table_bytes start x) ≡ refused refusal
      → Unanswered memory (id_of table_bytes start x) (numbered (NoLineEntry x)) (end_of start) (line_entries table_bytes start) x refusal
  unfolding id_of
  id_unanswered e = cell_unanswered memory (numbered (NoLineEntry x)) (end_of start) (id_cell start) (line_entries table_bytes start) x e
