-- The IDs of pixels, carried on from entry to entry: one look-up serves every pixel up to an entry's last. Assumes nothing.
use Prim.Native.Nat.{ℕ, ◌+◌, ◌≤◌}
use mathlib.Core.Path.{◌≡◌, refl}
use native.Mathlib.Omega.{arith}
use Rattle.rules.specs.Rule.{ok, refused, run}
use Rattle.rules.specs.Faults.{Numbered}
use Rattle.rules.proofs.Then.{run_ok, run_refused}
use Rattle.refusals.specs.Refusal.{numbered}
use Rattle.refusals.specs.declared.Refusal.TheVariants.{NoLineEntry}
use Rattle.line_windows.specs.Table.{TableCell}
use Rattle.line_windows.specs.Ids.{line_entries, end_of, id_cell, line_entry_from, id_of}
use Rattle.line_windows.specs.Carried.{found_from}
use Rattle.line_windows.specs.Inner.{PassedIds}
use Rattle.line_windows.specs.declared.ids.FoundId.{FoundId}
use Rattle.line_windows.proofs.Search.{Reached, found_tells}
use Rattle.line_windows.proofs.Whole.{whole_finds, same_entry, reached_whole, reached_passed, missing_whole}
use Rattle.line_windows.proofs.Answers.{answer_from, refusal_from, id_of_entry, id_of_none}

-- a look-up may go on from entry 0 at any pixel: no entry stands before it
pub passed_start : (memory : TableCell → ℕ) (start x : ℕ) → PassedIds memory start 0 x
passed_start memory start x = record { passed = record { short = λ entry before. absurd (omega arith) } }

-- what an entry serves: its ID, its last pixel, and the entry to go on from
abbrev pub served_by : (TableCell → ℕ) → ℕ → ℕ → FoundId
served_by memory start entry = record { id = memory (id_cell start entry); last = memory (end_of start entry); next = entry + 1 }

-- what is found for pixel x serves: it is the ID of each pixel from x up to the last, and past that the look-up may go on from the next entry
pub record Serves (memory : TableCell → ℕ) (table_bytes start x : ℕ) (found : FoundId) : Type 0 where
  pub reaches : x ≤ found.last
  pub ids : (p : ℕ) → x ≤ p → p ≤ found.last → run memory (id_of table_bytes start p) ≡ ok found.id
  pub passed : PassedIds memory start found.next (found.last + 1)

module _ (memory : TableCell → ℕ) (table_bytes start from x : ℕ) where
  -- the line entry found says what it serves
  pub found_of_entry : {entry : ℕ} → run memory (line_entry_from table_bytes start from x) ≡ ok entry
      → run memory (found_from table_bytes start from x) ≡ ok (served_by memory start entry)
  unfolding found_from
  found_of_entry found = run_ok memory (line_entry_from table_bytes start from x) _ found

  -- where no line entry serves the pixel, the look-up refuses by the same refusal
  pub found_of_none : {refusal : Numbered} → run memory (line_entry_from table_bytes start from x) ≡ refused refusal
      → run memory (found_from table_bytes start from x) ≡ refused refusal
  unfolding found_from
  found_of_none none = run_refused memory (line_entry_from table_bytes start from x) _ none

  module _ (passed : PassedIds memory start from x) where
    -- the entry that the search finds serves each pixel from x up to its end
    serves_entry : {entry : ℕ} → Reached memory (end_of start) (line_entries table_bytes start) from x entry → Serves memory table_bytes start x (served_by memory start entry)
    serves_entry here = record {
      reaches = here.reaches;
      ids = λ p low high.
          id_of_entry memory table_bytes start p
          (whole_finds memory (numbered (NoLineEntry p)) (end_of start) (line_entries table_bytes start) p (same_entry (reached_whole passed.passed here) low high));
      passed = record { passed = reached_passed passed.passed here };
    }

    -- where a look-up may go on from `from`, what it finds serves each pixel from x up to its last
    pub found_serves : {found : FoundId} → run memory (found_from table_bytes start from x) ≡ ok found → Serves memory table_bytes start x found
    unfolding found_from
    found_serves e =
        let at = answer_from memory (line_entry_from table_bytes start from x) _ (served_by memory start) (λ entry. refl) e in
        rw (← at.is) (serves_entry (found_tells memory (numbered (NoLineEntry x)) (end_of start) (line_entries table_bytes start) from x at.found))

    -- where a look-up may go on from `from`, it refuses as the pixel itself is refused
    pub refused_serves : {refusal : Numbered} → run memory (found_from table_bytes start from x) ≡ refused refusal → run memory (id_of table_bytes start x) ≡ refused refusal
    unfolding found_from
    refused_serves e =
        let none = refusal_from memory (line_entry_from table_bytes start from x) _ (served_by memory start) (λ entry. refl) e in
        id_of_none memory table_bytes start x (missing_whole passed.passed (numbered (NoLineEntry x)) (line_entries table_bytes start) none)
