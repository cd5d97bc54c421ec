-- What a line is refused for, in the paper's order: 11, 10, 6 and 5 by what it goes by alone, 7, and then left to right 8 before 9.
use Rattle.std.specs.Prelude.{ℕ, ◌+◌, ◌*◌, ◌<◌, ◌≡◌, true, None}
use Rattle.rules.specs.Faults.{Numbered, Clear, First}
use Rattle.refusals.specs.Refusal.{numbered}
use Rattle.refusals.specs.declared.Refusal.TheVariants.{NoFrameEntry, NoLineEntry, UndefinedEntry}
use Rattle.line_colour.specs.Entry.{decoded}
use Rattle.line_colour.specs.declared.entry.WindowEntry.{WindowEntry}
use Rattle.line_windows.specs.Table.{yend, xend, table_view}
use Rattle.line_setup.specs.Faults.{line_faults}
use Rattle.line_setup.specs.declared.setup.Setup.{Setup}
use Rattle.line.specs.Cells.{window_entry, Lent, view}
use Rattle.line_reads.specs.TableList.{WholeFrameEntry, StartsAt, WholeLineEntry, HasId, HasEntry}

module _ (setup : Setup) (lent : Lent) where
  -- 7: window IDs are on, and every frame entry ends before the line (CHIP 8.1)
  pub record NoFrameServes : Type 0 where
    pub on : setup.controls.ids ≡ true
    pub none : (number : ℕ) → WholeFrameEntry setup lent number → table_view lent.table (yend number) < setup.y

  -- 8 at x: window IDs are on, the line has a table, and every entry of that ends before x (CHIP 8.1)
  pub record NoLineEntryServes (x : ℕ) : Type 0 where
    pub start : ℕ
    pub starts : StartsAt setup lent start
    pub none : (number : ℕ) → WholeLineEntry setup lent start number → table_view lent.table (xend (start + 2 * number)) < x

  -- 9 at x: the pixel has an ID, which is 0 where window IDs are off, and the ID's window entry is undefined at the depth (CHIP 8.1)
  pub record UndefinedAt (x : ℕ) : Type 0 where
    pub id : ℕ
    pub has : HasId setup lent x id
    pub says : decoded (view lent (window_entry id)) setup.controls.depth ≡ None

  -- a line that comes to pixel x: the pixel is active, and each one before it has a window entry that is defined (CHIP 8.2)
  pub record ComesTo (x : ℕ) : Type 0 where
    pub active : x < setup.controls.width
    pub earlier : (i : ℕ) → i < x → (entry : WindowEntry) × HasEntry setup lent i entry

  -- what a line is refused for: the first fault of those that need nothing read, or where there is none of them, 7, or 8 or 9 at the pixel that it comes to (CHIP 8.1)
  pub data Reason (refusal : Numbered) : Type 0 where
    at_once : First (line_faults setup) refusal → Reason refusal
    is_no_frame_entry : Clear (line_faults setup) → NoFrameServes → refusal ≡ numbered (NoFrameEntry setup.y) → Reason refusal
    is_no_line_entry : Clear (line_faults setup) → (x : ℕ) → ComesTo x → NoLineEntryServes x → refusal ≡ numbered (NoLineEntry x) → Reason refusal
    is_undefined_entry : Clear (line_faults setup) → (x : ℕ) → ComesTo x → UndefinedAt x → refusal ≡ numbered (UndefinedEntry x) → Reason refusal
