-- Which entries belong to a table, and which one gives a line its line table and a pixel its ID, in numbers of bytes. Assumes nothing.
use Prim.Native.Nat.{ℕ, ◌+◌, ◌*◌, ◌/◌, ◌≤◌, ◌<◌}
use mathlib.Core.Path.{◌≡◌}
use mathlib.Core.List.{[], ◌∷◌}
use native.Mathlib.Omega.{arith}
use Rattle.rules.specs.Rule.{ok, refused, run}
use Rattle.rules.specs.Faults.{Numbered}
use Rattle.refusals.specs.Refusal.{numbered}
use Rattle.refusals.specs.declared.Refusal.TheVariants.{NoFrameEntry, NoLineEntry}
use Rattle.line_windows.specs.Table.{TableCell, yend, line_table, xend, window_id}
use Rattle.line_windows.specs.Frame.{frame_entries, line_table_of}
use Rattle.line_windows.specs.Ids.{line_entries, end_of, id_of}
use Rattle.line_windows.specs.Carried.{found_from}
use Rattle.line_windows.specs.declared.ids.FoundId.{FoundId}
use Rattle.line_windows.proofs.Whole.{whole_finds, whole_misses}
use Rattle.line_windows.proofs.Answers.{table_of_entry, table_of_none, table_answered, table_unanswered, id_of_entry, id_of_none, id_answered, id_unanswered}
use Rattle.line_windows.proofs.Pixels.{passed_start, found_serves, refused_serves}

-- ---- which entries there are

-- a frame entry belongs to a table: its four bytes are there, and it is one of the first 2,048
pub record InFrame (table_bytes number : ℕ) : Type 0 where
  pub whole : 4 * number + 3 < table_bytes
  pub counts : number < 2048

-- an entry belongs to the line table that starts at a byte: its two bytes are there, and the second is in the 512-byte block of the first byte of the table
pub record InLine (table_bytes start number : ℕ) : Type 0 where
  pub whole : start + 2 * number + 1 < table_bytes
  pub in_block : (start + 2 * number + 1) / 512 ≡ start / 512

module _ (table_bytes number : ℕ) where
  -- the frame entries that count belong to the table
  pub frame_counted_belongs : number < frame_entries table_bytes → InFrame table_bytes number
  frame_counted_belongs h = record { whole = omega arith; counts = omega arith }

  -- the frame entries that belong to the table count
  pub frame_belongs_counted : InFrame table_bytes number → number < frame_entries table_bytes
  frame_belongs_counted here = omega arith

module _ (table_bytes start number : ℕ) where
  -- the line entries that count belong to the line table
  pub line_counted_belongs : number < line_entries table_bytes start → InLine table_bytes start number
  line_counted_belongs h = record { whole = omega arith; in_block = omega arith }

  -- the line entries that belong to the line table count
  pub line_belongs_counted : InLine table_bytes start number → number < line_entries table_bytes start
  line_belongs_counted here = omega arith

-- ---- which line table a line uses

-- the line table of line y starts at this byte: of the frame entries that belong to the table the first that ends at the line or later says so
pub record TableBy (memory : TableCell → ℕ) (table_bytes y byte : ℕ) : Type 0 where
  pub entry : ℕ
  pub belongs : InFrame table_bytes entry
  pub reaches : y ≤ memory (yend entry)
  pub earlier : (number : ℕ) → number < entry → memory (yend number) < y
  pub says : memory (line_table entry) ≡ byte

-- every frame entry that belongs to the table ends before line y
pub record NoTable (memory : TableCell → ℕ) (table_bytes y : ℕ) : Type 0 where
  pub ends : (number : ℕ) → InFrame table_bytes number → memory (yend number) < y

module _ (memory : TableCell → ℕ) (table_bytes y : ℕ) where
  -- a line table that is found is the one that the first frame entry with yend ≥ y says
  pub table_found_by : {byte : ℕ} → run memory (line_table_of table_bytes y) ≡ ok byte → TableBy memory table_bytes y byte
  table_found_by e =
      let found = table_answered memory table_bytes y e in
      record {
        entry = found.entry;
        belongs = frame_counted_belongs table_bytes found.entry found.reached.below;
        reaches = found.reached.reaches;
        earlier = λ number before. found.reached.earlier.short number before;
        says = found.is;
      }

  -- the line table that the first frame entry with yend ≥ y says is found
  pub table_by_found : {byte : ℕ} → TableBy memory table_bytes y byte → run memory (line_table_of table_bytes y) ≡ ok byte
  table_by_found {byte} here =
      rw (← here.says)
      (table_of_entry memory table_bytes y
      (whole_finds memory (numbered (NoFrameEntry y)) yend (frame_entries table_bytes) y
      (record {
        below = frame_belongs_counted table_bytes here.entry here.belongs;
        reaches = here.reaches;
        earlier = record { short = λ number before. here.earlier number before };
      })))

  -- a line is refused by 7 at its number, and only where no frame entry serves it
  pub table_refused_by : {refusal : Numbered} → run memory (line_table_of table_bytes y) ≡ refused refusal
      → (refusal ≡ record { number = 7; values = y ∷ [] }) × NoTable memory table_bytes y
  table_refused_by e =
      let none = table_unanswered memory table_bytes y e in
      (none.named, record { ends = λ number here. none.none.short number (frame_belongs_counted table_bytes number here) })

  -- where no frame entry serves a line, it is refused by 7 at its number
  pub no_table_refused : NoTable memory table_bytes y → run memory (line_table_of table_bytes y) ≡ refused (record { number = 7; values = y ∷ [] })
  no_table_refused none =
      table_of_none memory table_bytes y
      (whole_misses memory (numbered (NoFrameEntry y)) yend (frame_entries table_bytes) y
      (record { short = λ number before. none.ends number (frame_counted_belongs table_bytes number before) }))

-- ---- which ID a pixel has

-- pixel x has this ID: of the entries that belong to the line table the first that ends at the pixel or later says so
pub record IdBy (memory : TableCell → ℕ) (table_bytes start x id : ℕ) : Type 0 where
  pub entry : ℕ
  pub belongs : InLine table_bytes start entry
  pub reaches : x ≤ memory (xend (start + 2 * entry))
  pub earlier : (number : ℕ) → number < entry → memory (xend (start + 2 * number)) < x
  pub says : memory (window_id (start + 2 * entry)) ≡ id

-- every entry that belongs to the line table ends before pixel x
pub record NoId (memory : TableCell → ℕ) (table_bytes start x : ℕ) : Type 0 where
  pub ends : (number : ℕ) → InLine table_bytes start number → memory (xend (start + 2 * number)) < x

module _ (memory : TableCell → ℕ) (table_bytes start x : ℕ) where
  -- an ID that is found is the one that the first line entry with xend ≥ x says
  pub id_found_by : {id : ℕ} → run memory (id_of table_bytes start x) ≡ ok id → IdBy memory table_bytes start x id
  id_found_by e =
      let found = id_answered memory table_bytes start x e in
      record {
        entry = found.entry;
        belongs = line_counted_belongs table_bytes start found.entry found.reached.below;
        reaches = found.reached.reaches;
        earlier = λ number before. found.reached.earlier.short number before;
        says = found.is;
      }

  -- the ID that the first line entry with xend ≥ x says is found
  pub id_by_found : {id : ℕ} → IdBy memory table_bytes start x id → run memory (id_of table_bytes start x) ≡ ok id
  id_by_found here =
      rw (← here.says)
      (id_of_entry memory table_bytes start x
      (whole_finds memory (numbered (NoLineEntry x)) (end_of start) (line_entries table_bytes start) x
      (record {
        below = line_belongs_counted table_bytes start here.entry here.belongs;
        reaches = here.reaches;
        earlier = record { short = λ number before. here.earlier number before };
      })))

  -- a pixel is refused by 8 at its place in the line, and only where no line entry serves it
  pub id_refused_by : {refusal : Numbered} → run memory (id_of table_bytes start x) ≡ refused refusal
      → (refusal ≡ record { number = 8; values = x ∷ [] }) × NoId memory table_bytes start x
  id_refused_by e =
      let none = id_unanswered memory table_bytes start x e in
      (none.named, record { ends = λ number here. none.none.short number (line_belongs_counted table_bytes start number here) })

  -- where no line entry serves a pixel, it is refused by 8 at its place in the line
  pub no_id_refused : NoId memory table_bytes start x → run memory (id_of table_bytes start x) ≡ refused (record { number = 8; values = x ∷ [] })
  no_id_refused none =
      id_of_none memory table_bytes start x
      (whole_misses memory (numbered (NoLineEntry x)) (end_of start) (line_entries table_bytes start) x
      (record { short = λ number before. none.ends number (line_counted_belongs table_bytes start number before) }))

  -- a look-up from the first entry on finds that ID
  pub look_up_found_by : {found : FoundId} → run memory (found_from table_bytes start 0 x) ≡ ok found → IdBy memory table_bytes start x found.id
  look_up_found_by e =
      let serves = found_serves memory table_bytes start 0 x (passed_start memory start x) e in
      id_found_by (serves.ids x (omega arith) serves.reaches)

  -- a look-up from the first entry on refuses as the pixel is refused
  pub look_up_refused_by : {refusal : Numbered} → run memory (found_from table_bytes start 0 x) ≡ refused refusal
      → (refusal ≡ record { number = 8; values = x ∷ [] }) × NoId memory table_bytes start x
  look_up_refused_by e = id_refused_by (refused_serves memory table_bytes start 0 x (passed_start memory start x) e)
