-- Table and window entries that a line reads, as the paper lists them, by how far its searches go and how many pixels it meets; which entry serves is said in the paper's own words and numbers, without the rule of a line.
use Rattle.std.specs.Prelude.{ℕ, suc, ◌+◌, ◌*◌, ◌/◌, ◌≤◌, ◌<◌, ◌≡◌, true, false, Some}
use Rattle.line_colour.specs.Entry.{decoded}
use Rattle.line_colour.specs.declared.entry.WindowEntry.{WindowEntry}
use Rattle.line_windows.specs.Table.{TableCell, yend, line_table, xend, window_id, table_view}
use Rattle.line_setup.specs.declared.setup.Setup.{Setup}
use Rattle.line.specs.Cells.{window_entry, Lent, view}
use Rattle.line_reads.specs.Reach.{Search, to_the_one_found, through_all}

module _ (setup : Setup) (lent : Lent) where
  -- what the fields of the table hold
  abbrev table_fields : TableCell → ℕ
  table_fields = table_view lent.table

  -- ---- which entry serves

  -- a frame entry of the table: 4 bytes, whole ones alone and 2,048 at most; where window IDs are off there is none (CHIP 4.3)
  pub record WholeFrameEntry (number : ℕ) : Type 0 where
    pub on : setup.controls.ids ≡ true
    pub at_most : number < 2048
    pub in_table : 4 * number + 4 ≤ setup.lengths.table

  -- the line's frame entry: the first with yend ≥ y (CHIP 4.4)
  pub record FrameEntry (entry : ℕ) : Type 0 where
    pub whole : WholeFrameEntry entry
    pub reaches : setup.y ≤ table_fields (yend entry)
    pub earlier : (i : ℕ) → i < entry → table_fields (yend i) < setup.y

  -- the byte at which the line's table starts: that frame entry's 512·block + 2·offset (CHIP 4.5)
  pub record StartsAt (start : ℕ) : Type 0 where
    pub frame : ℕ
    pub found : FrameEntry frame
    pub is : start ≡ table_fields (line_table frame)

  -- an entry of the line table that starts at a byte: 2 bytes, whole ones alone, before its 512-byte block or the table ends (CHIP 4.5, 4.6)
  pub record WholeLineEntry (start number : ℕ) : Type 0 where
    pub in_block : start + 2 * number + 2 ≤ 512 * (start / 512) + 512
    pub in_table : start + 2 * number + 2 ≤ setup.lengths.table

  -- the line entry of pixel x: the first with xend ≥ x (CHIP 4.7)
  pub record LineEntry (start x entry : ℕ) : Type 0 where
    pub whole : WholeLineEntry start entry
    pub reaches : x ≤ table_fields (xend (start + 2 * entry))
    pub earlier : (i : ℕ) → i < entry → table_fields (xend (start + 2 * i)) < x

  -- pixel x has this ID: 0 where window IDs are off, else that of its line entry (CHIP 4.1, 4.7)
  pub data HasId (x id : ℕ) : Type 0 where
    ids_off : setup.controls.ids ≡ false → id ≡ 0 → HasId x id
    ids_on : (start : ℕ) → StartsAt start → (entry : ℕ) → LineEntry start x entry → id ≡ table_fields (window_id (start + 2 * entry)) → HasId x id

  -- pixel x has this window entry: it is that of the pixel's ID, and it is defined at the depth (CHIP 5.4)
  pub record HasEntry (x : ℕ) (entry : WindowEntry) : Type 0 where
    pub id : ℕ
    pub has : HasId x id
    pub says : decoded (view lent (window_entry id)) setup.controls.depth ≡ Some entry

  -- ---- frame entries

  -- a frame entry up to the one found; one before it counts by its end alone (CHIP 7.1)
  pub record UpToFrameEntry (number : ℕ) : Type 0 where
    pub entry : ℕ
    pub found : FrameEntry entry
    pub up_to : number ≤ entry

  -- ends of frame entries, as far as they are searched (CHIP 7.1)
  abbrev pub FrameListed : Search → ℕ → Type 0
  FrameListed to_the_one_found number = UpToFrameEntry number
  FrameListed through_all number = WholeFrameEntry number

  -- ---- line entries

  -- of `met` pixels, a line entry up to the last one's (CHIP 7.1)
  pub record UpToLastEntry (met start number : ℕ) : Type 0 where
    pub last : ℕ
    pub is_last : met ≡ suc last
    pub entry : ℕ
    pub found : LineEntry start last entry
    pub up_to : number ≤ entry

  -- line entries, as far as they are searched for `met` pixels or for the one behind these (CHIP 7.1)
  abbrev pub Searched : Search → ℕ → ℕ → ℕ → Type 0
  Searched to_the_one_found met start number = UpToLastEntry met start number
  Searched through_all met start number = WholeLineEntry start number

  -- ends of line entries, as far as they are searched (CHIP 7.1)
  pub record LineListed (lines : Search) (met byte : ℕ) : Type 0 where
    pub start : ℕ
    pub starts : StartsAt start
    pub number : ℕ
    pub searched : Searched lines met start number
    pub stands : byte ≡ start + 2 * number

  -- of `met` pixels, the ID in the line entry of each (CHIP 7.1)
  pub record IdListed (met byte : ℕ) : Type 0 where
    pub start : ℕ
    pub starts : StartsAt start
    pub pixel : ℕ
    pub is_met : pixel < met
    pub entry : ℕ
    pub found : LineEntry start pixel entry
    pub stands : byte ≡ start + 2 * entry

  -- ---- window entries

  -- of `met` pixels, covered or not, the window entry of each ID met (CHIP 7.1)
  pub record WindowListed (met id : ℕ) : Type 0 where
    pub pixel : ℕ
    pub is_met : pixel < met
    pub has : HasId pixel id
