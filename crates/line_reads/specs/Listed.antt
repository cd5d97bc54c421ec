-- What a line reads, as the paper lists it: besides state, line number and lengths, these cells.
use Rattle.std.specs.Prelude.{ℕ, ◌<◌, ◌≡◌, Bool, true, false, List}
use Rattle.rules.specs.Rule.{Outcome, ok, refused}
use Rattle.rules.specs.Faults.{Numbered, place_in}
use Rattle.line_colour.specs.declared.entry.WindowEntry.{WindowEntry}
use Rattle.line_windows.specs.Table.{yend, line_table, xend, window_id}
use Rattle.line_pixels.specs.Cells.{PixelCell}
use Rattle.line_setup.specs.declared.setup.Setup.{Setup}
use Rattle.line.specs.Screen.{screen_in}
use Rattle.line.specs.Cells.{Cell, of_table, window_entry, of_colour, Lent, view}
use Rattle.line.specs.Line.{line_of}
use Rattle.line_reads.specs.Reach.{Reach, drawn_whole, no_frame_entry, no_line_entry, undefined_entry}
use Rattle.line_reads.specs.TableList.{FrameEntry, HasEntry, FrameListed, LineListed, IdListed, WindowListed}
use Rattle.line_reads.specs.ColourList.{ColourListed}

-- ---- how far a line gets, of any list that goes by that

-- a line that is refused gets up to its fault, which the refusal's number and place tell: 7, 8 and 9; any other comes before anything is read (CHIP 7.2)
pub data UpToFault (To : Reach → Cell → Type 0) (refusal : Numbered) (cell : Cell) : Type 0 where
  of_7 : refusal.number ≡ 7 → To no_frame_entry cell → UpToFault To refusal cell
  of_8 : refusal.number ≡ 8 → To (no_line_entry (place_in refusal)) cell → UpToFault To refusal cell
  of_9 : refusal.number ≡ 9 → To (undefined_entry (place_in refusal)) cell → UpToFault To refusal cell

-- a line that is drawn gets to the end of its width, one that is refused up to its fault (CHIP 7.1, 7.2)
abbrev pub AsFarAs : ℕ → (Reach → Cell → Type 0) → Outcome Numbered (List ℕ) → Cell → Type 0
AsFarAs width To (ok colours) cell = To (drawn_whole width) cell
AsFarAs width To (refused refusal) cell = UpToFault To refusal cell

-- ---- the list

module _ (setup : Setup) (lent : Lent) where
  -- a cell of the colour of some active pixel (CHIP 7.1)
  pub record PixelListed (cell : PixelCell) : Type 0 where
    pub pixel : ℕ
    pub active : pixel < setup.controls.width
    pub entry : WindowEntry
    pub has : HasEntry setup lent pixel entry
    pub listed : ColourListed (λ (c : PixelCell). view lent (of_colour c)) (screen_in setup) entry pixel cell

  -- cells that colours come from, where there are colours (CHIP 7.1)
  abbrev pub ColoursListed : Bool → PixelCell → Type 0
  ColoursListed true cell = PixelListed cell
  ColoursListed false cell = ⊥

  -- the cells that a line reads that gets so far: of frame entries the ends that are searched, and of the one found where its line table starts; of line entries the ends that are searched, and of each pixel met its ID and the window entry of that; then the cells of colours (CHIP 7.1)
  abbrev pub ListedTo : Reach → Cell → Type 0
  ListedTo reach (of_table (yend number)) = FrameListed setup lent reach.frames number
  ListedTo reach (of_table (line_table number)) = FrameEntry setup lent number
  ListedTo reach (of_table (xend byte)) = LineListed setup lent reach.lines reach.met byte
  ListedTo reach (of_table (window_id byte)) = IdListed setup lent reach.met byte
  ListedTo reach (window_entry id) = WindowListed setup lent reach.met id
  ListedTo reach (of_colour cell) = ColoursListed reach.coloured cell

  -- so far as a refused line gets (CHIP 7.2)
  abbrev pub RefusedListed : Numbered → Cell → Type 0
  RefusedListed = UpToFault ListedTo

  -- by what comes of the line (CHIP 7.1, 7.2)
  abbrev pub ListedFor : Outcome Numbered (List ℕ) → Cell → Type 0
  ListedFor = AsFarAs setup.controls.width ListedTo

  -- the cells that the line reads (CHIP 7.1, 7.2)
  abbrev pub Listed : Cell → Type 0
  Listed cell = ListedFor (line_of setup lent) cell

-- two lents agree on the cells that are listed for the line of the first (CHIP 7.3)
abbrev pub AgreeOnList : Setup → Lent → Lent → Type 0
AgreeOnList setup lent other = (cell : Cell) → Listed setup lent cell → view lent cell ≡ view other cell
