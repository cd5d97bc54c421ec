-- What a line reads in the paper's own units: whole frame entries and whole line entries, as far as they are searched. Of an entry that a search passes over only its end is read, so this list is the longer one.
use Rattle.std.specs.Prelude.{◌≡◌}
use Rattle.line_windows.specs.Table.{yend, line_table, xend, window_id}
use Rattle.line_setup.specs.declared.setup.Setup.{Setup}
use Rattle.line.specs.Cells.{Cell, of_table, window_entry, of_colour, Lent, view}
use Rattle.line.specs.Line.{line_of}
use Rattle.line_reads.specs.Reach.{Reach}
use Rattle.line_reads.specs.TableList.{FrameListed, LineListed, WindowListed}
use Rattle.line_reads.specs.Listed.{ColoursListed, AsFarAs}

module _ (setup : Setup) (lent : Lent) where
  -- every frame entry and line entry that is searched, with both its fields; for each ID met the 13 bits of its window entry, whatever covers the pixel; and where there are colours, their cells (CHIP 7.1)
  abbrev pub PaperTo : Reach → Cell → Type 0
  PaperTo reach (of_table (yend number)) = FrameListed setup lent reach.frames number
  PaperTo reach (of_table (line_table number)) = FrameListed setup lent reach.frames number
  PaperTo reach (of_table (xend byte)) = LineListed setup lent reach.lines reach.met byte
  PaperTo reach (of_table (window_id byte)) = LineListed setup lent reach.lines reach.met byte
  PaperTo reach (window_entry id) = WindowListed setup lent reach.met id
  PaperTo reach (of_colour cell) = ColoursListed setup lent reach.coloured cell

  -- the cells on the paper's list, as far as the line gets (CHIP 7.1)
  abbrev pub PaperListed : Cell → Type 0
  PaperListed cell = AsFarAs setup.controls.width PaperTo (line_of setup lent) cell

-- two lents agree on the paper's list for the line of the first (CHIP 7.3)
abbrev pub AgreeOnPaper : Setup → Lent → Lent → Type 0
AgreeOnPaper setup lent other = (cell : Cell) → PaperListed setup lent cell → view lent cell ≡ view other cell
