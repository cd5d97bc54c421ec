-- The rule of a line: what it is refused for, each pixel's window entry, and then the colours.
use Rattle.std.specs.Prelude.{ℕ, cond, List, Option, Some, None}
use Rattle.rules.specs.Rule.{Rule, done, stop, get, ◌>>=◌, within, Outcome, run}
use Rattle.rules.specs.Each.{each, each_of}
use Rattle.rules.specs.Faults.{Numbered}
use Rattle.rules.specs.Checked.{checked}
use Rattle.refusals.specs.Refusal.{numbered}
use Rattle.refusals.specs.declared.Refusal.TheVariants.{UndefinedEntry}
use Rattle.line_colour.specs.Entry.{decoded}
use Rattle.line_colour.specs.declared.entry.WindowEntry.{WindowEntry}
use Rattle.line_windows.specs.Table.{TableCell}
use Rattle.line_windows.specs.Frame.{line_table_of}
use Rattle.line_windows.specs.Ids.{id_of}
use Rattle.line_pixels.specs.Cells.{PixelCell}
use Rattle.line_pixels.specs.Colour.{colour_of_pixel}
use Rattle.line_setup.specs.Faults.{line_faults}
use Rattle.line_setup.specs.declared.controls.Controls.{Controls}
use Rattle.line_setup.specs.declared.setup.Setup.{Setup}
use Rattle.line.specs.Screen.{screen_in}
use Rattle.line.specs.Cells.{Cell, of_table, window_entry, of_colour, Lent, view}

-- ---- the first pass: window entries

-- a rule over the table, as one of the line
abbrev pub in_table : {A : Type 0} → Rule Numbered TableCell A → Rule Numbered Cell A
in_table = within (λ refusal. refusal) of_table

-- where the line's table starts; where window IDs are off 0, which `id_at` then doesn't look at (CHIP 4.1)
unfoldable pub start_of : Controls → ℕ → ℕ → Rule Numbered Cell ℕ
start_of controls table_bytes y = cond controls.ids (in_table (line_table_of table_bytes y)) (done 0)

-- a pixel's ID; with window IDs off all pixels are window 0's (CHIP 4.1)
unfoldable pub id_at : Controls → ℕ → ℕ → ℕ → Rule Numbered Cell ℕ
id_at controls table_bytes start x = cond controls.ids (in_table (id_of table_bytes start x)) (done 0)

-- what a window entry says, or 9 where it is undefined (CHIP 8.1)
abbrev pub defined_at : ℕ → Option WindowEntry → Rule Numbered Cell WindowEntry
defined_at x (Some entry) = done entry
defined_at x None = stop (numbered (UndefinedEntry x))

-- a pixel's window entry, whatever covers the pixel: 8 where no line entry serves it, else 9 where its window entry is undefined (CHIP 7.1, 8.1, 8.2)
unfoldable pub window_entry_at : Controls → ℕ → ℕ → ℕ → Rule Numbered Cell WindowEntry
window_entry_at controls table_bytes start x = do
  id ← id_at controls table_bytes start x
  word ← get (window_entry id)
  defined_at x (decoded word controls.depth)

-- every pixel's, left to right, or the first fault (CHIP 8.2)
unfoldable pub entries_of : Setup → Rule Numbered Cell (List WindowEntry)
entries_of setup = do
  start ← start_of setup.controls setup.lengths.table setup.y
  each (window_entry_at setup.controls setup.lengths.table start) setup.controls.width 0

-- ---- the second pass: colours, which nothing refuses

-- the colour of a pixel, as a rule of the line
abbrev pub in_colours : Rule ⊥ PixelCell ℕ → Rule Numbered Cell ℕ
in_colours = within (λ refusal. absurd refusal) of_colour

-- the colours of pixels with these window entries (CHIP 6.1)
unfoldable pub colours_of : Setup → List WindowEntry → Rule Numbered Cell (List ℕ)
colours_of setup entries = each_of (λ entry x. in_colours (colour_of_pixel (screen_in setup) entry x)) entries 0

-- ---- the line

-- every colour of a line, or what it is refused for (CHIP 7.3, 8.1)
unfoldable pub line_rule : Setup → Rule Numbered Cell (List ℕ)
line_rule setup = do
  fine ← checked (line_faults setup)
  entries ← entries_of setup
  colours_of setup entries

-- what comes of the rule over what is lent: the colours, or the refusal (CHIP 8.1)
unfoldable pub line_of : Setup → Lent → Outcome Numbered (List ℕ)
line_of setup lent = run (view lent) (line_rule setup)
