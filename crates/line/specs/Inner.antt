-- What the functions inside ask and say.
use Rattle.std.specs.Prelude.{ℕ, ◌+◌, ◌≤◌, ◌<◌, ◌≡◌, true, List, Result, Ok, Err, ◌⊎◌, length}
use Rattle.rules.specs.Rule.{Outcome, ok, refused, run, value}
use Rattle.rules.specs.Lists.{filled}
use Rattle.rules.specs.Each.{each}
use Rattle.rules.specs.Faults.{Numbered}
use Rattle.rules.specs.Checked.{verdict}
use Rattle.refusals.specs.Refusal.{numbered}
use Rattle.refusals.specs.declared.Refusal.{Refusal}
use Rattle.line_colour.specs.declared.entry.WindowEntry.{WindowEntry}
use Rattle.chip_registers.specs.Store.{store_length}
use Rattle.line_windows.specs.Table.{table_view}
use Rattle.line_windows.specs.Inner.{PassedIds}
use Rattle.line_windows.specs.declared.ids.FoundId.{FoundId}
use Rattle.line_pixels.specs.Cells.{PixelCell, pixel_view}
use Rattle.line_pixels.specs.Colour.{colour_of_pixel}
use Rattle.line_pixels.specs.declared.Screen.{Screen}
use Rattle.line_setup.specs.Controls.{widest_line}
use Rattle.line_setup.specs.Faults.{normal_length, line_faults}
use Rattle.line_setup.specs.declared.controls.Controls.{Controls}
use Rattle.line_setup.specs.declared.setup.Setup.{Setup}
use Rattle.line.specs.Cells.{Cell, Lent, lent_of, view}
use Rattle.line.specs.Line.{start_of, id_at, window_entry_at}

-- the ranges of width and depth
pub record InRange (controls : Controls) : Type 0 where
  pub width_le : controls.width ≤ widest_line
  pub at_depth : (controls.depth ≡ 16) ⊎ (controls.depth ≡ 32)

-- the depth and the overlay switch that the pixels are drawn by are those of the control words
pub record FitsScreen (controls : Controls) (screen : Screen) : Type 0 where
  pub same_depth : screen.depth ≡ controls.depth
  pub same_overlay : screen.overlay ≡ controls.overlay

-- this holds over a store and a table, whatever the rows hold
abbrev pub Over : List ℕ → List ℕ → ((Cell → ℕ) → Type 0) → Type 0
Over store table Holds = (normal overlay : List ℕ) → Holds (view (lent_of store table normal overlay))

-- where window IDs are on, the look-up of pixel x may go on from a line entry
abbrev pub PassedAt : Controls → List ℕ → ℕ → ℕ → ℕ → Type 0
PassedAt controls table start from x = controls.ids ≡ true → PassedIds (table_view table) start from x

-- the look-up's answer for pixel x: an ID that all pixels to the last one have, past which it may go on, or the pixel's refusal
abbrev pub Served : Controls → List ℕ → ℕ → ℕ → Result FoundId Refusal → Type 0
Served controls table start x (Ok found) =
    (found.id < 32)
    × (x ≤ found.last)
    × PassedAt controls table start found.next (found.last + 1)
    × ((store : List ℕ) → Over store table (λ memory. (p : ℕ) → x ≤ p → p ≤ found.last → run memory (id_at controls (length table) start p) ≡ ok found.id))
Served controls table start x (Err refusal) =
    (store : List ℕ) → Over store table (λ memory. run memory (id_at controls (length table) start x) ≡ refused (numbered refusal))

-- the pixel behind a run whose line entry serves pixels up to `last`, in a line of so many
abbrev pub EndsRun : ℕ → ℕ → ℕ → Type 0
EndsRun width last end = (last < width → end ≡ last + 1) × (width ≤ last → end ≡ width)

-- every pixel has a defined window entry
abbrev pub Entries : Controls → List ℕ → List ℕ → ℕ → Type 0
Entries controls store table start =
    Over store table (λ memory. (p : ℕ) → p < controls.width → (entry : WindowEntry) × (run memory (window_entry_at controls (length table) start p) ≡ ok entry))

-- the first pass's answer: that, or the refusal of the first pixel that has none
abbrev pub EntriesAnswer : Controls → List ℕ → List ℕ → ℕ → Result (Unit {0}) Refusal → Type 0
EntriesAnswer controls store table start (Ok done) = Entries controls store table start
EntriesAnswer controls store table start (Err refusal) =
    Over store table (λ memory. run memory (each (window_entry_at controls (length table) start) controls.width 0) ≡ refused (numbered refusal))

-- where the line table starts, or the refusal
abbrev pub StartAnswer : Controls → List ℕ → ℕ → Result ℕ Refusal → Type 0
StartAnswer controls table y (Ok byte) =
    (store : List ℕ) → Over store table (λ memory. run memory (start_of controls (length table) y) ≡ ok byte)
StartAnswer controls table y (Err refusal) =
    (store : List ℕ) → Over store table (λ memory. run memory (start_of controls (length table) y) ≡ refused (numbered refusal))

-- a line that may be drawn, with the start of its line table
pub record Drawable (setup : Setup) (store table : List ℕ) (start : ℕ) : Type 0 where
  pub fit : verdict (line_faults setup) ≡ ok tt
  pub starts : Over store table (λ memory. run memory (start_of setup.controls (length table) setup.y) ≡ ok start)
  pub entries : Entries setup.controls store table start

-- the colour of a pixel, by what was found of its window entry
abbrev pub colour_by : (PixelCell → ℕ) → Screen → ℕ → Outcome Numbered WindowEntry → ℕ
colour_by memory screen x (ok entry) = value memory (colour_of_pixel screen entry x)
colour_by memory screen x (refused refusal) = 0

-- the colour of pixel x of a line whose table starts there
unfoldable pub colour_at : Controls → Screen → Lent → ℕ → ℕ → ℕ
colour_at controls screen lent start x =
    colour_by (pixel_view lent.store lent.normal lent.overlay) screen x
    (run (view lent) (window_entry_at controls (length lent.table) start x))

-- what is lent is long enough to draw the active width
pub record Enough (controls : Controls) (lent : Lent) (output : List ℕ) : Type 0 where
  pub store_long : length lent.store ≡ store_length
  pub normal_long : length lent.normal ≡ normal_length controls
  pub overlay_long : controls.overlay ≡ true → length lent.overlay ≡ controls.width
  pub output_long : controls.width ≤ length output

-- the output with the colours of the active width
abbrev pub coloured : Controls → Screen → Lent → ℕ → List ℕ → List ℕ
coloured controls screen lent start output = filled (colour_at controls screen lent start) 0 output controls.width
