-- What is lent to a line, and the cells that its answer may rest on.
use Rattle.std.specs.Prelude.{ℕ, List}
use Rattle.chip_registers.specs.Store.{stored}
use Rattle.chip_registers.specs.declared.Block.TheVariants.{WindowEntries}
use Rattle.line_windows.specs.Table.{TableCell, table_view}
use Rattle.line_pixels.specs.Cells.{PixelCell, pixel_view}

-- the store, the window-ID table, the normal row and the overlay row
pub record Lent : Type 0 where
  pub store : List ℕ
  pub table : List ℕ
  pub normal : List ℕ
  pub overlay : List ℕ

-- the four of them as one
abbrev pub lent_of : List ℕ → List ℕ → List ℕ → List ℕ → Lent
lent_of store table normal overlay = record { store = store; table = table; normal = normal; overlay = overlay }

-- a cell of the table, a window entry by its ID, or a cell that a colour comes from
pub data Cell : Type 0 where
  of_table : TableCell → Cell
  window_entry : ℕ → Cell
  of_colour : PixelCell → Cell

-- what the cells hold; of a window entry all 13 bits (CHIP 2.6)
abbrev pub view : Lent → Cell → ℕ
view lent (of_table cell) = table_view lent.table cell
view lent (window_entry id) = stored lent.store (record { block = WindowEntries; word = id })
view lent (of_colour cell) = pixel_view lent.store lent.normal lent.overlay cell
