-- The table of register blocks.
use Rattle.std.specs.Prelude.{ℕ, Bool, true, false, List, [], ◌∷◌}
use Rattle.chip_registers.specs.declared.Block.{Block}
use Rattle.chip_registers.specs.declared.Block.TheVariants.{Control, WindowEntries, ColourMap, GammaMap, CursorGlyph, CursorColours}
use Rattle.chip_registers.specs.declared.KeptBits.{KeptBits}
use Rattle.chip_registers.specs.declared.KeptBits.TheVariants.{ByField, Lowest}
use Rattle.chip_registers.specs.declared.BlockRow.{BlockRow}

-- the blocks, in the table's order (CHIP 2.2)
abbrev pub blocks : List Block
blocks = Control ∷ WindowEntries ∷ ColourMap ∷ GammaMap ∷ CursorGlyph ∷ CursorColours ∷ []

-- a row of the table, its columns in order
abbrev row : ℕ → ℕ → KeptBits → Bool → Bool → BlockRow
row start words kept stored waits = record { start = start; words = words; kept = kept; stored = stored; waits = waits }

--                    from, words, kept bits, in the store, writes wait (CHIP 2.2)
abbrev pub row_of : Block → BlockRow
row_of Control = row 0x000000 11 ByField false false
row_of WindowEntries = row 0x010000 32 (Lowest 13) true false
row_of ColourMap = row 0x020000 4608 (Lowest 24) true true
row_of GammaMap = row 0x030000 256 (Lowest 24) true false
row_of CursorGlyph = row 0x040000 64 (Lowest 32) true false
row_of CursorColours = row 0x041000 3 (Lowest 24) true false

-- the address of a block's first word (CHIP 2.2)
abbrev pub start : Block → ℕ
start block = (row_of block).start

-- how many words a block has (CHIP 2.2)
abbrev pub count : Block → ℕ
count block = (row_of block).words
