-- Which registers can only be read, and which writes wait.
use Rattle.std.specs.Prelude.{ℕ, Bool, false, leb}
use Rattle.chip_registers.specs.Blocks.{row_of}
use Rattle.chip_registers.specs.declared.Block.{Block}
use Rattle.chip_registers.specs.declared.Block.TheVariants.{Control, WindowEntries, ColourMap, GammaMap, CursorGlyph, CursorColours}
use Rattle.chip_registers.specs.declared.Register.{Register}

-- control words 9 and 10 can only be read (CHIP 2.3)
abbrev pub read_only_in : Block → ℕ → Bool
read_only_in Control word = leb 9 word
read_only_in WindowEntries word = false
read_only_in ColourMap word = false
read_only_in GammaMap word = false
read_only_in CursorGlyph word = false
read_only_in CursorColours word = false

-- a register that can only be read (CHIP 2.3, 8.1)
abbrev pub read_only : Register → Bool
read_only register = read_only_in register.block register.word

-- a block whose writes wait (CHIP 3.6)
abbrev pub waits_in : Block → Bool
waits_in block = (row_of block).waits

-- a register whose writes wait (CHIP 3.6)
abbrev pub waits : Register → Bool
waits register = waits_in register.block
