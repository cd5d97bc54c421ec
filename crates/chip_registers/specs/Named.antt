-- What an address names.
use Rattle.std.specs.Prelude.{ℕ, ◌-◌, ◌/◌, ◌%◌, ◌^◌, Bool, cond, ◌&&◌, List, [], ◌∷◌, eqb, ltb, leb, Option, Some, None}
use Rattle.chip_registers.specs.Blocks.{blocks, start, count}
use Rattle.chip_registers.specs.declared.Block.{Block}
use Rattle.chip_registers.specs.declared.Register.{Register}

-- the place that an address is: bits 31..24 are ignored, and 0 in a place (CHIP 2.1)
abbrev pub address_place : ℕ → ℕ
address_place address = address % 2 ^ 24

-- which word of a block stands at a place (CHIP 2.2)
abbrev pub word_at : Block → ℕ → ℕ
word_at block place = (place - start block) / 4

-- the place is that of a word of the block (CHIP 2.2)
unfoldable pub is_word_of : Block → ℕ → Bool
is_word_of block place = leb (start block) place && ltb (word_at block place) (count block)

-- the register of some blocks that stands at a place (CHIP 2.2)
abbrev pub among : List Block → ℕ → Option Register
among [] place = None
among (block ∷ others) place = cond (is_word_of block place) (Some (record { block = block; word = word_at block place })) (among others place)

-- what an address names: a register stands at a multiple of 4 (CHIP 2.1, 2.2, 8.1)
unfoldable pub named : ℕ → Option Register
named address = cond (eqb (address_place address % 4) 0) (among blocks (address_place address)) None
