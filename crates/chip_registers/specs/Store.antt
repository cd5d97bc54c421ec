-- The store: every block but control, in the table's order.
use Rattle.std.specs.Prelude.{ℕ, ◌+◌, ◌<◌, Bool, cond, List, [], ◌∷◌, eqb, get_or, Option, Some, None}
use Rattle.chip_registers.specs.Blocks.{blocks, row_of, start, count}
use Rattle.chip_registers.specs.Kept.{kept_of}
use Rattle.chip_registers.specs.declared.Block.{Block}
use Rattle.chip_registers.specs.declared.Register.{Register}

-- a block that the store has (CHIP 2.5)
abbrev pub in_store : Block → Bool
in_store block = (row_of block).stored

-- how many words a block takes in the store (CHIP 2.5)
abbrev pub store_words : Block → ℕ
store_words block = cond (in_store block) (count block) 0

-- how many words some blocks take in the store
abbrev pub all_words : List Block → ℕ
all_words [] = 0
all_words (block ∷ others) = store_words block + all_words others

-- how many words of the store those of some blocks take that stand before a block, which is told by where it starts
abbrev pub words_before : Block → List Block → ℕ
words_before block [] = 0
words_before block (other ∷ others) = cond (eqb (start other) (start block)) 0 (store_words other + words_before block others)

-- how many words of the store stand before those of a block (CHIP 2.5)
abbrev pub store_start : Block → ℕ
store_start block = words_before block blocks

-- how many words the store has (CHIP 2.5)
abbrev pub store_length : ℕ
store_length = all_words blocks

-- where a register stands in the store: nowhere where its block is not in it (CHIP 2.5)
abbrev pub store_place : Register → Option ℕ
store_place register = cond (in_store register.block) (Some (store_start register.block + register.word)) None

-- a place is one of so many words of a store
abbrev pub Within : ℕ → Option ℕ → Type 0
Within size (Some index) = index < size
Within size None = ⊥

-- the kept bits of the word at a register's place in a store (CHIP 2.6)
abbrev pub stored_at : List ℕ → Register → Option ℕ → ℕ
stored_at store register (Some index) = kept_of register (get_or store index 0)
stored_at store register None = 0

-- the kept bits of a register's word in a store (CHIP 2.6)
abbrev pub stored : List ℕ → Register → ℕ
stored store register = stored_at store register (store_place register)
