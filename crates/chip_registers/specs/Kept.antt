-- The bits that a register keeps.
use Rattle.std.specs.Prelude.{ℕ, ◌+◌, ◌*◌, ◌^◌, Bool, cond, eqb}
use Rattle.words.specs.Field.{bits, field}
use Rattle.chip_registers.specs.Blocks.{row_of}
use Rattle.chip_registers.specs.declared.KeptBits.{KeptBits}
use Rattle.chip_registers.specs.declared.KeptBits.TheVariants.{ByField, Lowest}
use Rattle.chip_registers.specs.declared.Register.{Register}

-- a value with its bits high..low alone
abbrev pub only : ℕ → ℕ → ℕ → ℕ
only value high low = field value high low * 2 ^ low

-- of a control word its fields: word 0 has five switches, word 7 two fields of 11 bits, the others two of 12; words 9 and 10 are never written (CHIP 2.3)
unfoldable pub kept_of_control : ℕ → ℕ → ℕ
kept_of_control word value =
    cond (eqb word 0) (only value 4 0)
    (cond (eqb word 7) (only value 26 16 + only value 10 0)
    (only value 27 16 + only value 11 0))

-- by field of a control word, else so many bits from bit 0 up (CHIP 2.2)
abbrev pub kept_by : KeptBits → ℕ → ℕ → ℕ
kept_by ByField word value = kept_of_control word value
kept_by (Lowest width) word value = bits value 0 width

-- a value with the bits alone that a register keeps (CHIP 2.2)
abbrev pub kept_of : Register → ℕ → ℕ
kept_of register value = kept_by (row_of register.block).kept register.word value

-- whether a value has no bits but those that a register keeps (CHIP 2.2, 2.3, 8.1)
unfoldable pub fits : Register → ℕ → Bool
fits register value = eqb (kept_of register value) value
