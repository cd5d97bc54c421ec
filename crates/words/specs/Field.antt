-- Fields of a word.
use Rattle.std.specs.Prelude.{ℕ, ◌+◌, ◌-◌, ◌/◌, ◌%◌, ◌^◌}

-- `count` bits of a word, from bit `low` up, as a number (CHIP 2.3)
abbrev pub bits : ℕ → ℕ → ℕ → ℕ
bits word low count = word / 2 ^ low % 2 ^ count

-- the bits high..low of a word, as a number (CHIP 2.3)
abbrev pub field : ℕ → ℕ → ℕ → ℕ
field word high low = bits word low (high + 1 - low)
