-- The three channels of a map, gamma or output word: red 23..16, green 15..8, blue 7..0. The top byte is no part of a colour.
use Rattle.std.specs.Prelude.{ℕ, ◌+◌, ◌*◌, ◌^◌}
use Rattle.words.specs.Field.{field}
use Rattle.words.specs.declared.Rgb.{Rgb}

-- the channels of a word (CHIP 5.8)
abbrev pub channels_of : ℕ → Rgb
channels_of word = record { red = field word 23 16; green = field word 15 8; blue = field word 7 0 }

-- the word of three channels, its top byte 0 (CHIP 5.8)
abbrev pub word_of : Rgb → ℕ
word_of colour = colour.red * 2 ^ 16 + colour.green * 2 ^ 8 + colour.blue
