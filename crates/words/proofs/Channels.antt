-- Channels in plain numbers, put together and taken apart again: nothing is lost. Assumes nothing.
use Prim.Native.Nat.{ℕ, ◌+◌, ◌*◌, ◌/◌, ◌%◌, ◌^◌, ◌<◌}
use mathlib.Core.Path.{◌≡◌, refl, sym, ap, ◌∙◌}
use native.Mathlib.Nat.{div-one, add_assoc}
use native.Mathlib.Omega.{arith}
use lib.Pow.{mod-pow-add}
use Rattle.words.specs.Field.{field}
use Rattle.words.specs.Channels.{channels_of, word_of}
use Rattle.words.specs.declared.Rgb.{Rgb}

-- of a word red is the third byte from the end, green the second, blue the last
pub channels_in_numbers : (word : ℕ) → channels_of word ≡ record { red = word / 65536 % 256; green = word / 256 % 256; blue = word % 256 }
channels_in_numbers word = rw div-one

-- in a word red counts 65,536, green 256, blue 1
pub word_in_numbers : (colour : Rgb) → word_of colour ≡ colour.red * 65536 + colour.green * 256 + colour.blue
word_in_numbers colour = refl

-- the word of a word's channels is the word without its top byte
pub word_of_channels : (word : ℕ) → word_of (channels_of word) ≡ word % 2 ^ 24
word_of_channels word =
    rw (div-one, add_assoc) (sym (mod-pow-add word 8 16 ∙ ap (λ (low : ℕ). field word 23 16 * 2 ^ 16 + low) (mod-pow-add word 8 8)))

-- the channels of three channels' word are those channels
pub channels_of_word : (colour : Rgb) → colour.red < 2 ^ 8 → colour.green < 2 ^ 8 → colour.blue < 2 ^ 8 → channels_of (word_of colour) ≡ colour
channels_of_word colour red green blue =
    let r : field (word_of colour) 23 16 ≡ colour.red = omega arith in
    let g : field (word_of colour) 15 8 ≡ colour.green = omega arith in
    let b : field (word_of colour) 7 0 ≡ colour.blue = omega arith in
    rw (r, g, b)
