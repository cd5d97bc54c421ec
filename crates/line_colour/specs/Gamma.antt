-- Gamma: a channel picks a gamma word by its value, and becomes that word's same channel.
use Rattle.std.specs.Prelude.{ℕ, List, get_or}
use Rattle.words.specs.Channels.{channels_of}
use Rattle.words.specs.declared.Rgb.{Rgb}

-- a colour through the gamma words (CHIP 6.3)
abbrev pub corrected : List ℕ → Rgb → Rgb
corrected gamma colour =
    record {
      red = (channels_of (get_or gamma colour.red 0)).red;
      green = (channels_of (get_or gamma colour.green 0)).green;
      blue = (channels_of (get_or gamma colour.blue 0)).blue;
    }
