-- What a sample shows under a defined entry.
use Rattle.std.specs.Prelude.{ℕ}
use Rattle.words.specs.Field.{bits}
use Rattle.line_formats.specs.Table.{widths_of, value_of, entry_in_bank, colour_in_format}
use Rattle.line_formats.specs.declared.Format.{Format}
use Rattle.line_formats.specs.declared.Format.TheVariants.{Index8, Index12, Rgb332, Rgb444, Rgb555, Rgb888}
use Rattle.line_colour.specs.declared.entry.WindowEntry.{WindowEntry}
use Rattle.line_colour.specs.declared.entry.Shown.{Shown}
use Rattle.line_colour.specs.declared.entry.Shown.TheVariants.{MapEntry, Colour}

-- the sample of a pixel: the low bits, as many as the format uses, of the buffer that the entry says (CHIP 5.3)
abbrev pub sample_of : WindowEntry → ℕ → ℕ
sample_of entry pixel = bits pixel entry.low (widths_of entry.format).bits

-- format 0 is the map entry of the value within the bank, format 1 that of the value; the others are colours (CHIP 5.4, 5.5, 6.2)
abbrev pub shown_as : Format → ℕ → ℕ → Shown
shown_as Index8 bank sample = MapEntry (entry_in_bank bank (value_of Index8 sample))
shown_as Index12 bank sample = MapEntry (value_of Index12 sample)
shown_as Rgb332 bank sample = Colour (colour_in_format Rgb332 sample)
shown_as Rgb444 bank sample = Colour (colour_in_format Rgb444 sample)
shown_as Rgb555 bank sample = Colour (colour_in_format Rgb555 sample)
shown_as Rgb888 bank sample = Colour (colour_in_format Rgb888 sample)

-- what a sample shows under an entry (CHIP 5.5, 5.6)
abbrev pub shown_of : WindowEntry → ℕ → Shown
shown_of entry sample = shown_as entry.format entry.bank sample
