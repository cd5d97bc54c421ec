-- The table of pixel formats.
use Rattle.std.specs.Prelude.{ℕ, ◌*◌, ◌+◌, ◌≤◌, ◌≡◌, Bool, true, false, cond, List, [], ◌∷◌, Option, Some, None, eqb, leb, get_or}
use Rattle.words.specs.Field.{bits}
use Rattle.words.specs.declared.Rgb.{Rgb}
use Rattle.line_formats.specs.Channel.{colour_by_widths}
use Rattle.line_formats.specs.declared.Format.{Format}
use Rattle.line_formats.specs.declared.Format.TheVariants.{Index8, Index12, Rgb332, Rgb444, Rgb555, Rgb888}
use Rattle.line_formats.specs.declared.Part.{Part}
use Rattle.line_formats.specs.declared.Part.TheVariants.{Half, Whole, Unlisted}
use Rattle.line_formats.specs.declared.Widths.{Widths}

-- the formats in the order of their numbers (CHIP 5.2)
abbrev pub formats : List (Option Format)
formats = Some Index8 ∷ Some Index12 ∷ Some Rgb332 ∷ Some Rgb444 ∷ Some Rgb555 ∷ Some Rgb888 ∷ []

-- the format that a number names; a number past the last format names none (CHIP 5.2, 5.4)
abbrev pub format_of_number : ℕ → Option Format
format_of_number number = get_or formats number None

-- a row of the table: the bits of a sample and of each channel, and what of a pixel is used at depth 16 and at depth 32 (CHIP 5.2)
pub record Row : Type 0 where
  pub widths : Widths
  pub at16 : Part
  pub at32 : Part

-- a row by its columns
abbrev row : ℕ → ℕ → ℕ → ℕ → Part → Part → Row
row used red green blue at16 at32 =
    record { widths = record { bits = used; red = red; green = green; blue = blue }; at16 = at16; at32 = at32 }

--                    bits, red green blue, depth 16, depth 32 (CHIP 5.2, 5.4)
abbrev pub format_row : Format → Row
format_row Index8 = row 8 0 0 0 Half Half
format_row Index12 = row 12 0 0 0 Whole Half
format_row Rgb332 = row 8 3 3 2 Half Half
format_row Rgb444 = row 12 4 4 4 Whole Half
format_row Rgb555 = row 15 5 5 5 Whole Half
format_row Rgb888 = row 24 8 8 8 Unlisted Whole

-- the bits of a format (CHIP 5.2, 5.3)
abbrev pub widths_of : Format → Widths
widths_of format = (format_row format).widths

-- what of a pixel a format uses at a depth: at one other than 16 or 32 nothing is listed (CHIP 5.2, 5.4)
unfoldable pub part_at : Format → ℕ → Part
part_at format depth = cond (eqb depth 16) (format_row format).at16 (cond (eqb depth 32) (format_row format).at32 Unlisted)

-- a depth that the table lists (CHIP 5.2, 5.4)
abbrev pub has_depth : Part → Bool
has_depth Half = true
has_depth Whole = true
has_depth Unlisted = false

-- a buffer that the table lists: of a half either, of a whole pixel buffer 0 (CHIP 5.2, 5.4)
abbrev pub has_buffer : Part → ℕ → Bool
has_buffer Half buffer = true
has_buffer Whole buffer = eqb buffer 0
has_buffer Unlisted buffer = false

-- format 0 has banks up to 17; in other formats the bank is ignored (CHIP 5.4)
abbrev pub has_bank : Format → ℕ → Bool
has_bank Index8 bank = leb bank 17
has_bank Index12 bank = true
has_bank Rgb332 bank = true
has_bank Rgb444 bank = true
has_bank Rgb555 bank = true
has_bank Rgb888 bank = true

-- the value of an index (CHIP 5.5)
abbrev pub value_of : Format → ℕ → ℕ
value_of format sample = bits sample 0 (widths_of format).bits

-- the map entry of a value within a bank of 256 entries (CHIP 5.5)
abbrev pub entry_in_bank : ℕ → ℕ → ℕ
entry_in_bank bank value = 256 * bank + value

-- the colour of a sample with channels (CHIP 5.6)
abbrev pub colour_in_format : Format → ℕ → Rgb
colour_in_format format sample = colour_by_widths sample (widths_of format).red (widths_of format).green (widths_of format).blue

-- the bits of a format are these (CHIP 5.2)
abbrev pub HasWidths : Format → ℕ → ℕ → ℕ → ℕ → Type 0
HasWidths format used red green blue = widths_of format ≡ record { bits = used; red = red; green = green; blue = blue }

-- each of three channels has 1 to 8 bits (CHIP 5.6)
abbrev pub HasChannels : ℕ → ℕ → ℕ → Type 0
HasChannels red green blue = (1 ≤ red) × (red ≤ 8) × (1 ≤ green) × (green ≤ 8) × (1 ≤ blue) × (blue ≤ 8)
