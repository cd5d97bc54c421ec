-- The normal colour of a pixel by what its sample shows, in plain numbers. Assumes nothing.
use Prim.Native.Nat.{ℕ, ◌+◌, ◌*◌}
use mathlib.Core.Path.{◌≡◌, ap}
use Rattle.rules.specs.Rule.{value}
use Rattle.words.specs.declared.Rgb.{Rgb}
use Rattle.line_formats.specs.Table.{widths_of}
use Rattle.line_colour.specs.Shown.{shown_of}
use Rattle.line_colour.specs.declared.entry.WindowEntry.{WindowEntry}
use Rattle.line_colour.specs.declared.entry.Shown.TheVariants.{MapEntry, Colour}
use Rattle.line_pixels.specs.Cells.{PixelCell, sample, map_entry}
use Rattle.line_pixels.specs.Colour.{shown_colour, normal_at}

module _ (memory : PixelCell → ℕ) (depth x : ℕ) (entry : WindowEntry) where
  -- the used bits of the pixel's own sample
  abbrev used : ℕ
  used = memory (sample depth x entry.low (widths_of entry.format).bits)

  -- where they show a map entry, the colour is what that holds
  pub normal_of_map : {number : ℕ} → shown_of entry used ≡ MapEntry number → value memory (normal_at depth entry x) ≡ memory (map_entry number)
  unfolding normal_at
  normal_of_map shows = ap (λ shown. value memory (shown_colour shown)) shows

  -- where they show a colour of their own, its red counts 65,536, green 256, blue 1
  pub normal_of_colour : {colour : Rgb} → shown_of entry used ≡ Colour colour
      → value memory (normal_at depth entry x) ≡ colour.red * 65536 + colour.green * 256 + colour.blue
  unfolding normal_at
  normal_of_colour shows = ap (λ shown. value memory (shown_colour shown)) shows
