-- The colour of a pixel of a line.
use Rattle.std.specs.Prelude.{ℕ, ◌≡◌}
use Rattle.rules.specs.Rule.{value}
use Rattle.line_colour.specs.declared.entry.WindowEntry.{WindowEntry}
use Rattle.line_pixels.specs.Cells.{pixel_view}
use Rattle.line_pixels.specs.Colour.{colour_of_pixel}
use Rattle.line_setup.specs.declared.setup.Setup.{Setup}
use Rattle.line.specs.Screen.{screen_in}
use Rattle.line.specs.Cells.{Lent}
use Rattle.line_reads.specs.TableList.{HasEntry}

-- pixel x has this colour: it has a window entry that is defined, and the colour is what the rule of a pixel says under that entry (CHIP 6.1)
pub record HasColour (setup : Setup) (lent : Lent) (x colour : ℕ) : Type 0 where
  pub entry : WindowEntry
  pub has : HasEntry setup lent x entry
  pub is : colour ≡ value (pixel_view lent.store lent.normal lent.overlay) (colour_of_pixel (screen_in setup) entry x)
