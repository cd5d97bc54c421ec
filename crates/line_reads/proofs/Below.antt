-- The words of a drawn line have 24 bits: the top byte of each is 0. Assumes nothing.
use Prim.Native.Nat.{ℕ, ◌^◌, ◌<◌}
use mathlib.Core.Path.{◌≡◌}
use mathlib.Core.List.{List}
use lib.Dec.{lit<}
use lib.ListN.{length, get_or}
use Rattle.rules.specs.Rule.{ok, run, value}
use Rattle.rules.specs.Checked.{checked}
use Rattle.rules.proofs.Parts.{both}
use Rattle.rules.proofs.EachOf.{each_of_below}
use Rattle.rules.proofs.Value.{run_within_value}
use Rattle.line_colour.specs.declared.entry.WindowEntry.{WindowEntry}
use Rattle.line_pixels.specs.Cells.{pixel_view}
use Rattle.line_pixels.specs.Colour.{colour_of_pixel}
use Rattle.line_pixels.proofs.Below.{colour_below}
use Rattle.line_setup.specs.Controls.{controls_of}
use Rattle.line_setup.specs.Faults.{line_faults}
use Rattle.line_setup.specs.declared.setup.Setup.{Setup}
use Rattle.line.specs.Screen.{screen_in}
use Rattle.line.specs.Cells.{of_colour, Lent, view}
use Rattle.line.specs.Line.{in_colours, entries_of, colours_of, line_rule, line_of}
use Rattle.line.specs.Drawn.{setup_of, drawn}
use Rattle.line.specs.declared.request.Request.{Request}
use Rattle.line_reads.proofs.Outputs.{drawn_line, word_drawn}

module _ (setup : Setup) (lent : Lent) where
  -- a pixel's colour has 24 bits
  pixel_below : (entry : WindowEntry) (x answer : ℕ) → run (view lent) (in_colours (colour_of_pixel (screen_in setup) entry x)) ≡ ok answer → answer < 2 ^ 24
  pixel_below entry x answer is =
      let screen = screen_in setup in
      let same : answer ≡ value (pixel_view lent.store lent.normal lent.overlay) (colour_of_pixel screen entry x) =
      cc (is, run_within_value (λ refusal. absurd refusal) of_colour (view lent) (colour_of_pixel screen entry x)) in
      rw same (colour_below lent.store lent.normal lent.overlay screen entry x)

  -- every colour of a drawn line has 24 bits
  pub words_below : {colours : List ℕ} → line_of setup lent ≡ ok colours → (i : ℕ) → get_or colours i 0 < 2 ^ 24
  unfolding line_of line_rule colours_of
  words_below e =
      let past = both (view lent) (checked (line_faults setup)) _ e in
      let two = both (view lent) (entries_of setup) (colours_of setup) past.next in
      each_of_below (view lent) _ (2 ^ 24) (lit< tt) pixel_below two.first 0 two.next

-- every word of the active width that a drawn line leaves in the output is below 2^24
pub output_below : (request : Request) (lent : Lent) (output : List ℕ) → (drawn request lent output).1 ≡ ok tt
    → (i : ℕ) → i < (controls_of request.state.control).width → get_or (drawn request lent output).0.1 i 0 < 2 ^ 24
unfolding setup_of
output_below request lent output is_drawn i below =
    let line = drawn_line request lent output is_drawn in
    rw (word_drawn request lent output line.1 i below) (words_below (setup_of request lent (length output)) lent line.1 i)
