-- Demand 2: every active pixel of a drawn line has a defined window entry, and its word of the output is exactly its colour. Assumes nothing.
use Prim.Native.Nat.{ℕ, ◌<◌}
use mathlib.Core.Path.{◌≡◌, refl, sym, ap, subst, ◌∙◌}
use mathlib.Core.List.{List}
use native.Mathlib.Nat.{zero-add}
use lib.ListN.{length, get_or}
use Rattle.rules.specs.Rule.{Outcome, ok, refused, run, value, ◌>>=◌}
use Rattle.rules.specs.Faults.{Numbered}
use Rattle.rules.specs.Checked.{verdict}
use Rattle.rules.proofs.Cases.{impossible}
use Rattle.rules.proofs.Parts.{both}
use Rattle.rules.proofs.EachOf.{answer_each_of}
use Rattle.rules.proofs.Value.{run_within_value}
use Rattle.line_colour.specs.declared.entry.WindowEntry.{WindowEntry}
use Rattle.line_pixels.specs.Colour.{colour_of_pixel}
use Rattle.line_setup.specs.Controls.{controls_of}
use Rattle.line_setup.specs.Faults.{line_faults}
use Rattle.line_setup.specs.declared.setup.Setup.{Setup}
use Rattle.line.specs.Screen.{screen_in}
use Rattle.line.specs.Cells.{of_colour, Lent, view}
use Rattle.line.specs.Line.{entries_of, in_colours, colours_of, line_of}
use Rattle.line.specs.Drawn.{setup_of, drawn}
use Rattle.line.specs.declared.request.Request.{Request}
use Rattle.line_reads.specs.PixelColour.{HasColour}
use Rattle.line_reads.proofs.Before.{refused_unread, passes}
use Rattle.line_reads.proofs.Frames.{starting}
use Rattle.line_reads.proofs.Pixels.{entering}
use Rattle.line_reads.proofs.Having.{entry_has, one_entry}
use Rattle.line_reads.proofs.OnlyListed.{passing}
use Rattle.line_reads.proofs.Outputs.{drawn_line, word_drawn}

module _ (setup : Setup) (lent : Lent) where
  -- the two passes answer each pixel's colour
  passes_colour : {colours : List ℕ} → run (view lent) (entries_of setup >>= colours_of setup) ≡ ok colours
      → (x : ℕ) → x < setup.controls.width → HasColour setup lent x (get_or colours x 0)
  unfolding entries_of colours_of
  passes_colour {colours} e x active =
      let screen = screen_in setup in
      let two = both (view lent) (entries_of setup) (colours_of setup) e in
      let first = both (view lent) (starting setup lent) (passing setup lent) two.found in
      let at =
      answer_each_of (view lent) (λ entry x. in_colours (colour_of_pixel screen entry x)) (entering setup lent first.first) 0 setup.controls.width 0
      first.next two.next x active in
      let found : run (view lent) (entering setup lent first.first x) ≡ ok at.value = rw zero-add at at.found in
      let made : run (view lent) (in_colours (colour_of_pixel screen at.value x)) ≡ ok (get_or colours x 0) = rw zero-add at at.made in
      record {
        entry = at.value;
        has = entry_has setup lent first.found x found;
        is = cc (made, run_within_value (λ (refusal : ⊥). absurd refusal) of_colour (view lent) (colour_of_pixel screen at.value x));
      }

  -- each active pixel of a drawn line has a defined window entry, and its word is its colour under that
  pub pixel_colour : {colours : List ℕ} → line_of setup lent ≡ ok colours
      → (x : ℕ) → x < setup.controls.width → HasColour setup lent x (get_or colours x 0)
  pixel_colour {colours} e x active = by (verdict (line_faults setup)) refl
    where
      -- a line that is drawn is not refused before anything is read, so it has its two passes
      by : (outcome : Outcome Numbered (Unit {0})) → verdict (line_faults setup) ≡ outcome → HasColour setup lent x (get_or colours x 0)
      by (refused refusal) early = impossible (cc (refused_unread setup lent early))
      by (ok tt) fine = passes_colour (sym (passes setup lent fine) ∙ e) x active

  -- a pixel has one colour
  pub one_colour : {x colour other : ℕ} → HasColour setup lent x colour → HasColour setup lent x other → colour ≡ other
  one_colour {x} first second =
      let same = one_entry setup lent first.has second.has in
      first.is
      ∙ ap (λ (entry : WindowEntry). value (λ cell. view lent (of_colour cell)) (colour_of_pixel (screen_in setup) entry x)) same
      ∙ sym second.is

-- where a call answers that the line is drawn, each word of the active width is the colour of its pixel
pub drawn_colour : (request : Request) (lent : Lent) (output : List ℕ) → (drawn request lent output).1 ≡ ok tt
    → (x : ℕ) → x < (controls_of request.state.control).width → HasColour (setup_of request lent (length output)) lent x (get_or (drawn request lent output).0.1 x 0)
unfolding setup_of
drawn_colour request lent output is_drawn x active =
    let line = drawn_line request lent output is_drawn in
    subst (HasColour (setup_of request lent (length output)) lent x) (sym (word_drawn request lent output line.1 x active))
    (pixel_colour (setup_of request lent (length output)) lent line.1 x active)
