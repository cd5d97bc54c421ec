-- The output after a line: colours in the active width, the rest and the length as before. Assumes nothing.
use Prim.Native.Nat.{ℕ, ◌+◌, ◌-◌, ◌≤◌, ◌<◌}
use mathlib.Core.Path.{◌≡◌, refl, sym, ap, ◌∙◌}
use mathlib.Core.List.{List, ◌++◌}
use native.Mathlib.Omega.{arith}
use lib.ListN.{length, get_or, take, drop, length-append, length-drop, get_or-append}
use lib.Seq.{get_or-append-add, get_or-drop, take_at, drop_at}
use Rattle.rules.specs.Rule.{Outcome, ok, refused, run, ◌>>=◌}
use Rattle.rules.specs.Faults.{Numbered}
use Rattle.rules.specs.Checked.{verdict}
use Rattle.rules.proofs.Cases.{impossible}
use Rattle.rules.proofs.Parts.{both}
use Rattle.rules.proofs.Each.{each_length}
use Rattle.rules.proofs.EachOf.{each_of_length}
use Rattle.line_setup.specs.Controls.{controls_of}
use Rattle.line_setup.specs.Faults.{line_faults}
use Rattle.line_setup.specs.declared.setup.Setup.{Setup}
use Rattle.line_setup.proofs.Fitted.{fitted}
use Rattle.line.specs.Cells.{Lent, view}
use Rattle.line.specs.Line.{entries_of, colours_of, line_of}
use Rattle.line.specs.Drawn.{setup_of, drawn, without_colours, output_after}
use Rattle.line.specs.declared.request.Request.{Request}
use Rattle.line_reads.proofs.Before.{refused_unread, passes}
use Rattle.line_reads.proofs.Frames.{starting}
use Rattle.line_reads.proofs.Pixels.{entering}
use Rattle.line_reads.proofs.OnlyListed.{passing}

module _ (setup : Setup) (lent : Lent) where
  -- the two passes answer as many colours as the active width
  passes_length : {colours : List ℕ} → run (view lent) (entries_of setup >>= colours_of setup) ≡ ok colours → length colours ≡ setup.controls.width
  unfolding entries_of colours_of
  passes_length e =
      let two = both (view lent) (entries_of setup) (colours_of setup) e in
      let first = both (view lent) (starting setup lent) (passing setup lent) two.found in
      each_of_length (view lent) _ two.first 0 two.next ∙ each_length (view lent) (entering setup lent first.first) setup.controls.width 0 first.next

  -- a drawn line has a colour for each pixel of the active width
  pub colours_length : {colours : List ℕ} → line_of setup lent ≡ ok colours → length colours ≡ setup.controls.width
  colours_length {colours} e = by (verdict (line_faults setup)) refl
    where
      -- a line that is drawn is not refused before anything is read, so it has its two passes
      by : (outcome : Outcome Numbered (Unit {0})) → verdict (line_faults setup) ≡ outcome → length colours ≡ setup.controls.width
      by (refused refusal) early = impossible (cc (refused_unread setup lent early))
      by (ok tt) fine = passes_length (sym (passes setup lent fine) ∙ e)

module _ (request : Request) (lent : Lent) (output : List ℕ) where
  -- what the line goes by
  abbrev given : Setup
  given = setup_of request lent (length output)

  -- a call that answers that the line is drawn has its colours
  pub drawn_line : (drawn request lent output).1 ≡ ok tt → (colours : List ℕ) × (line_of given lent ≡ ok colours)
  unfolding drawn
  drawn_line is_drawn = by (line_of given lent) refl is_drawn
    where
      -- a line that is refused doesn't answer that it is drawn
      by : (line : Outcome Numbered (List ℕ)) → line_of given lent ≡ line → without_colours line ≡ ok tt → (colours : List ℕ) × (line_of given lent ≡ ok colours)
      by (ok colours) e is = (colours, e)
      by (refused refusal) e is = impossible (cc)

  -- a word of the active width is then a colour
  pub word_drawn : {colours : List ℕ} → line_of given lent ≡ ok colours → (x : ℕ) → x < (controls_of request.state.control).width
      → get_or (drawn request lent output).0.1 x 0 ≡ get_or colours x 0
  unfolding drawn setup_of
  word_drawn {colours} e x active =
      let width = (controls_of request.state.control).width in
      ap (λ (line : Outcome Numbered (List ℕ)). get_or (output_after width output line) x 0) e
      ∙ get_or-append colours (drop width output) 0 x (omega (arith, colours_length given lent e))

  -- the words of the active width are then the colours
  pub words_drawn : {colours : List ℕ} → line_of given lent ≡ ok colours → take (controls_of request.state.control).width (drawn request lent output).0.1 ≡ colours
  unfolding drawn setup_of
  words_drawn {colours} e =
      let width = (controls_of request.state.control).width in
      ap (λ (line : Outcome Numbered (List ℕ)). take width (output_after width output line)) e
      ∙ take_at colours (drop width output) width (colours_length given lent e)

  -- the words past the active width stay, whatever comes of the line
  pub words_past : drop (controls_of request.state.control).width (drawn request lent output).0.1 ≡ drop (controls_of request.state.control).width output
  unfolding drawn setup_of
  words_past = by (line_of given lent) refl
    where
      -- the colours of a drawn line end at the active width; a refused line leaves the output as it was
      by : (line : Outcome Numbered (List ℕ)) → line_of given lent ≡ line
          → drop given.controls.width (output_after given.controls.width output line) ≡ drop given.controls.width output
      by (ok colours) e = drop_at colours (drop given.controls.width output) given.controls.width (colours_length given lent e)
      by (refused refusal) e = refl

  -- a word past the active width stays, whatever comes of the line
  pub word_past : (x : ℕ) → (controls_of request.state.control).width ≤ x → get_or (drawn request lent output).0.1 x 0 ≡ get_or output x 0
  unfolding drawn setup_of
  word_past x past = by (line_of given lent) refl
    where
      -- the colours of a drawn line end at the active width; a refused line leaves the output as it was
      by : (line : Outcome Numbered (List ℕ)) → line_of given lent ≡ line → get_or (output_after given.controls.width output line) x 0 ≡ get_or output x 0
      by (ok colours) e =
          let width = given.controls.width in
          let long = colours_length given lent e in
          let at : length colours + (x - width) ≡ x = omega arith in
          let back : width + (x - width) ≡ x = omega arith in
          ap (λ (n : ℕ). get_or (colours ++ drop width output) n 0) (sym at)
          ∙ get_or-append-add colours (drop width output) (x - width) 0
          ∙ get_or-drop width output (x - width) 0
          ∙ ap (λ (n : ℕ). get_or output n 0) back
      by (refused refusal) e = refl

  -- the output has room for a line that is drawn
  line_fits : {colours : List ℕ} → line_of given lent ≡ ok colours → given.controls.width ≤ length output
  unfolding setup_of
  line_fits {colours} e = by (verdict (line_faults given)) refl
    where
      -- a line that is drawn has no wrong length, and so an output that is long enough
      by : (outcome : Outcome Numbered (Unit {0})) → verdict (line_faults given) ≡ outcome → given.controls.width ≤ length output
      by (ok tt) fine = (fitted given fine).output_right
      by (refused refusal) early = impossible (cc (refused_unread given lent early))

  -- the output is as long after any line as before
  pub output_length : length (drawn request lent output).0.1 ≡ length output
  unfolding drawn
  output_length = by (line_of given lent) refl
    where
      -- the colours of a drawn line stand in place of as many words; a refused line leaves the output as it was
      by : (line : Outcome Numbered (List ℕ)) → line_of given lent ≡ line → length (output_after given.controls.width output line) ≡ length output
      by (ok colours) e =
          let width = given.controls.width in
          omega (arith, length-append colours (drop width output), length-drop width output, colours_length given lent e, line_fits e)
      by (refused refusal) e = refl
