-- Demand 3 at the call: two calls that go by the same and agree on the cells that the first line reads answer and draw the same. Assumes nothing.
use Prim.Native.Nat.{ℕ}
use mathlib.Core.Path.{◌≡◌, refl, sym, ap, ◌∙◌}
use mathlib.Core.List.{List}
use lib.ListN.{length, take}
use Rattle.rules.specs.Rule.{Outcome, ok}
use Rattle.rules.specs.Faults.{Numbered}
use Rattle.chip.specs.declared.state.State.{State}
use Rattle.line_setup.specs.Controls.{controls_of}
use Rattle.line.specs.Cells.{Lent}
use Rattle.line.specs.Line.{line_of}
use Rattle.line.specs.Drawn.{setup_of, drawn, without_colours, output_after}
use Rattle.line.specs.declared.request.Request.{Request}
use Rattle.line_reads.specs.Calls.{controls_in, SameLengths, SameCall, AgreeOnReads, Keeps, DrawnAlike}
use Rattle.line_reads.proofs.Demand.{outcome_rests}
use Rattle.line_reads.proofs.Outputs.{drawn_line, words_drawn, words_past}
use Rattle.line_reads.proofs.Answers.{state_stays, output_stays}

-- every call keeps its state, the words past the active width, and where it is refused its output
pub keeps : (request : Request) (lent : Lent) (output : List ℕ) → Keeps request lent output
keeps request lent output =
    record {
      state = state_stays request lent output;
      past = words_past request lent output;
      every_word = output_stays request lent output;
    }

module _ (request again : Request) (lent other : Lent) (output old : List ℕ) (same : SameCall request again lent other output old)
    (agree : AgreeOnReads (setup_of request lent (length output)) lent other) where
  -- both lines have one outcome
  one_outcome : line_of (setup_of request lent (length output)) lent ≡ line_of (setup_of again other (length old)) other
  one_outcome =
      outcome_rests request again same.asked lent other same.lengths (length output) agree
      ∙ ap (λ (long : ℕ). line_of (setup_of again other long) other) same.outputs

  -- the two calls answer the same, draw the same words and keep the rest, whatever their outputs held
  pub drawn_alike : DrawnAlike request again lent other output old
  unfolding drawn
  drawn_alike =
      record {
        answers = ap without_colours one_outcome;
        colours = same_words;
        first_keeps = keeps request lent output;
        second_keeps = keeps again other old;
      }
    where
      -- the words of the active width are the colours of the one outcome
      same_words : (drawn request lent output).1 ≡ ok tt
          → take (controls_in request).width (drawn request lent output).0.1 ≡ take (controls_in request).width (drawn again other old).0.1
      same_words is_drawn =
          let line = drawn_line request lent output is_drawn in
          words_drawn request lent output line.1
          ∙ sym (words_drawn again other old (sym one_outcome ∙ line.1))
          ∙ ap (λ (words : List ℕ). take (controls_of words).width (drawn again other old).0.1) (sym same.asked.control)

module _ (request : Request) (lent other : Lent) (same : SameLengths (controls_in request) lent other) (output : List ℕ) where
  -- what a call leaves and answers, by what comes of its line
  abbrev by_line : Outcome Numbered (List ℕ) → (State × List ℕ) × Outcome Numbered (Unit {0})
  by_line line = ((request.state, output_after (controls_in request).width output line), without_colours line)

  -- the same call with other memory: state, output and answer are the same
  pub drawn_rests : AgreeOnReads (setup_of request lent (length output)) lent other → drawn request lent output ≡ drawn request other output
  unfolding drawn setup_of
  drawn_rests agree =
      ap by_line (outcome_rests request request (record { y = refl; control = refl; good = refl }) lent other same (length output) agree)
