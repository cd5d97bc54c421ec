-- What a line leaves and answers.
use Rattle.std.specs.Prelude.{ℕ, List, ◌++◌, length, drop}
use Rattle.rules.specs.Rule.{Outcome, ok, refused}
use Rattle.rules.specs.Faults.{Numbered}
use Rattle.chip.specs.State.{good_state}
use Rattle.chip.specs.declared.state.State.{State}
use Rattle.line_setup.specs.Controls.{controls_of}
use Rattle.line_setup.specs.declared.setup.Setup.{Setup}
use Rattle.line.specs.Cells.{Lent}
use Rattle.line.specs.Line.{line_of}
use Rattle.line.specs.declared.request.Request.{Request}

-- what a line goes by, of what it is asked for, what is lent and the output's length
unfoldable pub setup_of : Request → Lent → ℕ → Setup
setup_of request lent output =
    record {
      good = good_state request.state;
      controls = controls_of request.state.control;
      y = request.y;
      lengths = record {
        store = length lent.store;
        table = length lent.table;
        normal = length lent.normal;
        overlay = length lent.overlay;
        output = output;
      };
    }

-- that the line is drawn, or its refusal; the colours go to the output (CHIP 8.1)
abbrev pub without_colours : Outcome Numbered (List ℕ) → Outcome Numbered (Unit {0})
without_colours (ok colours) = ok tt
without_colours (refused refusal) = refused refusal

-- the output after it: the colours of the active width with the words past it as they were, or all as it was (CHIP 6.8, 8.1)
abbrev pub output_after : ℕ → List ℕ → Outcome Numbered (List ℕ) → List ℕ
output_after width output (ok colours) = colours ++ drop width output
output_after width output (refused refusal) = output

-- the state, the output and the answer; the state is handed back as it was (CHIP 2.4, 6.1, 7.3)
unfoldable pub drawn : Request → Lent → List ℕ → (State × List ℕ) × Outcome Numbered (Unit {0})
drawn request lent output =
    let setup = setup_of request lent (length output) in
    let line = line_of setup lent in
    ((request.state, output_after setup.controls.width output line), without_colours line)
