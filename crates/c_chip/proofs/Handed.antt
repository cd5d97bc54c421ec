-- What a call on the chip answers in numbers where it hands back the state after its change. Assumes nothing.
use Prim.Native.Nat.{ℕ}
use mathlib.Core.Path.{◌≡◌, ap, ◌∙◌}
use mathlib.Core.List.{List}
use Rattle.chip_timing.specs.declared.Signals.{Signals}
use Rattle.std.specs.Prelude.{Option}
use Rattle.rules.specs.Rule.{Outcome}
use Rattle.rules.specs.Faults.{Numbered}
use Rattle.chip.specs.Call.{Chip}
use Rattle.chip.specs.declared.state.State.{State}
use Rattle.c_chip.specs.Calls.{write_answer, dots_answer, dots_in_numbers}
use Rattle.c_chip.specs.declared.calls.WrittenNumbers.{WrittenNumbers}

-- a write: the state, what it came to and the store are what the rule says
pub write_made : {next after : State} {outcome : Outcome Numbered (Unit {0})} {store : List ℕ} {all : Chip × Outcome Numbered (Unit {0})}
    → next ≡ after → ((after, store), outcome) ≡ all → ◌≡◌ {A = WrittenNumbers × List ℕ} (write_answer next outcome, store) (write_answer all.0.0 all.1, all.0.1)
write_made {outcome = outcome} {store = store} is made =
    ap (λ (state : State). (write_answer state outcome, store)) is
    ∙ ap (λ (all : Chip × Outcome Numbered (Unit {0})). (write_answer all.0.0 all.1, all.0.1)) made

-- dots, one or many
pub dots_made : {next after : State} {outcome : Outcome Numbered (Option Signals)} {store : List ℕ} {all : Chip × Outcome Numbered (Option Signals)}
    → next ≡ after → ((after, store), outcome) ≡ all → (dots_answer next outcome, store) ≡ dots_in_numbers all
dots_made {outcome = outcome} {store = store} is made = ap (λ (state : State). (dots_answer state outcome, store)) is ∙ ap dots_in_numbers made
