-- What a line is asked for.
use Rattle.std.specs.Prelude.{ℕ}
use Rattle.chip.specs.declared.state.State.{State}
use Rattle.line.specs.declared.request.Request.{Request}

-- line y of a state
abbrev pub request_of : State → ℕ → Request
request_of state y = record { state = state; y = y }
