-- That a contract leaves one answer, and one outcome in lent memory.
use Rattle.std.specs.Prelude.{◌≡◌}

-- for functions that are lent nothing to change: whatever two calls with the same arguments answer, and however they leave their parameters, if both meet the contract they answer the same
abbrev pub OneAnswer : {K : Type 0} {Args Answer Exit : K → Type 0} → ((k : K) → Args k → Answer k → Exit k → Type 0) → Type 0
OneAnswer {K} {Args} {Answer} {Exit} Contract =
    (k : K) (args : Args k) (answer other : Answer k) (exit exit' : Exit k)
    → Contract k args answer exit → Contract k args other exit' → answer ≡ other

-- for functions that are lent memory to change, of which `left` shows what it holds at the end: what the two calls leave is the same too
abbrev pub OneOutcome : {K : Type 0} {Args Answer Exit : K → Type 0} {Memory : Type 0} → ((k : K) → Exit k → Memory)
    → ((k : K) → Args k → Answer k → Exit k → Type 0) → Type 0
OneOutcome {K} {Args} {Answer} {Exit} left Contract =
    (k : K) (args : Args k) (answer other : Answer k) (exit exit' : Exit k)
    → Contract k args answer exit → Contract k args other exit' → (answer ≡ other) × (left k exit ≡ left k exit')
