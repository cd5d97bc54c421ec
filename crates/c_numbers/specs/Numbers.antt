-- Answers in plain numbers: 1 for yes and 0 for no; a refusal's number and place, or 0 and 0.
use Rattle.std.specs.Prelude.{ℕ, Bool, true, false}
use Rattle.rules.specs.Rule.{Outcome, ok, refused}
use Rattle.rules.specs.Faults.{Numbered, place_in}
use Rattle.c_numbers.specs.declared.Refused.{Refused}

-- yes is 1, no is 0 (CHIP 10.4)
abbrev pub yes_no : Bool → ℕ
yes_no true = 1
yes_no false = 0

-- where nothing is refused, 0 and 0 (CHIP 10.4)
abbrev pub nothing : Refused
nothing = record { number = 0; place = 0 }

-- a refusal as its number and its place (CHIP 10.4)
abbrev pub refused_by : Numbered → Refused
refused_by refusal = record { number = refusal.number; place = place_in refusal }

-- what a call is refused by, if it is (CHIP 10.4)
abbrev pub refusal_of : {A : Type 0} → Outcome Numbered A → Refused
refusal_of (ok answer) = nothing
refusal_of (refused refusal) = refused_by refusal
