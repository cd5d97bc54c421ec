-- Faults in order, as a rule.
use Rattle.std.specs.Prelude.{cond, List, [], ◌∷◌}
use Rattle.rules.specs.Rule.{Rule, done, stop, Outcome, ok, refused}
use Rattle.rules.specs.Faults.{Numbered, Fault}

-- the rule that refuses by the first fault that holds; it asks for no cell (CHIP 8.1)
abbrev pub checked : {Q : Type 0} → List Fault → Rule Numbered Q (Unit {0})
checked [] = done tt
checked (fault ∷ faults) = cond fault.holds (stop fault.refusal) (checked faults)

-- what comes of it, whatever the memory holds
abbrev pub verdict : List Fault → Outcome Numbered (Unit {0})
verdict [] = ok tt
verdict (fault ∷ faults) = cond fault.holds (refused fault.refusal) (verdict faults)
