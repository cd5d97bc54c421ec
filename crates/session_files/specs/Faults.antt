-- What a record is refused for.
use Rattle.std.specs.Prelude.{ℕ, List, [], ◌∷◌}
use Rattle.rules.specs.Faults.{Fault}
use Rattle.refusals.specs.Refusal.{fault}
use Rattle.refusals.specs.declared.Refusal.TheVariants.{WrongRecord, FileEnds, TooMuch}
use Rattle.session_records.specs.Faults.{wrong, too_much, missing}
use Rattle.session_records.specs.declared.record.Context.{Context}

-- at bytes with which the file ends: 12, 14, 13, each at the record's number (CHIP 9.5)
abbrev pub record_faults : Context → List ℕ → List Fault
record_faults context bytes =
    fault (WrongRecord context.number) (wrong bytes)
    ∷ fault (TooMuch context.number) (too_much context bytes)
    ∷ fault (FileEnds context.number) (missing bytes)
    ∷ []
