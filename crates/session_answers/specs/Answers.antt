-- What a step's answer asks of whoever called it.
use Rattle.std.specs.Prelude.{Bool, true, false, Option, Some, None}
use Rattle.session_listing.specs.declared.entry.ListingEntry.{ListingEntry}
use Rattle.session_listing.specs.declared.entry.ListingEntry.TheVariants.{Refused as RefusedEntry}
use Rattle.session_answers.specs.declared.StepAnswer.{StepAnswer}
use Rattle.session_answers.specs.declared.StepAnswer.TheVariants.{Listed, End, More, Stopped, Refused}

-- what it adds to the listing: its entry, nothing at the end and where it waits, the refusal where it is one (CHIP 9.5)
abbrev pub adds : StepAnswer → Option ListingEntry
adds (Listed entry) = Some entry
adds End = None
adds More = None
adds (Stopped refusal) = Some (RefusedEntry refusal)
adds (Refused refusal) = Some (RefusedEntry refusal)

-- the run is over with it (CHIP 9.5)
abbrev pub over : StepAnswer → Bool
over (Listed entry) = false
over End = true
over More = false
over (Stopped refusal) = true
over (Refused refusal) = true
