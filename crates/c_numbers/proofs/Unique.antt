-- No second answer meets a contract of this crate. Assumes nothing.
use Rattle.rules.specs.Unique.{OneAnswer}
use Rattle.rules.proofs.Unique.{by_equation}
use Rattle.c_numbers.proofs.yes_no.Reads as yes_no
use Rattle.c_numbers.proofs.nothing.Reads as nothing
use Rattle.c_numbers.proofs.refused_by.Reads as refused_by

-- one answer says yes or no as a number
pub yes_no_unique : OneAnswer yes_no.Post
yes_no_unique = by_equation _ _

-- one answer says that nothing is refused
pub nothing_unique : OneAnswer nothing.Post
nothing_unique = by_equation _ _

-- one answer says a refusal's number and place
pub refused_by_unique : OneAnswer refused_by.Post
refused_by_unique = by_equation _ _
