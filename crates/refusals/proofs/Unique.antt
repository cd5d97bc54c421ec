-- No second answer meets a contract of this crate. Assumes nothing.
use Rattle.rules.specs.Unique.{OneAnswer}
use Rattle.rules.proofs.Unique.{by_equation}
use Rattle.refusals.proofs.Refusal.number.Reads as number
use Rattle.refusals.proofs.Refusal.place.Reads as place

-- one answer says a refusal's number
pub number_unique : OneAnswer number.Post
number_unique = by_equation _ _

-- one answer says a refusal's place
pub place_unique : OneAnswer place.Post
place_unique = by_equation _ _
