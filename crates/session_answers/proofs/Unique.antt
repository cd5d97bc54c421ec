-- No second answer meets a contract of this crate. Assumes nothing.
use Rattle.rules.specs.Unique.{OneAnswer}
use Rattle.rules.proofs.Unique.{by_equation}
use Rattle.session_answers.proofs.StepAnswer.over.Reads as over
use Rattle.session_answers.proofs.StepAnswer.adds.Reads as adds

-- one answer alone meets the contract of `adds`
pub adds_unique : OneAnswer adds.Post
adds_unique = by_equation _ _

-- one answer alone meets the contract of `over`
pub over_unique : OneAnswer over.Post
over_unique = by_equation _ _
