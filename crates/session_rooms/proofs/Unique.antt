-- No second answer meets a contract of this crate. Assumes nothing.
use mathlib.Core.Path.{sym, ◌∙◌}
use Rattle.rules.specs.Unique.{OneAnswer}
use Rattle.refusals.proofs.Known.{answer_known}
use Rattle.session_rooms.proofs.step_check.Reads as step_check

-- one answer alone meets the contract of `step_check`
pub step_check_unique : OneAnswer step_check.Post
step_check_unique k args answer other exit exit' says says' = answer_known answer other (says ∙ sym says')
