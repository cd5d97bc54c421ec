-- No second answer meets a contract of this crate. Assumes nothing.
use mathlib.Core.Path.{sym, ◌∙◌}
use Rattle.rules.specs.Unique.{OneAnswer}
use Rattle.rules.proofs.Unique.{by_equation}
use Rattle.refusals.proofs.Known.{answer_known}
use Rattle.line_setup.proofs.controls.ControlsFromArrayU329.from.Reads as of
use Rattle.line_setup.proofs.setup.Setup.line_check.Reads as line_check

-- what control words say
pub of_unique : OneAnswer of.Post
of_unique = by_equation _ _

-- the checks before anything is read
pub line_check_unique : OneAnswer line_check.Post
line_check_unique k args answer other exit exit' says says' = answer_known answer other (says ∙ sym says')
