-- No second answer meets a contract of this crate. Assumes nothing.
use mathlib.Core.Path.{sym, ◌∙◌}
use Rattle.rules.specs.Unique.{OneAnswer}
use Rattle.refusals.proofs.Known.{answer_known}
use Rattle.line_windows.proofs.frame.line_table.Reads as line_table
use Rattle.line_windows.proofs.ids.look_up.Reads as look_up

-- a line has one line table or one refusal
pub line_table_unique : OneAnswer line_table.Post
line_table_unique k args answer other exit exit' met met' = answer_known answer other (met.0 ∙ sym met'.0)

-- a pixel has one ID, served up to one last pixel, or one refusal
pub look_up_unique : OneAnswer look_up.Post
look_up_unique k args answer other exit exit' met met' = answer_known answer other (met.0 ∙ sym met'.0)
