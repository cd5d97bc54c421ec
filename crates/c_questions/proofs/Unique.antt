-- No second answer meets a contract of this crate. Assumes nothing.
use Rattle.rules.specs.Unique.{OneAnswer}
use Rattle.rules.proofs.Unique.{by_equation}
use Rattle.c_questions.proofs.bulitampaw_entry_defined.Reads as entry_defined
use Rattle.c_questions.proofs.bulitampaw_signal_holds.Reads as signal_holds
use Rattle.c_questions.proofs.bulitampaw_version_1.Reads as version_1

-- one answer says whether a window entry is defined
pub entry_defined_unique : OneAnswer entry_defined.Post
entry_defined_unique = by_equation _ _

-- one answer says whether a signal holds
pub signal_holds_unique : OneAnswer signal_holds.Post
signal_holds_unique = by_equation _ _

-- the library has one version
pub version_1_unique : OneAnswer version_1.Post
version_1_unique = by_equation _ _
