-- No second answer meets a contract of this crate. Assumes nothing.
use Rattle.rules.specs.Unique.{OneAnswer}
use Rattle.rules.proofs.Unique.{by_equation}
use Rattle.session_records.proofs.record.record_at.Reads as record_at

-- one answer alone meets the contract of `record_at`
pub record_at_unique : OneAnswer record_at.Post
record_at_unique = by_equation _ _
