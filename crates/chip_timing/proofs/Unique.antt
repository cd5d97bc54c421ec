-- No second answer meets a contract of this crate. Assumes nothing.
use Rattle.rules.specs.Unique.{OneAnswer}
use Rattle.rules.proofs.Unique.{by_equation}
use Rattle.chip_timing.proofs.in_window.Reads as in_window
use Rattle.chip_timing.proofs.Position.next.Reads as next
use Rattle.chip_timing.proofs.Position.after.Reads as after
use Rattle.chip_timing.proofs.Windows.signals.Reads as signals
use Rattle.chip_timing.proofs.Windows.to_blank.Reads as to_blank

-- one answer says whether a place is in a window
pub in_window_unique : OneAnswer in_window.Post
in_window_unique = by_equation _ _

-- one answer says the next position
pub next_unique : OneAnswer next.Post
next_unique = by_equation _ _

-- one answer says the position after so many moves
pub after_unique : OneAnswer after.Post
after_unique = by_equation _ _

-- one answer says the signals of a position
pub signals_unique : OneAnswer signals.Post
signals_unique = by_equation _ _

-- one answer says where the walk to a blanked position ends, and how many moves are left
pub to_blank_unique : OneAnswer to_blank.Post
to_blank_unique = by_equation _ _
