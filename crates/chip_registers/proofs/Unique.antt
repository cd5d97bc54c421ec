-- No second answer meets a contract of this crate. Assumes nothing.
use Rattle.rules.specs.Unique.{OneAnswer}
use Rattle.rules.proofs.Unique.{by_equation}
use Rattle.chip_registers.proofs.Block.row.Reads as row
use Rattle.chip_registers.proofs.Block.start.Reads as start
use Rattle.chip_registers.proofs.Block.count.Reads as count
use Rattle.chip_registers.proofs.Block.store_start.Reads as store_start
use Rattle.chip_registers.proofs.place.Reads as place
use Rattle.chip_registers.proofs.Register.at.Reads as at
use Rattle.chip_registers.proofs.Register.kept.Reads as kept
use Rattle.chip_registers.proofs.Register.fits.Reads as fits
use Rattle.chip_registers.proofs.Register.store_place.Reads as store_place
use Rattle.chip_registers.proofs.Register.read_only.Reads as read_only_lem
use Rattle.chip_registers.proofs.Register.waits.Reads as waits

-- one answer says a block's row
pub row_unique : OneAnswer row.Post
row_unique = by_equation _ _

-- one answer says a block's start
pub start_unique : OneAnswer start.Post
start_unique = by_equation _ _

-- one answer says how many words a block has
pub count_unique : OneAnswer count.Post
count_unique = by_equation _ _

-- one answer says how many words of the store stand before a block's
pub store_start_unique : OneAnswer store_start.Post
store_start_unique = by_equation _ _

-- one answer says an address without its top byte
pub place_unique : OneAnswer place.Post
place_unique = by_equation _ _

-- one answer says what an address names
pub at_unique : OneAnswer at.Post
at_unique = by_equation _ _

-- one answer says the bits of a value that a register keeps
pub kept_unique : OneAnswer kept.Post
kept_unique = by_equation _ _

-- one answer says whether a value fits a register
pub fits_unique : OneAnswer fits.Post
fits_unique = by_equation _ _

-- one answer says where a register stands in the store
pub store_place_unique : OneAnswer store_place.Post
store_place_unique = by_equation _ _

-- one answer says whether a register can only be read
pub read_only_unique : OneAnswer read_only_lem.Post
read_only_unique = by_equation _ _

-- one answer says whether a write to a register waits
pub waits_unique : OneAnswer waits.Post
waits_unique = by_equation _ _
