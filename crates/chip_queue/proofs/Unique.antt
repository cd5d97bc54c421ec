-- No second answer meets a contract of this crate. Assumes nothing.
use Rattle.rules.specs.Unique.{OneAnswer}
use Rattle.rules.proofs.Unique.{by_equation}
use Rattle.chip_queue.proofs.Waiting.good.Reads as good_write
use Rattle.chip_queue.proofs.Waiting.target.Reads as target
use Rattle.chip_queue.proofs.Queue.new.Reads as new
use Rattle.chip_queue.proofs.Queue.room.Reads as room
use Rattle.chip_queue.proofs.Queue.full.Reads as full
use Rattle.chip_queue.proofs.Queue.pushed.Reads as pushed
use Rattle.chip_queue.proofs.Queue.without.Reads as without
use Rattle.chip_queue.proofs.Queue.good.Reads as good

-- one answer says whether a write may wait
pub waiting_good_unique : OneAnswer good_write.Post
waiting_good_unique = by_equation _ _

-- one answer says where a write goes in the store
pub target_unique : OneAnswer target.Post
target_unique = by_equation _ _

-- one answer says the queue in which nothing waits
pub new_unique : OneAnswer new.Post
new_unique = by_equation _ _

-- one answer says how many more writes can wait
pub room_unique : OneAnswer room.Post
room_unique = by_equation _ _

-- one answer says whether the queue is full
pub full_unique : OneAnswer full.Post
full_unique = by_equation _ _

-- one answer says the queue with one more write
pub pushed_unique : OneAnswer pushed.Post
pushed_unique = by_equation _ _

-- one answer says the queue without so many of the oldest writes
pub without_unique : OneAnswer without.Post
without_unique = by_equation _ _

-- one answer says whether a queue keeps the rule
pub queue_good_unique : OneAnswer good.Post
queue_good_unique = by_equation _ _
