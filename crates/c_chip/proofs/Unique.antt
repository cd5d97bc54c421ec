-- No second answer meets a contract of this crate, and none leaves lent memory otherwise. Assumes nothing.
use Rattle.rules.specs.Unique.{OneAnswer, OneOutcome}
use Rattle.rules.proofs.Unique.{by_equation, by_pair}
use Rattle.c_chip.proofs.calls.bulitampaw_fresh.Reads as fresh
use Rattle.c_chip.proofs.calls.bulitampaw_write.Reads as write
use Rattle.c_chip.proofs.calls.bulitampaw_read.Reads as read
use Rattle.c_chip.proofs.calls.bulitampaw_dot.Reads as dot
use Rattle.c_chip.proofs.calls.bulitampaw_dots.Reads as dots
use Rattle.c_chip.proofs.calls.bulitampaw_line.Reads as line
use Rattle.c_chip.proofs.numbers.ReportedFromOptionSignals.from.Reads as reported

-- one state is fresh
pub fresh_unique : OneAnswer fresh.Post
fresh_unique = by_equation _ _

-- a write has one answer and leaves one store
pub write_unique : OneOutcome (λ k exit. exit.1.0.now) write.Post
write_unique = by_pair _ (λ k exit. exit.1.0.now) _

-- a read has one answer
pub read_unique : OneAnswer read.Post
read_unique = by_equation _ _

-- a dot has one answer and leaves one store
pub dot_unique : OneOutcome (λ k exit. exit.1.0.now) dot.Post
dot_unique = by_pair _ (λ k exit. exit.1.0.now) _

-- so many dots have one answer and leave one store
pub dots_unique : OneOutcome (λ k exit. exit.1.0.now) dots.Post
dots_unique = by_pair _ (λ k exit. exit.1.0.now) _

-- a line has one answer and leaves one output
pub line_unique : OneOutcome (λ k exit. exit.1.1.1.1.1.1.0.now) line.Post
line_unique = by_pair _ (λ k exit. exit.1.1.1.1.1.1.0.now) _

-- one answer says a report in numbers
pub reported_unique : OneAnswer reported.Post
reported_unique = by_equation _ _
