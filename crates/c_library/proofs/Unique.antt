-- No second answer meets a contract of this crate, and none leaves lent memory otherwise. Assumes nothing.
use Rattle.std.specs.Prelude.{ℕ, List}
use Rattle.rules.specs.Unique.{OneAnswer, OneOutcome}
use Rattle.rules.proofs.Unique.{by_equation, by_pair}
use Rattle.session.specs.Lent.{Rooms, rooms_of}
use Rattle.c_library.proofs.questions.bulitampaw_entry_defined.Reads as entry_defined
use Rattle.c_library.proofs.questions.bulitampaw_signal_holds.Reads as signal_holds
use Rattle.c_library.proofs.questions.bulitampaw_version_1.Reads as version_1
use Rattle.c_library.proofs.calls.bulitampaw_fresh.Reads as fresh
use Rattle.c_library.proofs.calls.bulitampaw_write.Reads as write
use Rattle.c_library.proofs.calls.bulitampaw_read.Reads as read
use Rattle.c_library.proofs.calls.bulitampaw_dot.Reads as dot
use Rattle.c_library.proofs.calls.bulitampaw_dots.Reads as dots
use Rattle.c_library.proofs.calls.bulitampaw_line.Reads as line
use Rattle.c_library.proofs.steps.bulitampaw_fresh_session.Reads as fresh_session
use Rattle.c_library.proofs.steps.bulitampaw_step.Reads as step

-- one answer says whether a window entry is defined
pub entry_defined_unique : OneAnswer entry_defined.Post
entry_defined_unique = by_equation _ _

-- one answer says whether a signal holds
pub signal_holds_unique : OneAnswer signal_holds.Post
signal_holds_unique = by_equation _ _

-- the library has one version
pub version_1_unique : OneAnswer version_1.Post
version_1_unique = by_equation _ _

-- one state is fresh
pub fresh_unique : OneAnswer fresh.Post
fresh_unique = by_equation _ _

-- a write has one answer and leaves one store
pub write_unique : OneOutcome (λ k exit. exit.1.0.now) write.Post
write_unique = by_pair _ (λ k exit. exit.1.0.now) _

-- a read has one answer
pub read_unique : OneAnswer read.Post
read_unique = by_equation _ _

-- a dot has one answer and leaves one store
pub dot_unique : OneOutcome (λ k exit. exit.1.0.now) dot.Post
dot_unique = by_pair _ (λ k exit. exit.1.0.now) _

-- so many dots have one answer and leave one store
pub dots_unique : OneOutcome (λ k exit. exit.1.0.now) dots.Post
dots_unique = by_pair _ (λ k exit. exit.1.0.now) _

-- a line has one answer and leaves one output
pub line_unique : OneOutcome (λ k exit. exit.1.1.1.1.1.1.0.now) line.Post
line_unique = by_pair _ (λ k exit. exit.1.1.1.1.1.1.0.now) _

-- one session alone meets the contract of `bulitampaw_fresh_session`
pub fresh_session_unique : OneAnswer fresh_session.Post
fresh_session_unique = by_equation _ _

-- one answer, with one text and rooms, meets the contract of `bulitampaw_step`
pub step_unique : OneOutcome {Memory = Rooms × List ℕ}
    (λ k exit. (rooms_of exit.1.1.1.1.0.now exit.1.1.1.1.1.0.now exit.1.1.1.1.1.1.0.now exit.1.1.1.1.1.1.1.0.now exit.1.1.1.1.1.1.1.1.0.now, exit.1.1.1.1.1.1.1.1.1.0.now))
    step.Post
step_unique =
    by_pair {Memory = Rooms × List ℕ} _
    (λ k exit. (rooms_of exit.1.1.1.1.0.now exit.1.1.1.1.1.0.now exit.1.1.1.1.1.1.0.now exit.1.1.1.1.1.1.1.0.now exit.1.1.1.1.1.1.1.1.0.now, exit.1.1.1.1.1.1.1.1.1.0.now))
    _
