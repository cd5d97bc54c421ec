-- No second answer meets a contract of this crate, and none leaves lent memory otherwise. Assumes nothing.
use Prim.Native.Nat.{ℕ}
use mathlib.Core.List.{List}
use Rattle.rules.specs.Unique.{OneAnswer, OneOutcome}
use Rattle.rules.proofs.Unique.{by_equation, by_pair}
use Rattle.session.specs.Lent.{Rooms, rooms_of}
use Rattle.c_session.proofs.steps.bulitampaw_fresh_session.Reads as fresh_session
use Rattle.c_session.proofs.steps.bulitampaw_step.Reads as step

-- one session alone meets the contract of `bulitampaw_fresh_session`
pub fresh_session_unique : OneAnswer fresh_session.Post
fresh_session_unique = by_equation _ _

-- one answer, with one text and rooms, meets the contract of `bulitampaw_step`
pub step_unique : OneOutcome {Memory = Rooms × List ℕ}
    (λ k exit. (rooms_of exit.1.1.1.1.0.now exit.1.1.1.1.1.0.now exit.1.1.1.1.1.1.0.now exit.1.1.1.1.1.1.1.0.now exit.1.1.1.1.1.1.1.1.0.now, exit.1.1.1.1.1.1.1.1.1.0.now))
    step.Post
step_unique =
    by_pair {Memory = Rooms × List ℕ} _
    (λ k exit. (rooms_of exit.1.1.1.1.0.now exit.1.1.1.1.1.0.now exit.1.1.1.1.1.1.0.now exit.1.1.1.1.1.1.1.0.now exit.1.1.1.1.1.1.1.1.0.now, exit.1.1.1.1.1.1.1.1.1.0.now))
    _
