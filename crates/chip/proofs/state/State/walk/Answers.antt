-- Where all writes are taken, every dot only moves. Assumes nothing.
use Rattle.chip.proofs.Passes.{walks_all}
use Rattle.chip.proofs.state.State.walk.Goals as goal

pub returns-then-self-pass : goal.returns-then-self-pass
returns-then-self-pass c = rw c.after.ensures (walks_all c.args.self c.args.pass c.args.count c.if-self-pass.true)
