-- `to_front`: what is copied are the bytes from the one place to the other.
use Rattle.replay.proofs.Front.{moved}
use Rattle.replay.proofs.input.to_front.Goals as goal

pub returns : goal.returns
returns c = moved c.args.input.now c.args.to c.requires c.args.from c.min-start.ensures c.copy_within.ensures.after
