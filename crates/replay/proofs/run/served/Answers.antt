-- `served`: a turn that asks for bytes.
use Rattle.replay.proofs.run.served.Goals as goal

pub returns-in-Read : goal.returns-in-Read
returns-in-Read c = rw c.in-Read.is c.read_after.ensures
