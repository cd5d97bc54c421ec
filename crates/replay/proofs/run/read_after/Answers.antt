-- `read_after`: the text is written out, and then more is read.
use Rattle.std.proofs.Common.{inr}
use Rattle.replay.proofs.run.read_after.Goals as goal

pub returns-then-write_out : goal.returns-then-write_out
returns-then-write_out c = inr (rw c.written_out.ensures at c.read_on.ensures)
