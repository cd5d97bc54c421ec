-- A state that keeps its rule has a good queue. Assumes nothing.
use Rattle.chip.proofs.Good.{good_says}
use Rattle.chip.proofs.state.State.passing.Goals as goal

pub apply-requires : goal.apply-requires
apply-requires c = ((good_says _ c.requires.0).3, c.requires.1, c.requires.2)
