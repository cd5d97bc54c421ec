-- A state that keeps its rule has a position of at most 4,095 either way. Assumes nothing.
use Rattle.chip.proofs.Good.{good_says}
use Rattle.chip.proofs.state.State.shown_of_control.Goals as goal

pub shown_by-requires : goal.shown_by-requires
shown_by-requires c = let said = good_says _ c.requires.0 in (said.1, said.2, c.requires.1)
