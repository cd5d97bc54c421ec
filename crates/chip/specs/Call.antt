-- What writes, reads and dots look at first: the state's rule, then the store's length.
use Rattle.std.specs.Prelude.{ℕ, not, List, [], ◌∷◌, eqb}
use Rattle.rules.specs.Faults.{Fault}
use Rattle.refusals.specs.Refusal.{fault}
use Rattle.refusals.specs.declared.Refusal.TheVariants.{StoreLength, BadState}
use Rattle.chip_registers.specs.Store.{store_length}
use Rattle.chip.specs.State.{good_state}
use Rattle.chip.specs.declared.state.State.{State}

-- the state, and the words of the lent store
abbrev pub Chip : Type 0
Chip = State × List ℕ

-- the faults of a state and a store of so many words: a bad state is 11, then another length is 5 (CHIP 8.2, 8.3, 8.4)
abbrev pub call_faults : State → ℕ → List Fault
call_faults state words = fault BadState (not (good_state state)) ∷ fault StoreLength (not (eqb words store_length)) ∷ []
