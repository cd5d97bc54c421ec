-- The faults that a call looks for, in order, and what a refused call leaves.
use Rattle.std.specs.Prelude.{ℕ, ◌≡◌, Bool, true, false, cond, List, [], ◌∷◌, ◌++◌, get_or}
use Rattle.rules.specs.Rule.{Outcome, ok, refused}

-- a refusal as the paper gives it: its number, and its values, of which the place is the first
pub record Numbered : Type 0 where
  pub number : ℕ
  pub values : List ℕ

-- a fault that a call looks for: whether it holds, and how it is then refused
pub record Fault : Type 0 where
  pub holds : Bool
  pub refusal : Numbered

-- none of some faults holds
abbrev pub Clear : List Fault → Type 0
Clear [] = Unit {0}
Clear (fault ∷ faults) = (fault.holds ≡ false) × Clear faults

-- of some faults, all before this one are clear, and this one holds and is refused so (CHIP 8.1)
pub record First (faults : List Fault) (refusal : Numbered) : Type 0 where
  pub passed : List Fault
  pub found : Fault
  pub later : List Fault
  pub order : faults ≡ passed ++ (found ∷ later)
  pub clear : Clear passed
  pub holds : found.holds ≡ true
  pub is : found.refusal ≡ refusal

-- the place of a refusal: the first of its values
abbrev pub place_in : Numbered → ℕ
place_in refusal = get_or refusal.values 0 0

module _ {Memory Answer : Type 0} where
  -- what a call leaves and answers: at the first fault that holds all is left as it was, with its refusal; where none holds, what the call does (CHIP 8.1)
  abbrev pub unless : List Fault → Memory → Memory × Answer → Memory × Outcome Numbered Answer
  unless [] before result = (result.0, ok result.1)
  unless (fault ∷ faults) before result = cond fault.holds (before, refused fault.refusal) (unless faults before result)
