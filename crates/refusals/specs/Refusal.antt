-- The table of refusals: the paper's number and values of each.
use Rattle.std.specs.Prelude.{ℕ, Bool, [], ◌∷◌, Result, Ok, Err}
use Rattle.rules.specs.Rule.{Outcome, ok, refused}
use Rattle.rules.specs.Faults.{Numbered, Fault, place_in}
use Rattle.refusals.specs.declared.Refusal.{Refusal}
use Rattle.refusals.specs.declared.Refusal.TheVariants.{NoRegister, ReadOnly, StrayBits, QueueFull, StoreLength, TableLength, NormalLength, OverlayLength, OutputLength, BelowActive, NoFrameEntry, NoLineEntry, UndefinedEntry, AboveTotal, BadState, WrongRecord, FileEnds, TooMuch}

-- a number, with the place as the only value
abbrev number_at : ℕ → ℕ → Numbered
number_at number place = record { number = number; values = place ∷ [] }

-- 1 to 4 are placed at the address; 5 at 1 for the store, 2 the table, 3 the normal row, 4 the overlay row, 5 the output; 6 and 7 at the line, 8 and 9 at the pixel, 10 and 11 at 0; 12 to 14 at the record (CHIP 8.1)
abbrev pub numbered : Refusal → Numbered
numbered (NoRegister address) = number_at 1 address
numbered (ReadOnly address) = number_at 2 address
numbered (StrayBits address) = number_at 3 address
numbered (QueueFull address) = number_at 4 address
numbered StoreLength = number_at 5 1
numbered TableLength = number_at 5 2
numbered NormalLength = number_at 5 3
numbered OverlayLength = number_at 5 4
numbered OutputLength = number_at 5 5
numbered (BelowActive y) = number_at 6 y
numbered (NoFrameEntry y) = number_at 7 y
numbered (NoLineEntry x) = number_at 8 x
numbered (UndefinedEntry x) = number_at 9 x
numbered AboveTotal = number_at 10 0
numbered BadState = number_at 11 0
numbered (WrongRecord number) = number_at 12 number
numbered (FileEnds number) = number_at 13 number
numbered (TooMuch number) = number_at 14 number

-- the number of a refusal (CHIP 8.1)
abbrev pub refusal_number : Refusal → ℕ
refusal_number refusal = (numbered refusal).number

-- the place of a refusal (CHIP 8.1)
abbrev pub refusal_place : Refusal → ℕ
refusal_place refusal = place_in (numbered refusal)

-- a fault that a call looks for: refused so where the test holds
abbrev pub fault : Refusal → Bool → Fault
fault refusal holds = record { holds = holds; refusal = numbered refusal }

-- what an answer says: what was asked for, or a refusal's number and values
abbrev pub outcome_of : {A : Type 0} → Result A Refusal → Outcome Numbered A
outcome_of (Ok answer) = ok answer
outcome_of (Err refusal) = refused (numbered refusal)
