-- A refusal is known by its number and values. Assumes nothing.
use Prim.Native.Nat.{ℕ}
use mathlib.Core.Path.{◌≡◌, refl, ap, sym, ◌∙◌}
use mathlib.Core.List.{List, [], ◌∷◌}
use lib.ListN.{get_or}
use Rattle.std.specs.Prelude.{Result, Ok, Err}
use Rattle.rules.specs.Rule.{Outcome, ok, refused}
use Rattle.rules.specs.Faults.{Numbered, place_in}
use Rattle.refusals.specs.Refusal.{numbered, refusal_place, outcome_of}
use Rattle.refusals.specs.declared.Refusal.{Refusal}
use Rattle.refusals.specs.declared.Refusal.TheVariants.{NoRegister, ReadOnly, StrayBits, QueueFull, StoreLength, TableLength, NormalLength, OverlayLength, OutputLength, BelowActive, NoFrameEntry, NoLineEntry, UndefinedEntry, AboveTotal, BadState, WrongRecord, FileEnds, TooMuch}

-- the refusals of a wrong length, in the order of their places
abbrev wrong_lengths : List Refusal
wrong_lengths = BadState ∷ StoreLength ∷ TableLength ∷ NormalLength ∷ OverlayLength ∷ OutputLength ∷ []

-- the refusals at a place, in the order of their numbers
abbrev refusals_at : ℕ → List Refusal
refusals_at place =
    BadState
    ∷ NoRegister place
    ∷ ReadOnly place
    ∷ StrayBits place
    ∷ QueueFull place
    ∷ get_or wrong_lengths place BadState
    ∷ BelowActive place
    ∷ NoFrameEntry place
    ∷ NoLineEntry place
    ∷ UndefinedEntry place
    ∷ AboveTotal
    ∷ BadState
    ∷ WrongRecord place
    ∷ FileEnds place
    ∷ TooMuch place
    ∷ []

-- the refusal of a number and its values
abbrev pub refusal_of : Numbered → Refusal
refusal_of said = get_or (refusals_at (place_in said)) said.number BadState

-- no two refusals say the same
pub known : (refusal : Refusal) → refusal_of (numbered refusal) ≡ refusal
known (NoRegister address) = refl
known (ReadOnly address) = refl
known (StrayBits address) = refl
known (QueueFull address) = refl
known StoreLength = refl
known TableLength = refl
known NormalLength = refl
known OverlayLength = refl
known OutputLength = refl
known (BelowActive y) = refl
known (NoFrameEntry y) = refl
known (NoLineEntry x) = refl
known (UndefinedEntry x) = refl
known AboveTotal = refl
known BadState = refl
known (WrongRecord number) = refl
known (FileEnds number) = refl
known (TooMuch number) = refl

-- every refusal has one value, its place
pub one_value : (refusal : Refusal) → (numbered refusal).values ≡ refusal_place refusal ∷ []
one_value (NoRegister address) = refl
one_value (ReadOnly address) = refl
one_value (StrayBits address) = refl
one_value (QueueFull address) = refl
one_value StoreLength = refl
one_value TableLength = refl
one_value NormalLength = refl
one_value OverlayLength = refl
one_value OutputLength = refl
one_value (BelowActive y) = refl
one_value (NoFrameEntry y) = refl
one_value (NoLineEntry x) = refl
one_value (UndefinedEntry x) = refl
one_value AboveTotal = refl
one_value BadState = refl
one_value (WrongRecord number) = refl
one_value (FileEnds number) = refl
one_value (TooMuch number) = refl

-- the answer that says so
abbrev pub answer_of : {A : Type 0} → Outcome Numbered A → Result A Refusal
answer_of (ok answer) = Ok answer
answer_of (refused refusal) = Err (refusal_of refusal)

-- an answer is known by what it says
pub answer_back : {A : Type 0} (answer : Result A Refusal) → answer_of (outcome_of answer) ≡ answer
answer_back (Ok answer) = refl
answer_back (Err refusal) = ap Err (known refusal)

-- two answers that say the same are the same
pub answer_known : {A : Type 0} (answer other : Result A Refusal) → outcome_of answer ≡ outcome_of other → answer ≡ other
answer_known answer other says = sym (answer_back answer) ∙ ap answer_of says ∙ answer_back other
