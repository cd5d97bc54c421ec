-- What the slots hold where the oldest writes leave and the others move up. Assumes nothing.
use Prim.Native.Nat.{ℕ, zero, suc, ◌+◌, ◌-◌}
use mathlib.Core.Path.{◌≡◌, refl, ap, sym, ◌∙◌}
use mathlib.Core.List.{List, [], ◌∷◌, ◌++◌}
use native.Mathlib.Nat.{zero-add}
use native.Mathlib.Omega.{arith}
use lib.ListN.{length, get_or, set, take, drop}
use Rattle.chip_queue.specs.Queue.{zero_slot, oldest, without}
use Rattle.chip_queue.specs.declared.Waiting.{Waiting}
use Rattle.chip_queue.specs.declared.Queue.{Queue}

-- where the first goes behind the others and the place behind them is set anew, the first is gone and the last is new
pub turned : (slots : List Waiting) (i : ℕ) (last : Waiting) → length slots ≡ suc i → set (drop 1 slots ++ take 1 slots) i last ≡ drop 1 slots ++ (last ∷ [])
turned [] i last h = absurd (omega arith)
turned (a ∷ []) zero last h = refl
turned (a ∷ []) (suc i) last h = absurd (omega arith)
turned (a ∷ b ∷ others) zero last h = absurd (omega arith)
turned (a ∷ b ∷ others) (suc i) last h = ap (λ (rest : List Waiting). b ∷ rest) (turned (a ∷ others) i last (omega arith))

-- where all move up by one, a slot holds what stood behind it
moved_up : (slots : List Waiting) (i : ℕ) → get_or (drop 1 slots ++ (zero_slot ∷ [])) i zero_slot ≡ get_or slots (suc i) zero_slot
moved_up [] zero = refl
moved_up [] (suc i) = refl
moved_up (a ∷ []) zero = refl
moved_up (a ∷ []) (suc i) = refl
moved_up (a ∷ b ∷ others) zero = refl
moved_up (a ∷ b ∷ others) (suc i) = moved_up (b ∷ others) i

-- without some of the oldest, a slot holds what stood as many behind it
slot_without : (queue : Queue) (count i : ℕ) → get_or (without queue count).slots i zero_slot ≡ get_or queue.slots (count + i) zero_slot
unfolding without
slot_without queue zero i = rw zero-add refl
slot_without queue (suc count) i =
    let on : count + suc i ≡ suc count + i = omega arith in
    moved_up (without queue count).slots i ∙ slot_without queue count (suc i) ∙ ap (λ (at : ℕ). get_or queue.slots at zero_slot) on

-- the write in a slot is the oldest without those before it
pub slot_oldest : (queue : Queue) (i : ℕ) → get_or queue.slots i zero_slot ≡ oldest (without queue i)
slot_oldest queue i =
    let here : i + 0 ≡ i = omega arith in
    sym (slot_without queue i 0 ∙ ap (λ (at : ℕ). get_or queue.slots at zero_slot) here)

-- without some of the oldest, as many fewer wait
pub waiting_without : (queue : Queue) (count : ℕ) → (without queue count).waiting ≡ queue.waiting - count
unfolding without
waiting_without queue zero = omega arith
waiting_without queue (suc count) = let before = waiting_without queue count in omega arith
