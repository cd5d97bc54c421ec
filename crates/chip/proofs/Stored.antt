-- Writes that go into the store, one after the other: each goes to a word of it, and it keeps its length. Assumes nothing.
use Prim.Native.Nat.{ℕ, zero, suc, ◌+◌, ◌≤◌, ◌<◌}
use mathlib.Core.Path.{◌≡◌, refl, ap, subst, ◌∙◌}
use mathlib.Core.Bool.{true}
use mathlib.Core.List.{List}
use native.Mathlib.Numerals.{add-one}
use native.Mathlib.Omega.{arith}
use lib.ListN.{length, get_or, set, take, length-set, length-take}
use lib.Seq.{get_or-take}
use Rattle.chip_registers.specs.Store.{store_length}
use Rattle.chip_queue.specs.Waiting.{good_write, target}
use Rattle.chip_queue.specs.Queue.{zero_slot, waiting_in}
use Rattle.chip_queue.specs.Good.{good_queue}
use Rattle.chip_queue.specs.declared.Waiting.{Waiting}
use Rattle.chip_queue.specs.declared.Queue.{Queue}
use Rattle.chip_queue.proofs.Slots.{slot_oldest}
use Rattle.chip_queue.proofs.Rule.{good_says, good_each, write_says}
use Rattle.chip.specs.Inner.{stored_by}

-- no write is in the store at first
pub stored_none : (queue : Queue) (store : List ℕ) → store ≡ stored_by 0 queue store
unfolding stored_by
stored_none queue store = refl

-- the store has as many words
pub stored_length : (queue : Queue) (store : List ℕ) (count : ℕ) → length (stored_by count queue store) ≡ length store
unfolding stored_by
stored_length queue store zero = refl
stored_length queue store (suc count) = simp length-set (stored_length queue store count)

-- in a good queue no more wait than there are slots
pub few_wait : (queue : Queue) → good_queue queue ≡ true → queue.waiting ≤ 64
few_wait queue good = (good_says queue good).0

module _ (queue : Queue) (taken : ℕ) (good : good_queue queue ≡ true) (some : taken ≤ queue.waiting) where
  module _ (i : ℕ) (here : i < length (take taken queue.slots)) where
    -- its turn comes before as many turns as are taken
    turn : i < taken
    turn = omega (arith, simp length-take at here)

    -- a write that is taken goes to a word of the store
    pub taken_inside : target (get_or (take taken queue.slots) i zero_slot) < store_length
    taken_inside =
        let said = good_says queue good in
        let before : i < length (waiting_in queue) = simp length-take (omega (arith, turn, simp length-take at here)) in
        let fine : good_write (get_or queue.slots i zero_slot) ≡ true =
        subst (λ (write : Waiting). good_write write ≡ true) (get_or-take queue.waiting queue.slots i zero_slot (omega (arith, turn)))
        (good_each (waiting_in queue) i said.1 before) in
        rw (get_or-take taken queue.slots i zero_slot turn) (omega (arith, (write_says (get_or queue.slots i zero_slot) fine).0))

    -- one write more in the store
    pub stored_more : (store before : List ℕ) → store ≡ stored_by i queue before
        → let write = get_or (take taken queue.slots) i zero_slot in set store (target write) write.value ≡ stored_by (i + 1) queue before
    unfolding stored_by
    stored_more store before is =
        rw (get_or-take taken queue.slots i zero_slot turn, add-one)
        (let write = get_or queue.slots i zero_slot in
        ap (λ (store : List ℕ). set store (target write) write.value) is
        ∙ ap (λ (oldest : Waiting). set (stored_by i queue before) (target oldest) oldest.value) (slot_oldest queue i))
