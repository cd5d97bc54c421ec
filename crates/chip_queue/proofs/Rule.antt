-- The queue's part of the state's rule: what it says, and that calls keep it. Assumes nothing.
use Prim.Native.Nat.{ℕ, ◌≤◌, ◌<◌}
use mathlib.Core.Path.{◌≡◌, refl, ap, ◌∙◌}
use mathlib.Core.Bool.{true}
use mathlib.Core.List.{List, [], ◌∷◌}
use native.Mathlib.Omega.{arith}
use borrow.Author.Tests.{ltb-true, leb-true, lt-ltb, le-leb}
use lib.ListN.{length, get_or, take, drop}
use Rattle.std.proofs.lemmas.Bool.{and_parts}
use Rattle.std.proofs.lemmas.List.Elements.{All-get_or}
use Rattle.std.proofs.lemmas.List.Folds.{list_all-append}
use Rattle.std.proofs.lemmas.List.Sums.{AllPass-from_list_all}
use Rattle.chip_registers.specs.Blocks.{count}
use Rattle.chip_registers.specs.Kept.{fits}
use Rattle.chip_registers.specs.declared.Block.TheVariants.{ColourMap}
use Rattle.chip_queue.specs.Waiting.{register_of, good_write}
use Rattle.chip_queue.specs.Queue.{zero_slot, waiting_in, pushed, popped, HasSlots}
use Rattle.chip_queue.specs.Good.{all_good, good_queue}
use Rattle.chip_queue.specs.declared.Waiting.{Waiting}
use Rattle.chip_queue.specs.declared.Queue.{Queue}
use Rattle.chip_queue.proofs.Order.{pushed_is, waiting_pushed, waiting_popped}

-- ---- what the rule says

-- in a queue that keeps the rule at most 64 wait, and all that wait are good
pub good_says : (queue : Queue) → good_queue queue ≡ true → (queue.waiting ≤ 64) × (all_good (waiting_in queue) ≡ true)
unfolding good_queue
good_says queue good = let e = and_parts _ _ good in (leb-true _ _ e.0, e.1)

-- where at most 64 wait and all that wait are good, the queue keeps the rule
pub says_good : (queue : Queue) → queue.waiting ≤ 64 → all_good (waiting_in queue) ≡ true → good_queue queue ≡ true
unfolding good_queue
says_good queue few good = rw (le-leb _ _ few) good

-- where nothing waits, the rule is kept
pub none_good : (queue : Queue) → queue.waiting ≡ 0 → good_queue queue ≡ true
none_good queue none = says_good queue (omega arith) (ap (λ (count : ℕ). all_good (take count queue.slots)) none)

-- a good write goes to a colour entry, with no bits but those that it keeps
pub write_says : (write : Waiting) → good_write write ≡ true
    → (write.word < count ColourMap) × (fits (register_of write) write.value ≡ true)
unfolding good_write
write_says write good = let e = and_parts _ _ good in (ltb-true _ _ e.0, e.1)

-- a write to a colour entry with no bits but those that it keeps is good
pub says_write : (write : Waiting) → write.word < count ColourMap → fits (register_of write) write.value ≡ true → good_write write ≡ true
unfolding good_write
says_write write here fine = rw (lt-ltb _ _ here) fine

-- each of some good writes is good
pub good_each : (writes : List Waiting) (k : ℕ) → all_good writes ≡ true → k < length writes → good_write (get_or writes k zero_slot) ≡ true
good_each writes k good here = All-get_or (λ write. good_write write ≡ true) writes k zero_slot here (AllPass-from_list_all good_write writes good)

-- ---- that the rule is kept

-- good writes without the first are good
all_but_first : (writes : List Waiting) → all_good writes ≡ true → all_good (drop 1 writes) ≡ true
all_but_first [] h = refl
all_but_first (a ∷ writes) h = (and_parts (good_write a) (all_good writes) h).1

module _ (queue : Queue) (sized : HasSlots queue) (good : good_queue queue ≡ true) where
  -- a good write may join where there is room
  pub good_pushed : (write : Waiting) → queue.waiting < 64 → good_write write ≡ true → good_queue (pushed queue write) ≡ true
  good_pushed write more fine =
      says_good (pushed queue write) (rw (pushed_is queue write more) (omega arith))
      (ap all_good (waiting_pushed queue write more sized) ∙ rw (list_all-append good_write (waiting_in queue) (write ∷ []), (good_says queue good).1, fine) refl)

  -- the oldest may leave
  pub good_popped : good_queue (popped queue) ≡ true
  good_popped =
      let said = good_says queue good in
      says_good (popped queue) (omega (arith, said.0))
      (ap all_good (waiting_popped queue sized said.0) ∙ all_but_first (waiting_in queue) said.1)
