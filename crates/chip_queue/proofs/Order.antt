-- The queue as a list, the oldest write first: a write joins at its end, and the oldest leaves from its front. Assumes nothing.
use Prim.Native.Nat.{ℕ, zero, suc, ◌+◌, ◌-◌, ◌≤◌, ◌<◌}
use mathlib.Core.Path.{◌≡◌, refl, ap, ◌∙◌}
use mathlib.Core.List.{List, [], ◌∷◌, ◌++◌}
use native.Mathlib.Numerals.{add-one}
use native.Mathlib.Omega.{arith}
use borrow.Author.Tests.{lt-leb}
use lib.ListN.{length, get_or, set, take, drop, length-set, length-append}
use lib.Seq.{take-suc-set}
use Rattle.std.proofs.lemmas.List.{take-append-le, length-drop, length-take-le}
use Rattle.chip_queue.specs.Queue.{zero_slot, HasSlots, waiting_in, full, oldest, pushed, popped, without}
use Rattle.chip_queue.specs.declared.Waiting.{Waiting}
use Rattle.chip_queue.specs.declared.Queue.{Queue}

module _ (queue : Queue) (write : Waiting) (more : queue.waiting < 64) where
  -- where there is room, a write takes the next slot
  pub pushed_is : pushed queue write ≡ record { waiting = queue.waiting + 1; slots = set queue.slots queue.waiting write }
  unfolding pushed full
  pushed_is = simp (lt-leb 64 queue.waiting more) refl

  -- where there is room, one more write stands behind those that wait
  pub waiting_pushed : HasSlots queue → waiting_in (pushed queue write) ≡ waiting_in queue ++ (write ∷ [])
  waiting_pushed sized = ap waiting_in pushed_is ∙ rw add-one (take-suc-set queue.slots queue.waiting write (omega arith))

  -- a queue with one more write has as many slots as before
  pub sized_pushed : HasSlots queue → HasSlots (pushed queue write)
  sized_pushed sized = rw pushed_is (simp length-set sized)

-- where all move up by one, those that waited but the first are the first now
take_shift : (n : ℕ) (slots : List Waiting) (last : Waiting) → n ≤ length slots → take (n - 1) (drop 1 slots ++ (last ∷ [])) ≡ drop 1 (take n slots)
take_shift zero slots last h = refl
take_shift (suc n) [] last h = absurd (omega arith)
take_shift (suc n) (a ∷ slots) last h =
    let e : suc n - 1 ≡ n = omega arith in
    rw e (take-append-le n slots (last ∷ []) (omega arith))

module _ (queue : Queue) (sized : HasSlots queue) where
  -- without the oldest write, the others wait in their order
  pub waiting_popped : queue.waiting ≤ 64 → waiting_in (popped queue) ≡ drop 1 (waiting_in queue)
  waiting_popped few = take_shift queue.waiting queue.slots zero_slot (omega arith)

  -- a queue without its oldest write has as many slots as before
  pub sized_popped : HasSlots (popped queue)
  sized_popped = simp (length-append, length-drop) (omega arith)

  -- the oldest is the front of those that wait
  pub waiting_front : 0 < queue.waiting → waiting_in queue ≡ oldest queue ∷ drop 1 (waiting_in queue)
  waiting_front some = by queue.waiting queue.slots some (omega arith)
    where
      -- of the first n slots, n above 0, the front is slot 0
      by : (n : ℕ) (slots : List Waiting) → 0 < n → 0 < length slots → take n slots ≡ get_or slots 0 zero_slot ∷ drop 1 (take n slots)
      by zero slots h l = absurd (omega arith)
      by (suc n) [] h l = absurd (omega arith)
      by (suc n) (a ∷ slots) h l = refl

-- a queue without so many of the oldest writes has as many slots as before
pub sized_without : (queue : Queue) → HasSlots queue → (count : ℕ) → HasSlots (without queue count)
unfolding without
sized_without queue sized zero = sized
sized_without queue sized (suc count) = sized_popped (without queue count) (sized_without queue sized count)

-- as many wait as the count says
pub length_waiting : (queue : Queue) → HasSlots queue → queue.waiting ≤ 64 → length (waiting_in queue) ≡ queue.waiting
length_waiting queue sized few = length-take-le queue.waiting queue.slots (omega arith)
