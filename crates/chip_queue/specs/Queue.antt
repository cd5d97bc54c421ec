-- The queue: of 64 slots the first ones hold the colour writes that wait, the oldest in slot 0.
use Rattle.std.specs.Prelude.{ℕ, zero, suc, ◌+◌, ◌-◌, ◌≡◌, Bool, cond, List, [], ◌∷◌, ◌++◌, leb, length, get_or, set, take, drop, replicate}
use Rattle.chip_queue.specs.declared.Waiting.{Waiting}
use Rattle.chip_queue.specs.declared.Queue.{Queue}

-- how many writes can wait (CHIP 3.6)
abbrev pub most_waiting : ℕ
most_waiting = 64

-- what a slot holds that never held a write (CHIP 2.7)
abbrev pub zero_slot : Waiting
zero_slot = record { word = 0; value = 0 }

-- there are 64 slots: the array of the code has them, where a definition sees a list
abbrev pub HasSlots : Queue → Type 0
HasSlots queue = length queue.slots ≡ most_waiting

-- nothing waits, and every slot is zero (CHIP 2.7)
abbrev pub empty_queue : Queue
empty_queue = record { waiting = 0; slots = replicate most_waiting zero_slot }

-- the writes that wait, the oldest first (CHIP 3.6)
abbrev pub waiting_in : Queue → List Waiting
waiting_in queue = take queue.waiting queue.slots

-- room is 64 less waiting, and 0 where more wait than that (CHIP 2.3)
abbrev pub room : Queue → ℕ
room queue = most_waiting - queue.waiting

-- 64 wait, or in a bad state more (CHIP 3.6)
unfoldable pub full : Queue → Bool
full queue = leb most_waiting queue.waiting

-- the write in slot 0 (CHIP 3.6)
abbrev pub oldest : Queue → Waiting
oldest queue = get_or queue.slots 0 zero_slot

-- one more write, behind those that wait; a full queue stays as it is (CHIP 3.6)
unfoldable pub pushed : Queue → Waiting → Queue
pushed queue write =
    cond (full queue) queue
    (record { waiting = queue.waiting + 1; slots = set queue.slots queue.waiting write })

-- the oldest leaves, every other slot moves up by one, and the last becomes zero (CHIP 3.3, 3.6)
abbrev pub popped : Queue → Queue
popped queue = record { waiting = queue.waiting - 1; slots = drop 1 queue.slots ++ (zero_slot ∷ []) }

-- so many of the oldest leave, one after the other (CHIP 3.3, 3.6)
unfoldable pub without : Queue → ℕ → Queue
without queue zero = queue
without queue (suc count) = popped (without queue count)
