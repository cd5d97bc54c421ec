-- The state's rule: what it says, and that a fresh state has it and writes and dots keep it. Assumes nothing.
use Prim.Native.Nat.{ℕ, zero, suc, ◌+◌, ◌≤◌, ◌<◌}
use mathlib.Core.Path.{◌≡◌, refl, ◌∙◌}
use mathlib.Core.Bool.{Bool, true, false, cond, ◌&&◌}
use mathlib.Core.List.{List, [], ◌∷◌}
use native.Mathlib.Nat.{add-zero, zero-add, suc-add}
use native.Mathlib.Omega.{arith}
use borrow.Author.Tests.{leb-true, leb-false, le-leb}
use lib.ListN.{length, set, length-set}
use Rattle.std.proofs.lemmas.Bool.{and_parts}
use Rattle.chip_timing.proofs.Move.{next_x_lt, next_y_lt}
use Rattle.chip_registers.specs.Blocks.{count}
use Rattle.chip_registers.specs.Kept.{kept_of_control, fits}
use Rattle.chip_registers.specs.Access.{waits_in, waits}
use Rattle.chip_registers.specs.declared.Block.{Block}
use Rattle.chip_registers.specs.declared.Block.TheVariants.{Control, WindowEntries, ColourMap, GammaMap, CursorGlyph, CursorColours}
use Rattle.chip_registers.specs.declared.Register.{Register}
use Rattle.chip_registers.proofs.Map.{register_in}
use Rattle.chip_queue.specs.Queue.{full}
use Rattle.chip_queue.specs.Good.{good_queue}
use Rattle.chip_queue.specs.declared.Waiting.{Waiting}
use Rattle.chip_queue.specs.declared.Queue.{Queue}
use Rattle.chip_queue.proofs.Order.{sized_pushed, sized_popped}
use Rattle.chip_queue.proofs.Rule.{says_write, good_pushed, good_popped}
use Rattle.chip.specs.State.{HasArrays, fresh, control_word, good_words, good_state}
use Rattle.chip.specs.Call.{Chip}
use Rattle.chip.specs.Write.{put}
use Rattle.chip.specs.Dot.{drains, oldest_applied, moved, after_dot}
use Rattle.chip.specs.Dots.{after_dots}
use Rattle.chip.specs.declared.state.State.{State}

-- what holds of both of two values holds of the one that a test chooses
pub chosen : {A : Type 0} (Holds : A → Type 0) (test : Bool) {one other : A} → Holds one → Holds other → Holds (cond test one other)
chosen Holds true h k = h
chosen Holds false h k = k

-- ---- what the rule says

-- a state that keeps the rule has no stray control bits, a position of at most 4,095 either way, and a good queue
pub good_says : (state : State) → good_state state ≡ true
    → (good_words 0 state.control ≡ true) × (state.at.x ≤ 4095) × (state.at.y ≤ 4095) × (good_queue state.queue ≡ true)
unfolding good_state
good_says state good =
    let all = and_parts _ _ good in
    let three = and_parts _ _ all.0 in
    let two = and_parts _ _ three.0 in
    (two.0, leb-true _ _ two.1, leb-true _ _ three.1, all.1)

-- a state with no stray control bits, a position of at most 4,095 either way and a good queue keeps the rule
pub says_good : (state : State) → good_words 0 state.control ≡ true → state.at.x ≤ 4095 → state.at.y ≤ 4095 → good_queue state.queue ≡ true
    → good_state state ≡ true
unfolding good_state
says_good state words x y queue = rw (words, le-leb _ _ x, le-leb _ _ y) queue

-- ---- a fresh state

-- a fresh state's arrays have their sizes
pub fresh_whole : HasArrays fresh
fresh_whole = (refl, refl)

-- a fresh state keeps the rule
pub fresh_good : good_state fresh ≡ true
unfolding good_state good_queue fits kept_of_control
fresh_good = refl

-- ---- a write

-- a control word that fits leaves no stray bits where there were none
words_set : (from : ℕ) (words : List ℕ) (word value : ℕ) → fits (record { block = Control; word = from + word }) value ≡ true
    → good_words from words ≡ true → good_words from (set words word value) ≡ true
words_set from [] word value fine good = refl
words_set from (first ∷ words) zero value fine good =
    let e = and_parts (fits (record { block = Control; word = from }) first) (good_words (suc from) words) good in
    rw (rw add-zero at fine) e.1
words_set from (first ∷ words) (suc word) value fine good =
    let e = and_parts (fits (record { block = Control; word = from }) first) (good_words (suc from) words) good in
    let same : from + suc word ≡ suc from + word = omega arith in
    rw e.0 (words_set (suc from) words word value (rw same at fine) e.1)

-- where the queue is not full, fewer than 64 wait
pub not_full : (queue : Queue) → full queue ≡ false → queue.waiting < 64
unfolding full
not_full queue h = leb-false 64 queue.waiting h

module _ (chip : Chip) (whole : HasArrays chip.0) where
  -- a write leaves the arrays their sizes, block by block
  in_whole : (block : Block) (word value : ℕ) → (waits_in block && full chip.0.queue) ≡ false → HasArrays (put chip (register_in block word) value).0
  in_whole Control word value free = (simp length-set whole.0, whole.1)
  in_whole WindowEntries word value free = whole
  in_whole ColourMap word value free = (whole.0, sized_pushed chip.0.queue _ (not_full chip.0.queue free) whole.1)
  in_whole GammaMap word value free = whole
  in_whole CursorGlyph word value free = whole
  in_whole CursorColours word value free = whole

  -- a write keeps the rule, block by block
  in_good : good_state chip.0 ≡ true → (block : Block) (word value : ℕ) → word < count block → fits (register_in block word) value ≡ true
      → (waits_in block && full chip.0.queue) ≡ false → good_state (put chip (register_in block word) value).0 ≡ true
  in_good good Control word value here fine free =
      let said = good_says chip.0 good in
      says_good (put chip (register_in Control word) value).0
      (words_set 0 chip.0.control word value (rw zero-add fine) said.0)
      said.1 said.2 said.3
  in_good good WindowEntries word value here fine free = good
  in_good good ColourMap word value here fine free =
      let said = good_says chip.0 good in
      let write : Waiting = record { word = word; value = value } in
      says_good (put chip (register_in ColourMap word) value).0 said.0 said.1 said.2
      (good_pushed chip.0.queue whole.1 said.3 write (not_full chip.0.queue free) (says_write write here fine))
  in_good good GammaMap word value here fine free = good
  in_good good CursorGlyph word value here fine free = good
  in_good good CursorColours word value here fine free = good

-- a write leaves as many words in the store, block by block
in_length : (chip : Chip) (block : Block) (word value : ℕ) → length (put chip (register_in block word) value).1 ≡ length chip.1
in_length chip Control word value = refl
in_length chip WindowEntries word value = simp length-set
in_length chip ColourMap word value = refl
in_length chip GammaMap word value = simp length-set
in_length chip CursorGlyph word value = simp length-set
in_length chip CursorColours word value = simp length-set

module _ (chip : Chip) (register : Register) (value : ℕ) where
  -- a write leaves as many words in the store
  pub put_length : length (put chip register value).1 ≡ length chip.1
  put_length = in_length chip register.block register.word value

  module _ (whole : HasArrays chip.0) (free : (waits register && full chip.0.queue) ≡ false) where
    -- a write leaves the arrays their sizes
    pub put_whole : HasArrays (put chip register value).0
    put_whole = in_whole chip whole register.block register.word value free

    -- a write that no fault stands against keeps the rule
    pub put_good : good_state chip.0 ≡ true → register.word < count register.block → fits register value ≡ true → good_state (put chip register value).0 ≡ true
    put_good good here fine = in_good chip whole good register.block register.word value here fine free

-- ---- dots

-- a move keeps the rule
moved_good : (state : State) → good_state state ≡ true → good_state (moved state) ≡ true
moved_good state good =
    let said = good_says state good in
    says_good (moved state) said.0
    (omega (arith, next_x_lt state.at (control_word state 1)))
    (omega (arith, next_y_lt state.at (control_word state 1) (omega (arith, said.2))))
    said.3

module _ (chip : Chip) where
  -- a dot leaves as many words in the store
  pub dot_length : length (after_dot chip).1 ≡ length chip.1
  unfolding after_dot
  dot_length = chosen (λ (after : Chip). length after.1 ≡ length chip.1) (drains chip.0) (simp length-set) refl

  module _ (whole : HasArrays chip.0) where
    -- a dot leaves the arrays their sizes
    pub dot_whole : HasArrays (after_dot chip).0
    unfolding after_dot
    dot_whole = chosen (λ (after : Chip). HasArrays after.0) (drains chip.0) (whole.0, sized_popped chip.0.queue whole.1) whole

    -- the oldest write may leave
    applied_good : good_state chip.0 ≡ true → good_state (oldest_applied chip).0 ≡ true
    applied_good good =
        let said = good_says chip.0 good in
        says_good (oldest_applied chip).0 said.0 said.1 said.2 (good_popped chip.0.queue whole.1 said.3)

    -- a dot keeps the rule
    pub dot_good : good_state chip.0 ≡ true → good_state (after_dot chip).0 ≡ true
    unfolding after_dot
    dot_good good = chosen (λ (after : Chip). good_state (moved after.0) ≡ true) (drains chip.0) (moved_good (oldest_applied chip).0 (applied_good good)) (moved_good chip.0 good)

-- so many dots leave as many words in the store
pub dots_length : (count : ℕ) (chip : Chip) → length (after_dots count chip).1 ≡ length chip.1
unfolding after_dots
dots_length zero chip = refl
dots_length (suc count) chip = dots_length count (after_dot chip) ∙ dot_length chip

-- so many dots leave the arrays their sizes
pub dots_whole : (count : ℕ) (chip : Chip) → HasArrays chip.0 → HasArrays (after_dots count chip).0
unfolding after_dots
dots_whole zero chip whole = whole
dots_whole (suc count) chip whole = dots_whole count (after_dot chip) (dot_whole chip whole)

-- so many dots keep the rule
pub dots_good : (count : ℕ) (chip : Chip) → HasArrays chip.0 → good_state chip.0 ≡ true → good_state (after_dots count chip).0 ≡ true
unfolding after_dots
dots_good zero chip whole good = good
dots_good (suc count) chip whole good = dots_good count (after_dot chip) (dot_whole chip whole) (dot_good chip whole good)

-- some dots and then others are as many dots at once
pub dots_add : (a b : ℕ) (chip : Chip) → after_dots (a + b) chip ≡ after_dots b (after_dots a chip)
unfolding after_dots
dots_add zero b chip = rw (zero-add b)
dots_add (suc a) b chip = rw (suc-add a b) (dots_add a b (after_dot chip))
