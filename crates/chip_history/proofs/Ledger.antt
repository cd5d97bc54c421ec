-- The ledger: after any calls the accepted colour writes are the applied ones and then the waiting ones, in order. Assumes nothing.
use Prim.Native.Nat.{ℕ, ◌+◌, ◌≤◌}
use mathlib.Core.Path.{◌≡◌, refl, ap, ◌∙◌}
use mathlib.Core.Bool.{Bool, true, false, cond, ◌&&◌}
use mathlib.Core.List.{List, [], ◌∷◌, ◌++◌}
use native.Mathlib.Omega.{arith}
use borrow.Author.Tests.{ltb-true, ltb-false}
use lib.Dec.{ltb}
use lib.ListN.{length, length-append}
use Rattle.std.specs.Prelude.{Some}
use Rattle.rules.specs.Rule.{ok}
use Rattle.chip_timing.specs.declared.Signals.{Signals}
use Rattle.chip_registers.specs.Access.{waits_in}
use Rattle.chip_registers.specs.declared.Block.{Block}
use Rattle.chip_registers.specs.declared.Block.TheVariants.{Control, WindowEntries, ColourMap, GammaMap, CursorGlyph, CursorColours}
use Rattle.chip_queue.specs.Queue.{waiting_in, full, oldest, HasSlots}
use Rattle.chip_queue.specs.declared.Waiting.{Waiting}
use Rattle.chip_queue.specs.declared.Queue.{Queue}
use Rattle.chip_queue.proofs.Order.{waiting_pushed, waiting_popped, waiting_front, length_waiting}
use Rattle.chip_queue.proofs.Rule as rule
use Rattle.chip.specs.State.{fresh, good_state, HasArrays}
use Rattle.chip.specs.Call.{Chip}
use Rattle.chip.specs.Write.{put}
use Rattle.chip.specs.Dot.{signals_of, drains, oldest_applied, after_dot}
use Rattle.chip.proofs.Good.{good_says, not_full, fresh_whole, fresh_good}
use Rattle.chip.proofs.CallCheck.{allowed_says}
use Rattle.chip_history.specs.Calls.{Call, end}
use Rattle.chip_history.specs.Ledger.{colour_write, accepted, front, blanked_by, blanked, applied, met}
use Rattle.chip_history.proofs.Calls.{Law, law_calls, stays_whole}
use Rattle.chip_history.proofs.Stays.{stays_good}
use Rattle.chip_history.proofs.Acts.{Acts, still, joins, leaves, finds_none, acts_then, acts_ledger, acts_met}

-- ---- one write and one dot

-- a colour write joins the queue, and any other leaves it
put_acts : (chip : Chip) (block : Block) (word value : ℕ) → HasSlots chip.0.queue → (waits_in block && full chip.0.queue) ≡ false
    → Acts (waiting_in chip.0.queue) [] (colour_write (Some (record { block = block; word = word })) value)
    (waiting_in (put chip (record { block = block; word = word }) value).0.queue)
put_acts chip Control word value sized free = still
put_acts chip WindowEntries word value sized free = still
put_acts chip ColourMap word value sized free =
    let write : Waiting = record { word = word; value = value } in
    rw (waiting_pushed chip.0.queue write (not_full chip.0.queue free) sized) (joins write still)
put_acts chip GammaMap word value sized free = still
put_acts chip CursorGlyph word value sized free = still
put_acts chip CursorColours word value sized free = still

-- a blanked dot takes the oldest write, if something waits; any other leaves the queue
step_acts : (chip : Chip) → HasSlots chip.0.queue → chip.0.queue.waiting ≤ 64 → (blank : Bool)
    → let queue = chip.0.queue in
    Acts (waiting_in queue) (cond blank (front queue ∷ []) []) [] (waiting_in (cond (blank && ltb 0 queue.waiting) (oldest_applied chip) chip).0.queue)
step_acts chip sized few false = still
step_acts chip sized few true = by (ltb 0 chip.0.queue.waiting) refl
  where
    -- by whether something waits
    by : (some : Bool) → ltb 0 chip.0.queue.waiting ≡ some
        → let queue = chip.0.queue in
        Acts (waiting_in queue) (cond some (oldest queue ∷ []) [] ∷ []) [] (waiting_in (cond some (oldest_applied chip) chip).0.queue)
    by true e =
        let queue = chip.0.queue in
        rw (waiting_popped queue sized few, waiting_front queue sized (ltb-true 0 queue.waiting e)) (leaves (oldest queue) still)
    by false e =
        let none : chip.0.queue.waiting ≡ 0 = omega (arith, ltb-false 0 chip.0.queue.waiting e) in
        rw none (finds_none still)

-- one element or none
one_or_none : {A : Type 0} (blank : Bool) (some : A) → length (cond blank (some ∷ []) []) ≡ cond blank 1 0
one_or_none true some = refl
one_or_none false some = refl

-- a dot that reported blank counts as one, whether or not something waits, and no other dot counts
pub blank_counts : (signals : Signals) (queue : Queue) → length (blanked_by (ok (Some signals)) queue) ≡ cond signals.blank 1 0
blank_counts signals queue = one_or_none signals.blank (front queue)

-- ---- every sequence

-- the queue before and after, as lists
abbrev Queued : Chip → List (List Waiting) → List Waiting → Chip → Type 0
Queued first dark took last = Acts (waiting_in first.0.queue) dark took (waiting_in last.0.queue)

-- writes join the queue and blanked dots take from it
queued : Law Queued
unfolding after_dot drains
queued =
    record {
      none = λ chip. still;
      then = λ first middle last dark dark' took took' p q. acts_then p q;
      puts = λ chip address value register whole p. put_acts chip register.block register.word value whole.1 p.free;
      step = λ chip whole on.
          step_acts chip whole.1 (rule.good_says chip.0.queue (good_says chip.0 (allowed_says chip.0 (length chip.1) on).0).3).0 (signals_of chip.0).blank;
    }

module _ (chip : Chip) (calls : List Call) (whole : HasArrays chip.0) where
  -- what some calls do to the queue as a list
  pub calls_act : Acts (waiting_in chip.0.queue) (blanked chip calls) (accepted chip calls) (waiting_in (end chip calls).0.queue)
  calls_act = law_calls Queued queued chip calls whole

  -- what waited, and then what was accepted, is what was applied, and then what waits
  pub ledger_from : waiting_in chip.0.queue ++ accepted chip calls ≡ applied chip calls ++ waiting_in (end chip calls).0.queue
  ledger_from = acts_ledger calls_act

  -- as many are applied as blanked dots met something waiting
  pub applied_met : length (applied chip calls) ≡ met (blanked chip calls)
  applied_met = acts_met calls_act

  module _ (good : good_state chip.0 ≡ true) where
    -- at most 64 wait
    pub few_wait : (end chip calls).0.queue.waiting ≤ 64
    few_wait = (rule.good_says (end chip calls).0.queue (good_says (end chip calls).0 (stays_good chip calls whole good)).3).0

    -- the list of those that wait is as long as the count of them
    pub waiting_count : length (waiting_in (end chip calls).0.queue) ≡ (end chip calls).0.queue.waiting
    waiting_count = length_waiting (end chip calls).0.queue (stays_whole chip calls whole).1 few_wait

module _ (store : List ℕ) (calls : List Call) where
  -- from a fresh state: the accepted writes are the applied ones and then the waiting ones, in order
  pub ledger : accepted (fresh, store) calls ≡ applied (fresh, store) calls ++ waiting_in (end (fresh, store) calls).0.queue
  ledger = ledger_from (fresh, store) calls fresh_whole

  -- in numbers: accepted is the blanked dots met with something waiting, and those that wait
  pub counts : length (accepted (fresh, store) calls) ≡ met (blanked (fresh, store) calls) + (end (fresh, store) calls).0.queue.waiting
  counts =
      ap length ledger
      ∙ rw (
        length-append (applied (fresh, store) calls) (waiting_in (end (fresh, store) calls).0.queue),
        applied_met (fresh, store) calls fresh_whole,
        waiting_count (fresh, store) calls fresh_whole fresh_good,
      )
