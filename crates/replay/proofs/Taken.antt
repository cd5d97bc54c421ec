-- What a turn makes of what is held, unread and waiting. Assumes nothing.
use Prim.Native.Nat.{ℕ, ◌+◌, ◌≤◌}
use mathlib.Core.Path.{◌≡◌, sym, ap, subst, ◌∙◌}
use mathlib.Core.List.{List, ◌++◌}
use native.Mathlib.Omega.{arith}
use borrow.Author.Tests.{leb-true}
use lib.ListN.{length, take, drop, length-append}
use lib.Seq.{length-take-le, drop-drop, take_at}
use Rattle.rules.specs.Rule.{ok}
use Rattle.session_listing.specs.Room.{room_of, placed}
use Rattle.session_answers.specs.Status.{Status, text_of}
use Rattle.session.specs.Held.{Held}
use Rattle.session.specs.Record.{stepped}
use Rattle.session.specs.Lent.{held_in}
use Rattle.session.specs.Step.{Left, after_step}
use Rattle.session_files.proofs.Calls.{held_again}
use Rattle.session_files.proofs.Answered.{Ready, call_answered, stays_ready}
use Rattle.replay.specs.Run.{RunAt, unread_in, text_waiting, going_after, after_taking, turned}
use Rattle.replay.specs.Runs.{asks_after, waits_after, unread_after}
use Rattle.replay.specs.declared.course.Going.TheVariants.{Full}
use Rattle.replay.proofs.Turns.{step_of}
use Rattle.replay.proofs.Loop.{Turns, steps, full, a_turn}

-- what is held in a run
abbrev pub held_by : RunAt → Held
held_by run = held_in run.session run.rooms

-- its bytes that are unread
abbrev pub unread_by : RunAt → List ℕ
unread_by run = unread_in run.course run.input

-- its text that waits
abbrev pub waits_by : RunAt → List ℕ
waits_by run = text_waiting run.course run.lines

-- the step of a turn over what is held
abbrev pub step_by : RunAt → (Held × ℕ) × Status
step_by run = stepped run.course.last (held_by run) (unread_by run)

-- text put behind the text that waits is at its end
behind_waits : (lines bytes : List ℕ) (put : ℕ) → put ≤ length lines → take (put + length bytes) (placed lines put bytes) ≡ take put lines ++ bytes
behind_waits lines bytes put inside =
    take_at (take put lines ++ bytes) (drop (put + length bytes) lines) (put + length bytes)
    (length-append (take put lines) bytes ∙ ap (λ (front : ℕ). front + length bytes) (length-take-le put lines inside))

-- what a turn leaves: a step was taken, or the text is full and all is as it was
pub data Left-by (run : RunAt) : Type 0 where
  stepping : asks_after run ≡ going_after (ok (step_by run).1) → held_by (turned run) ≡ (step_by run).0.0 → unread_after run ≡ drop (step_by run).0.1 (unread_by run)
      → waits_after run ≡ waits_by run ++ text_of (step_by run).0.0.output (step_by run).1 → (turned run).course.last ≡ run.course.last → Left-by run
  unmoved : asks_after run ≡ Full → held_by (turned run) ≡ held_by run → unread_after run ≡ unread_by run → waits_after run ≡ waits_by run
      → (turned run).course.last ≡ run.course.last → Left-by run

module _ (run : RunAt) (ready : Ready run.session run.rooms) where
  -- the bytes that are lent to the step
  abbrev bytes : List ℕ
  bytes = take run.course.to run.input

  -- what the step leaves
  abbrev done : Left × Status
  done = after_step run.session run.rooms bytes run.course.from run.course.last

  -- where there is room, the step over what is held was taken
  taken_is : turned run ≡ after_taking run (step_of run) → turned run ≡ after_taking run (done.0, ok done.1)
  taken_is is = is ∙ ap (after_taking run) (call_answered run.session run.rooms bytes run.course.from run.course.last ready)

  -- by whether there is room
  left_by : Turns run → Left-by run
  unfolding after_step
  left_by (steps room is) =
      let so = taken_is is in
      let put = leb-true (run.course.put + room_of (length run.rooms.output)) (length run.lines) room in
      stepping (ap (λ (one : RunAt). one.course.going) so)
      (ap held_by so ∙ held_again run.rooms (step_by run).0.0)
      (ap unread_by so ∙ sym (drop-drop (step_by run).0.1 run.course.from bytes))
      (ap waits_by so ∙ behind_waits run.lines (text_of (step_by run).0.0.output (step_by run).1) run.course.put (omega (arith, put)))
      (ap (λ (one : RunAt). one.course.last) so)
  left_by (full is) =
      unmoved (ap (λ (one : RunAt). one.course.going) is) (ap held_by is) (ap unread_by is) (ap waits_by is) (ap (λ (one : RunAt). one.course.last) is)

  -- what a turn leaves
  pub turn_leaves : Left-by run
  turn_leaves = left_by (a_turn run)

  -- by whether there is room: no later call is refused either
  ready_by : Turns run → Ready (turned run).session (turned run).rooms
  ready_by (steps room is) =
      subst (λ (one : RunAt). Ready one.session one.rooms) (sym (taken_is is))
      (stays_ready run.session run.rooms bytes run.course.from run.course.last ready)
  ready_by (full is) = subst (λ (one : RunAt). Ready one.session one.rooms) (sym is) ready

  -- no later call is refused either
  pub turn_ready : Ready (turned run).session (turned run).rooms
  turn_ready = ready_by (a_turn run)
