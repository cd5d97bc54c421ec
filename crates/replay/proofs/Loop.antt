-- A turn and what it asks for take a run on. Assumes nothing.
use Prim.Native.Nat.{ℕ, suc, ◌≤◌, ◌<◌}
use mathlib.Core.Path.{◌≡◌, refl, sym, ap, subst, ◌∙◌}
use mathlib.Core.Bool.{Bool, true, false}
use mathlib.Core.List.{List, [], ◌∷◌, ◌++◌}
use mathlib.Core.Logic.{inl, inr}
use native.Mathlib.Omega.{arith}
use lib.ListN.{length, take, drop, length-append, length-take, length-drop}
use Rattle.rules.specs.Rule.{Outcome, ok, refused}
use Rattle.rules.specs.Faults.{Numbered}
use Rattle.rules.proofs.Cases.{impossible}
use Rattle.session_answers.specs.Status.{Status, listed, ended, needs_more, stopped}
use Rattle.session.specs.Record.{context_of, stepped}
use Rattle.session.specs.Lent.{Rooms, held_in}
use Rattle.session.specs.declared.session.Session.{Session}
use Rattle.session_files.proofs.Step as step
use Rattle.session_files.proofs.Calls.{same_status, same_place}
use Rattle.replay.specs.Run.{RunAt, run_of, begun, going_so, goes_on_turning, unread_in, going_after, after_taking, has_room, turned}
use Rattle.replay.specs.Inner.{took, again, failed, AfterServing}
use Rattle.replay.specs.Runs.{asks_after, waits_after, unread_after, served_so, starts, turns, writes, reads, retries, fails, ends, breaks, Reached}
use Rattle.replay.specs.declared.course.Going.{Going}
use Rattle.replay.specs.declared.course.Going.TheVariants.{On, Full, Read, Over, Unread, Unwritten}
use Rattle.replay.specs.declared.course.Course.{Course}
use Rattle.replay.proofs.Turns.{step_of, room_in, turned_full, turned_on}
use Rattle.replay.proofs.Waits.{waits_short}

-- only a run that goes on makes another turn
pub on_only : (going : Going) → goes_on_turning going ≡ true → going ≡ On
on_only On e = refl
on_only Full e = impossible (cc e)
on_only Read e = impossible (cc e)
on_only Over e = impossible (cc e)
on_only Unread e = impossible (cc e)
on_only Unwritten e = impossible (cc e)

-- ---- what a turn leaves

-- a turn finds room, or not
pub data Turns (run : RunAt) : Type 0 where
  steps : room_in run → turned run ≡ after_taking run (step_of run) → Turns run
  full : turned run ≡ run_of (going_so run.course Full) run.session run.rooms run.input run.lines → Turns run

module _ (run : RunAt) where
  -- by whether there is room
  turns_by : (test : Bool) → has_room (length run.lines) run.course.put (length run.rooms.output) ≡ test → Turns run
  turns_by true e = steps e (turned_on run e)
  turns_by false e = full (turned_full run e)

  -- every turn is one of the two
  pub a_turn : Turns run
  a_turn = turns_by (has_room (length run.lines) run.course.put (length run.rooms.output)) refl

  -- by whether there is room: the input stays, and the bytes end where they did
  stays_by : Turns run → ((turned run).course.to ≡ run.course.to) × ((turned run).input ≡ run.input)
  stays_by (steps room is) = (ap (λ (after : RunAt). after.course.to) is, ap (λ (after : RunAt). after.input) is)
  stays_by (full is) = (ap (λ (after : RunAt). after.course.to) is, ap (λ (after : RunAt). after.input) is)

  -- the bytes that wait stay within the input
  pub turned_inside : run.course.to ≤ length run.input → (turned run).course.to ≤ length (turned run).input
  turned_inside inside = rw ((stays_by a_turn).0, (stays_by a_turn).1) inside

  -- after a step a run is at no break
  no_break : (outcome : Outcome Numbered Status) → going_after outcome ≡ Unread → ⊥
  no_break (ok (listed entry)) e = impossible (cc e)
  no_break (ok ended) e = impossible (cc e)
  no_break (ok needs_more) e = impossible (cc e)
  no_break (ok (stopped refusal)) e = impossible (cc e)
  no_break (refused refusal) e = impossible (cc e)

  -- nor can nothing be written
  no_failure : (outcome : Outcome Numbered Status) → going_after outcome ≡ Unwritten → ⊥
  no_failure (ok (listed entry)) e = impossible (cc e)
  no_failure (ok ended) e = impossible (cc e)
  no_failure (ok needs_more) e = impossible (cc e)
  no_failure (ok (stopped refusal)) e = impossible (cc e)
  no_failure (refused refusal) e = impossible (cc e)

  -- a turn doesn't break off: it doesn't read
  never_unread : asks_after run ≡ Unread → Turns run → ⊥
  never_unread e (steps room is) = no_break (step_of run).1 (sym (ap (λ (after : RunAt). after.course.going) is) ∙ e)
  never_unread e (full is) = impossible (cc (sym (ap (λ (after : RunAt). after.course.going) is) ∙ e))

  -- nor does it write
  never_unwritten : asks_after run ≡ Unwritten → Turns run → ⊥
  never_unwritten e (steps room is) = no_failure (step_of run).1 (sym (ap (λ (after : RunAt). after.course.going) is) ∙ e)
  never_unwritten e (full is) = impossible (cc (sym (ap (λ (after : RunAt). after.course.going) is) ∙ e))

  -- the bytes that are unread after a step
  pub unread_after_is : turned run ≡ after_taking run (step_of run) → unread_after run ≡ drop (step_of run).0.0.1 (take run.course.to run.input)
  unread_after_is is = ap (λ (after : RunAt). unread_in after.course after.input) is

  -- by what a step found that waits
  few_found : let held = held_in run.session run.rooms in let bytes = drop run.course.from (take run.course.to run.input) in
      (stepped run.course.last held bytes).1 ≡ needs_more → step.Stepped run.course.last held bytes → length bytes ≤ 65537
  few_found e (step.lists is counts s) = impossible cc
  few_found e (step.ends is s) = impossible cc
  few_found e (step.lacks is s) =
      waits_short (context_of (held_in run.session run.rooms) run.course.last) (drop run.course.from (take run.course.to run.input)) is
  few_found e (step.stops is s) = impossible cc

  -- by what its step comes to
  few_after : turned run ≡ after_taking run (step_of run) → asks_after run ≡ Read → (outcome : Outcome Numbered Status) → (step_of run).1 ≡ outcome → length (unread_after run) ≤ 65537
  few_after is e (ok needs_more) o =
      let bytes = take run.course.to run.input in
      let from = run.course.from in
      let last = run.course.last in
      let held = held_in run.session run.rooms in
      let waited : step_of run ≡ ((step_of run).0, ok needs_more) = ap (λ (outcome : Outcome Numbered Status). ((step_of run).0, outcome)) o in
      let few = few_found (same_status run.session run.rooms bytes from last waited) (step.step last held (drop from bytes)) in
      let place = ap length (unread_after_is is ∙ same_place run.session run.rooms bytes from last waited) in
      omega (arith, few, place, length-drop (stepped last held (drop from bytes)).0.1 (drop from bytes))
  few_after is e (ok (listed entry)) o = impossible (cc (sym e ∙ ap (λ (after : RunAt). after.course.going) is ∙ ap going_after o))
  few_after is e (ok ended) o = impossible (cc (sym e ∙ ap (λ (after : RunAt). after.course.going) is ∙ ap going_after o))
  few_after is e (ok (stopped refusal)) o = impossible (cc (sym e ∙ ap (λ (after : RunAt). after.course.going) is ∙ ap going_after o))
  few_after is e (refused refusal) o = impossible (cc (sym e ∙ ap (λ (after : RunAt). after.course.going) is ∙ ap going_after o))

  -- by whether there is room
  few_by : Turns run → asks_after run ≡ Read → length (unread_after run) ≤ 65537
  few_by (steps room is) e = few_after is e (step_of run).1 refl
  few_by (full is) e = impossible (cc (sym (ap (λ (after : RunAt). after.course.going) is) ∙ e))

  -- a turn that waits leaves at most 65,537 bytes unread
  pub waits_few : asks_after run ≡ Read → length (unread_after run) ≤ 65537
  waits_few = few_by a_turn

-- ---- a turn, and what it asks for

module _ {start : RunAt} (run : RunAt) (on : run.course.going ≡ On) {made : ℕ} (here : Reached start made run) where
  -- it takes the run on
  reaches : (going : Going) → asks_after run ≡ going → {next : Course} {more : List ℕ} → AfterServing going (turned run).course (turned run).input next more
      → Reached start (suc made) (served_so run next more)
  reaches On e (same, kept) = rw (same, kept) (here.0, (here.1.0, turns here.1.1 on e))
  reaches Full e (inl wrote, kept) = rw (wrote, kept) (here.0, (here.1.0 ++ waits_after run, writes here.1.1 on e))
  reaches Full e (inr broke, kept) = rw (broke, kept) (here.0, (here.1.0, breaks here.1.1 on))
  reaches Read e (inl (broke, kept)) = rw (broke, kept) (here.0, (here.1.0, breaks here.1.1 on))
  reaches Read e (inr (took piece is front)) =
      rw is (here.0 ++ piece ∷ [], (here.1.0 ++ waits_after run, reads here.1.1 on e piece (rw is at front)))
  reaches Read e (inr (again is front)) = rw is (here.0, (here.1.0 ++ waits_after run, retries here.1.1 on e (rw is at front)))
  reaches Read e (inr (failed is front)) = rw is (here.0, (here.1.0 ++ waits_after run, fails here.1.1 on e (rw is at front)))
  reaches Over e (inl wrote, kept) = rw (wrote, kept) (here.0, (here.1.0 ++ waits_after run, ends here.1.1 on e))
  reaches Over e (inr broke, kept) = rw (broke, kept) (here.0, (here.1.0, breaks here.1.1 on))
  reaches Unread e (same, kept) = absurd (never_unread run e (a_turn run))
  reaches Unwritten e (same, kept) = absurd (never_unwritten run e (a_turn run))

-- bytes taken to a place are as many only where they reach it
taken_inside : (more bytes : List ℕ) (to : ℕ) → take to more ≡ bytes → length bytes ≡ to → to ≤ length more
taken_inside more bytes to front long = omega (arith, ap length front, length-take to more, long)

-- the bytes that wait stay within the input
serves_inside : (going : Going) (course : Course) (input : List ℕ) (next : Course) (more : List ℕ) → AfterServing going course input next more
    → course.to ≤ length input → next.to ≤ length more
serves_inside On course input next more (same, kept) inside = rw (same, kept) inside
serves_inside Full course input next more (inl wrote, kept) inside = rw (wrote, kept) inside
serves_inside Full course input next more (inr broke, kept) inside = rw (broke, kept) inside
serves_inside Read course input next more (inl (broke, kept)) inside = rw (broke, kept) inside
serves_inside Read course input next more (inr (took piece is front)) inside =
    taken_inside more (unread_in course input ++ piece) next.to front (length-append (unread_in course input) piece ∙ sym (ap (λ (after : Course). after.to) is))
serves_inside Read course input next more (inr (again is front)) inside =
    taken_inside more (unread_in course input) next.to front (sym (ap (λ (after : Course). after.to) is))
serves_inside Read course input next more (inr (failed is front)) inside =
    taken_inside more (unread_in course input) next.to front (sym (ap (λ (after : Course). after.to) is))
serves_inside Over course input next more (inl wrote, kept) inside = rw (wrote, kept) inside
serves_inside Over course input next more (inr broke, kept) inside = rw (broke, kept) inside
serves_inside Unread course input next more (same, kept) inside = rw (same, kept) inside
serves_inside Unwritten course input next more (same, kept) inside = rw (same, kept) inside

-- where a run is within its input, and how it was reached
pub record Running (start : RunAt) (made : ℕ) (run : RunAt) : Type 0 where
  pub inside : run.course.to ≤ length run.input
  pub reached : Reached start made run

-- at first it is where it starts
pub running_start : (session : Session) (rooms : Rooms) (input lines : List ℕ) → Running (run_of begun session rooms input lines) 0 (run_of begun session rooms input lines)
running_start session rooms input lines = record { inside = omega arith; reached = ([], ([], starts)) }

-- after a turn that waits there is room for more bytes
pub serves_room : (run after : RunAt) → after ≡ turned run → run.course.to ≤ length run.input → 65538 ≤ length run.input
    → (after.course.to ≤ length after.input) × (after.course.going ≡ Read → length (unread_in after.course after.input) < length after.input)
serves_room run after is inside long =
    subst (λ (one : RunAt). (one.course.to ≤ length one.input) × (one.course.going ≡ Read → length (unread_in one.course one.input) < length one.input)) (sym is)
    (turned_inside run inside, λ short. omega (arith, waits_few run short, long, ap length (stays_by run (a_turn run)).1))

-- a turn and what it asks for take it on
pub running_next : {start : RunAt} {made : ℕ} (run after : RunAt) → Running start made run → goes_on_turning run.course.going ≡ true → after ≡ turned run → {next : Course} {more : List ℕ}
    → AfterServing after.course.going after.course after.input next more → Running start (suc made) (run_of next after.session after.rooms more after.lines)
running_next {start} {made} run after running goes is {next} {more} =
    subst (λ (one : RunAt). AfterServing one.course.going one.course one.input next more → Running start (suc made) (run_of next one.session one.rooms more one.lines)) (sym is)
    (λ serving.
    record {
      inside = serves_inside (asks_after run) (turned run).course (turned run).input next more serving (turned_inside run running.inside);
      reached = reaches run (on_only run.course.going goes) running.reached (asks_after run) refl serving;
    })
