-- What a turn makes of a run, from what its step and its text left. Assumes nothing.
use Prim.Native.Nat.{ℕ}
use mathlib.Core.Path.{◌≡◌, refl, sym, ap, ◌∙◌}
use mathlib.Core.Bool.{true, false}
use mathlib.Core.List.{List}
use lib.ListN.{length, take}
use Rattle.rules.specs.Rule.{Outcome}
use Rattle.rules.specs.Faults.{Numbered}
use Rattle.session_answers.specs.Status.{Status}
use Rattle.session.specs.Step.{Left, session_step}
use Rattle.replay.specs.Run.{RunAt, run_of, course_of, going_so, going_after, added_by, put_behind, after_taking, has_room, turned}
use Rattle.replay.specs.declared.course.Going.TheVariants.{Full}

-- the step that a turn makes
abbrev pub step_of : RunAt → Left × Outcome Numbered Status
step_of run = session_step run.session run.rooms (take run.course.to run.input) run.course.from run.course.last

-- there is room for the text of a turn
abbrev pub room_in : RunAt → Type 0
room_in run = has_room (length run.lines) run.course.put (length run.rooms.output) ≡ true

-- there is no room for it
abbrev pub full_in : RunAt → Type 0
full_in run = has_room (length run.lines) run.course.put (length run.rooms.output) ≡ false

module _ (run : RunAt) where
  -- without room all is as it was, and the text is to be written out
  pub turned_full : full_in run → turned run ≡ run_of (going_so run.course Full) run.session run.rooms run.input run.lines
  unfolding turned
  turned_full full = rw full refl

  -- with room its step is taken
  pub turned_on : room_in run → turned run ≡ after_taking run (step_of run)
  unfolding turned
  turned_on room = rw room refl

  -- with room a turn is made of what its step and the putting of its text left
  pub turn_made : room_in run → {step : Left × Outcome Numbered Status} {more : ℕ × List ℕ} → step ≡ step_of run
      → more ≡ put_behind run.lines run.course.put (added_by step.0.1.output step.1)
      → run_of (course_of step.0.0.1 run.course.to run.course.last more.0 (going_after step.1)) step.0.0.0 step.0.1 run.input more.1 ≡ turned run
  turn_made room {step} stepped put =
      ap (λ (one : ℕ × List ℕ). run_of (course_of step.0.0.1 run.course.to run.course.last one.0 (going_after step.1)) step.0.0.0 step.0.1 run.input one.1) put
      ∙ ap (after_taking run) stepped ∙ sym (turned_on room)
