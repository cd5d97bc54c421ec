-- `run_turns`: each turn takes the run on, and a run that is over has written the listing.
use Rattle.std.proofs.Common.{sym, ◌∙◌, add-one, arith, inl, inr}
use Rattle.session.specs.Lent.{rooms_of}
use Rattle.session.specs.Done.{session_with}
use Rattle.replay.specs.Run.{run_of}
use Rattle.replay.proofs.Listed.{wrote_listing}
use Rattle.replay.proofs.Loop.{running_start, running_next, serves_room}
use Rattle.replay.proofs.run.run_turns.Goals as goal

pub loop-init : goal.loop-init
loop-init c = rw (c.start-course.ensures, c.new-state.ensures) (running_start _ _ _ _)

pub served-course-requires : goal.served-course-requires
served-course-requires c =
    let loop = c.loop in
    let run = run_of loop.course (session_with loop.state loop.counts loop.records) (rooms_of loop.store loop.table loop.normal loop.overlay loop.output) loop.input loop.lines in
    serves_room run _ c.turn-turned.ensures loop.invariant.inside (omega (arith, loop.auto.input, c.requires.0))

pub loop-preserved-in-Same : goal.loop-preserved-in-Same
loop-preserved-in-Same c =
    let loop = c.loop in
    let run = run_of loop.course (session_with loop.state loop.counts loop.records) (rooms_of loop.store loop.table loop.normal loop.overlay loop.output) loop.input loop.lines in
    rw (add-one loop.counter) (running_next run _ loop.invariant (sym c.goes_on.ensures ∙ c.if-not-goes_on.false) (rw c.in-Same.is at c.turn-turned.ensures) c.served-course.ensures)

pub loop-preserved : goal.loop-preserved
loop-preserved c =
    let loop = c.loop in
    let run = run_of loop.course (session_with loop.state loop.counts loop.records) (rooms_of loop.store loop.table loop.normal loop.overlay loop.output) loop.input loop.lines in
    rw (c.queue_changed-state.ensures, add-one loop.counter)
    (running_next run _ loop.invariant (sym c.goes_on.ensures ∙ c.if-not-goes_on.false) c.turn-turned.ensures c.served-course.ensures)

pub returns-then-not-goes_on : goal.returns-then-not-goes_on
returns-then-not-goes_on c =
    let reached = c.loop.invariant.reached in
    record {
      made = c.loop.counter;
      pieces = reached.0;
      text = reached.1.0;
      runs = reached.1.1;
      wrote = wrote_listing _ _ _ c.requires.2 c.requires.3 reached.1.1;
      out = inl (sym c.goes_on.ensures ∙ c.if-not-goes_on.true);
    }

pub returns-after-loop : goal.returns-after-loop
returns-after-loop c =
    let reached = c.loop.invariant.reached in
    record {
      made = c.loop.counter;
      pieces = reached.0;
      text = reached.1.0;
      runs = reached.1.1;
      wrote = wrote_listing _ _ _ c.requires.2 c.requires.3 reached.1.1;
      out = inr (omega (arith, c.loop-test.false));
    }
