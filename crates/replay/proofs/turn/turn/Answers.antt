-- `turn`: without room the text is to be written out, else a turn is a step and its text.
use Rattle.std.proofs.Common.{sym, ap, ◌∙◌}
use Rattle.session.specs.Lent.{rooms_of}
use Rattle.session.specs.Done.{session_with}
use Rattle.replay.specs.Run.{run_of}
use Rattle.replay.specs.declared.course.Course.{Course}
use Rattle.replay.proofs.Turns.{turned_full, turn_made}
use Rattle.replay.proofs.turn.turn.Goals as goal

pub returns-then-not-has_room : goal.returns-then-not-has_room
returns-then-not-has_room c =
    let session = session_with c.args.state c.args.counts c.args.records in
    let rooms = rooms_of c.args.store.now c.args.table.now c.args.normal.now c.args.overlay.now c.args.output.now in
    let run = run_of c.args.course session rooms c.args.input.now c.args.lines.now in
    rw c.unchanged.ensures
    (ap (λ (course : Course). run_of course session rooms c.args.input.now c.args.lines.now) c.going_so.ensures
    ∙ sym (turned_full run (sym c.has_room.ensures ∙ c.if-not-has_room.true)))

pub returns : goal.returns
returns c =
    let session = session_with c.args.state c.args.counts c.args.records in
    let rooms = rooms_of c.args.store.now c.args.table.now c.args.normal.now c.args.overlay.now c.args.output.now in
    let run = run_of c.args.course session rooms c.args.input.now c.args.lines.now in
    rw c.going_after.ensures
    (turn_made run (sym c.has_room.ensures ∙ c.if-not-has_room.false) c.record_step-done.ensures.0 c.put_added-end.ensures)
