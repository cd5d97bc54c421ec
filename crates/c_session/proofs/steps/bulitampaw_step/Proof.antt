-- `c_session::steps::bulitampaw_step` meets its contract: refused where the text is too short, else the session's step and its text. Assumes nothing.
use mathlib.Core.Path.{ap, ◌∙◌}
use mathlib.Core.Bool.{not}
use borrow.Author.Rules.{rules}
use lib.Dec.{eqb}
use Rattle.chip.specs.declared.state.State.{State}
use Rattle.chip.proofs.Changes.{queue_stays}
use Rattle.session.specs.Lent.{rooms_of}
use Rattle.session.specs.Done.{session_with}
use Rattle.c_session.proofs.Texts.{step_short, step_made}
use Rattle.c_session.proofs.steps.bulitampaw_step.Statement.{statement}
use Rattle.c_session.proofs.steps.bulitampaw_step.Tie as tie

short_of_text_requires : tie.Need-short_of_text-refusal-requires
short_of_text_requires c κs = search rules

returns : tie.Need-returns-then-text-lt-TEXT_ROOM
returns c =
    let given = c.args in
    let rooms = rooms_of given.store.now given.table.now given.normal.now given.overlay.now given.output.now in
    rw c.short_of_text-refusal.ensures
    (step_short given.session rooms given.text.now given.bytes.now given.place (not (eqb given.last 0)) c.if-text-lt-TEXT_ROOM.true)

record_step_requires : tie.Need-record_step-done-requires
record_step_requires c κs = search rules

put_text_requires : tie.Need-put_text-put-requires
put_text_requires c κs = search rules

status_in_numbers_requires : tie.Need-status_in_numbers-status-requires
status_in_numbers_requires c κs = search rules

enum_told : tie.Need-enum_told-1
enum_told c = search rules

beside_queue_requires : tie.Need-beside_queue-requires
beside_queue_requires c κs = search rules

same_length : tie.Need-shape_of-store-in-Same
same_length c = search rules

same_length_2 : tie.Need-shape_of-table-in-Same
same_length_2 c = search rules

same_length_3 : tie.Need-shape_of-normal-in-Same
same_length_3 c = search rules

same_length_4 : tie.Need-shape_of-overlay-in-Same
same_length_4 c = search rules

same_length_5 : tie.Need-shape_of-output-in-Same
same_length_5 c = search rules

same_length_6 : tie.Need-shape_of-text-in-Same
same_length_6 c = search rules

returns_2 : tie.Need-returns-in-Same
returns_2 c =
    let given = c.args in
    let done = c.record_step-done.result in
    let rooms = rooms_of given.store.now given.table.now given.normal.now given.overlay.now given.output.now in
    rw c.status_in_numbers-status.ensures
    (step_made given.session rooms given.text.now given.bytes.now given.place (not (eqb given.last 0))
    (ap (λ (state : State). session_with state done.counts done.records) (c.beside_queue.ensures ∙ queue_stays given.session.state done.change c.in-Same.is))
    c.record_step-done.ensures.0 c.put_text-put.ensures (same_length_5 c) c.if-text-lt-TEXT_ROOM.false)

changed_requires : tie.Need-changed-requires
changed_requires c κs = search rules

same_length_7 : tie.Need-shape_of-store
same_length_7 c = search rules

same_length_8 : tie.Need-shape_of-table
same_length_8 c = search rules

same_length_9 : tie.Need-shape_of-normal
same_length_9 c = search rules

same_length_10 : tie.Need-shape_of-overlay
same_length_10 c = search rules

same_length_11 : tie.Need-shape_of-output
same_length_11 c = search rules

same_length_12 : tie.Need-shape_of-text
same_length_12 c = search rules

returns_3 : tie.Need-returns
returns_3 c =
    let given = c.args in
    let done = c.record_step-done.result in
    let rooms = rooms_of given.store.now given.table.now given.normal.now given.overlay.now given.output.now in
    rw c.status_in_numbers-status.ensures
    (step_made given.session rooms given.text.now given.bytes.now given.place (not (eqb given.last 0))
    (ap (λ (state : State). session_with state done.counts done.records) c.changed.ensures)
    c.record_step-done.ensures.0 c.put_text-put.ensures (same_length_11 c) c.if-text-lt-TEXT_ROOM.false)

pub bulitampaw_step_spec : {M : Type 1} → statement M
bulitampaw_step_spec =
    tie.close
    (tie.spec
    short_of_text_requires
    returns
    record_step_requires
    put_text_requires
    status_in_numbers_requires
    enum_told
    beside_queue_requires
    same_length
    same_length_2
    same_length_3
    same_length_4
    same_length_5
    same_length_6
    returns_2
    changed_requires
    same_length_7
    same_length_8
    same_length_9
    same_length_10
    same_length_11
    same_length_12
    returns_3)
