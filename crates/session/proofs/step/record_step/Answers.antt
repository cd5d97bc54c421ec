-- `session::step::record_step`: its first test, what stands at the place, and what the record does.
use Rattle.std.proofs.Common.{◌+◌, ◌≤◌, ◌≡◌, sym, ◌∙◌, length, drop, rules, add_assoc}
use Rattle.session_records.proofs.Accepted.{found_accepted}
use Rattle.session_records.proofs.Limits.{numbered_below}
use Rattle.session.specs.Lent.{rooms_of}
use Rattle.session.specs.Done.{session_with}
use Rattle.session.proofs.Stepping.{judged_by, ends_within, body_part, body_long, fitted, within, fits, step_refused, step_waits, step_stops, step_acts}
use Rattle.session.proofs.step.record_step.Goals as goal

pub returns-in-Err : goal.returns-in-Err
returns-in-Err c =
    let a = c.args in
    rw c.unchanged.ensures
    (step_refused (session_with a.state a.counts a.records) (rooms_of a.store.now a.table.now a.normal.now a.overlay.now a.output.now) a.bytes.now a.place a.last c.in-Err.refusal c.in-Err.ensures, tt)

pub overflow_add-start : goal.overflow_add-start
overflow_add-start c =
    let a = c.args in
    let inside = ends_within a.bytes.now a.place c.in-Is.length (found_accepted (judged_by (session_with a.state a.counts a.records) (rooms_of a.store.now a.table.now a.normal.now a.overlay.now a.output.now) a.last) (drop a.place a.bytes.now) (sym c.read-found.ensures ∙ c.in-Is.is)).there in
    let good = c.well_formed in
    search rules

pub overflow_add-end : goal.overflow_add-end
overflow_add-end c =
    let a = c.args in
    let inside = ends_within a.bytes.now a.place c.in-Is.length (found_accepted (judged_by (session_with a.state a.counts a.records) (rooms_of a.store.now a.table.now a.normal.now a.overlay.now a.output.now) a.last) (drop a.place a.bytes.now) (sym c.read-found.ensures ∙ c.in-Is.is)).there in
    let good = c.well_formed in
    search rules

pub slice_bounds-act-end : goal.slice_bounds-act-end
slice_bounds-act-end c =
    let a = c.args in
    let inside = ends_within a.bytes.now a.place c.in-Is.length (found_accepted (judged_by (session_with a.state a.counts a.records) (rooms_of a.store.now a.table.now a.normal.now a.overlay.now a.output.now) a.last) (drop a.place a.bytes.now) (sym c.read-found.ensures ∙ c.in-Is.is)).there in
    let good = c.well_formed in
    search rules

pub act-acted-requires : goal.act-acted-requires
act-acted-requires c =
    let a = c.args in
    let session = session_with a.state a.counts a.records in
    let rooms = rooms_of a.store.now a.table.now a.normal.now a.overlay.now a.output.now in
    let is = sym c.read-found.ensures ∙ c.in-Is.is in
    let unread = drop a.place a.bytes.now in
    let accepted = found_accepted (judged_by session rooms a.last) unread is in
    let fit = fitted session rooms (sym c.in_default.ensures) in
    record {
      records_lt_most_records = numbered_below (judged_by session rooms a.last) unread is;
      held_within = within fit;
      body_fits = fits session rooms a.last fit unread c.in-Is.record c.in-Is.length _ is (body_long a.bytes.now a.place c.in-Is.length accepted.there);
    }

pub returns-in-Is : goal.returns-in-Is
returns-in-Is c =
    let a = c.args in
    let session = session_with a.state a.counts a.records in
    let rooms = rooms_of a.store.now a.table.now a.normal.now a.overlay.now a.output.now in
    let is = sym c.read-found.ensures ∙ c.in-Is.is in
    let accepted = found_accepted (judged_by session rooms a.last) (drop a.place a.bytes.now) is in
    let done = c.act-acted.ensures in (
      rw (add_assoc a.place 3 c.in-Is.length)
          (step_acts session rooms a.bytes.now a.place a.last (sym c.in_default.ensures) c.in-Is.record c.in-Is.length is _
          (body_part a.bytes.now a.place c.in-Is.length accepted.length_is)
          done.0),
      done.1,
    )

pub returns-in-More : goal.returns-in-More
returns-in-More c =
    let a = c.args in
    rw c.unchanged-in-More.ensures (
      step_waits (session_with a.state a.counts a.records) (rooms_of a.store.now a.table.now a.normal.now a.overlay.now a.output.now) a.bytes.now a.place a.last (sym c.in_default.ensures)
          (sym c.read-found.ensures ∙ c.in-More.is),
      tt,
    )

pub returns-in-Refused : goal.returns-in-Refused
returns-in-Refused c =
    let a = c.args in
    rw c.unchanged-in-Refused.ensures (
      step_stops (session_with a.state a.counts a.records) (rooms_of a.store.now a.table.now a.normal.now a.overlay.now a.output.now) a.bytes.now a.place a.last (sym c.in_default.ensures)
          c.in-Refused.refusal (sym c.read-found.ensures ∙ c.in-Refused.is),
      tt,
    )
