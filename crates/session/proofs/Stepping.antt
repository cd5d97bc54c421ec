-- What a step comes to, by its first test and by what it finds. Assumes nothing.
use Prim.Native.Nat.{ℕ, ◌+◌, ◌-◌, ◌≤◌}
use mathlib.Core.Path.{◌≡◌, sym, ap, ap₂, ◌∙◌}
use mathlib.Core.Bool.{Bool, false, not, ◌||◌}
use mathlib.Core.List.{List}
use native.Mathlib.Nat.{add-zero}
use native.Mathlib.Omega.{arith}
use borrow.Author.Tests.{eqb-true, ltb-false, not-false}
use lib.Dec.{eqb, ltb}
use lib.ListN.{length, take, drop, length-drop}
use lib.Seq.{length-take-le, drop-drop}
use Rattle.rules.proofs.Cases.{neither}
use Rattle.rules.specs.Rule.{Outcome, ok, refused}
use Rattle.rules.specs.Faults.{Numbered, Clear}
use Rattle.rules.specs.Checked.{verdict}
use Rattle.rules.proofs.Faults.{none_holds, first_holds, accepted_clear}
use Rattle.rules.proofs.Checked.{first_verdict, clear_verdict}
use Rattle.refusals.specs.Refusal.{numbered}
use Rattle.refusals.specs.declared.Refusal.{Refusal}
use Rattle.session_records.specs.Parts.{length_of, body_of}
use Rattle.session_records.specs.RecordAt.{record_at}
use Rattle.session_records.specs.Tags.{longest_table, longest_normal, longest_overlay}
use Rattle.session_records.specs.declared.record.Record.{Record}
use Rattle.session_records.specs.declared.record.Record.TheVariants.{End, Write, Dots, Table, Normal, Overlay, Line}
use Rattle.session_records.specs.declared.record.Context.{Context}
use Rattle.session_records.specs.declared.record.RecordAt.{RecordAt}
use Rattle.session_records.specs.declared.record.RecordAt.TheVariants.{Is, More, Refused}
use Rattle.session_records.proofs.Behind.{judged_at}
use Rattle.session_records.proofs.Limits.{table_fits, normal_fits, overlay_fits}
use Rattle.session_answers.specs.Status.{Status, needs_more, stopped}
use Rattle.session_rooms.specs.Rooms.{longest_line, too_much_held, room_faults}
use Rattle.session.specs.Held.{Held}
use Rattle.session.specs.Record.{status_by, context_of, stepped}
use Rattle.session.specs.Lent.{Rooms, held_in, left_in}
use Rattle.session.specs.Step.{step_faults, Left, after_step, session_step}
use Rattle.session.specs.Inner.{HeldWithin, BodyFits, acted_in}
use Rattle.session.specs.declared.session.Session.{Session}
use Rattle.session.proofs.Rooms.{table_count, back}

-- what a step that may go on is lent
pub record Fitted (session : Session) (rooms : Rooms) : Type 0 where
  pub table_held : session.counts.table ≤ longest_table
  pub normal_held : session.counts.normal ≤ longest_normal
  pub overlay_held : session.counts.overlay ≤ longest_overlay
  pub table_long : length rooms.table ≡ longest_table
  pub normal_long : length rooms.normal ≡ longest_normal
  pub overlay_long : length rooms.overlay ≡ longest_overlay
  pub output_long : length rooms.output ≡ longest_line

-- a room of no other length has this one
right_room : (size count : ℕ) → not (eqb size count) ≡ false → size ≡ count
right_room size count e = eqb-true size count (not-false (eqb size count) e)

module _ (session : Session) (rooms : Rooms) where
  -- where none of its faults holds, what is held and the rooms fit
  clear_fitted : Clear (step_faults session rooms) → Fitted session rooms
  unfolding room_faults too_much_held
  clear_fitted clear =
      let rows = neither (ltb longest_table session.counts.table || ltb longest_normal session.counts.normal) (ltb longest_overlay session.counts.overlay) clear.0 in
      let first = neither (ltb longest_table session.counts.table) (ltb longest_normal session.counts.normal) rows.0 in
      record {
        table_held = ltb-false longest_table session.counts.table first.0;
        normal_held = ltb-false longest_normal session.counts.normal first.1;
        overlay_held = ltb-false longest_overlay session.counts.overlay rows.1;
        table_long = right_room _ _ clear.1.1.0;
        normal_long = right_room _ _ clear.1.1.1.0;
        overlay_long = right_room _ _ clear.1.1.1.1.0;
        output_long = right_room _ _ clear.1.1.1.1.1.0;
      }

  -- where the first test passes, what is held and the rooms fit
  pub fitted : verdict (step_faults session rooms) ≡ ok tt → Fitted session rooms
  fitted e = clear_fitted (clear_verdict (step_faults session rooms) e)

-- the bytes of a record that is all there end within the lent ones
pub ends_within : (bytes : List ℕ) (place count : ℕ) → 3 + count ≤ length (drop place bytes) → place + 3 + count ≤ length bytes
ends_within bytes place count there = omega (arith, length-drop place bytes)

-- the part that is lent as a record's body is its body
pub body_part : (bytes : List ℕ) (place count : ℕ) → count ≡ length_of (drop place bytes)
    → take (place + 3 + count - (place + 3)) (drop (place + 3) bytes) ≡ body_of (drop place bytes)
body_part bytes place count is =
    let long : place + 3 + count - (place + 3) ≡ length_of (drop place bytes) = omega arith in
    ap₂ (λ (size : ℕ) (rest : List ℕ). take size rest) long (sym (drop-drop 3 place bytes))

-- what is held lies within the rooms
pub within : {session : Session} {rooms : Rooms} → Fitted session rooms → HeldWithin session rooms
within fit =
    record {
      table_within = rw fit.table_long fit.table_held;
      normal_within = rw fit.normal_long fit.normal_held;
      overlay_within = rw fit.overlay_long fit.overlay_held;
    }

-- the part that is lent as a record's body is as long as the record says
pub body_long : (bytes : List ℕ) (place count : ℕ) → 3 + count ≤ length (drop place bytes)
    → length (take (place + 3 + count - (place + 3)) (drop (place + 3) bytes)) ≡ count
body_long bytes place count there =
    let long : place + 3 + count - (place + 3) ≡ count = omega arith in
    ap (λ (size : ℕ). length (take size (drop (place + 3) bytes))) long
    ∙ length-take-le count (drop (place + 3) bytes) (omega (arith, length-drop place bytes, length-drop (place + 3) bytes))

module _ (session : Session) (rooms : Rooms) (last : Bool) where
  -- what the record is judged by, as the code puts it together
  abbrev pub judged_by : Context
  judged_by = judged_at session.records session.counts.table last

  module _ (fit : Fitted session rooms) (unread : List ℕ) where
    -- there is room for the body of each record
    pub fits : (which : Record) (count : ℕ) (body : List ℕ) → record_at judged_by unread ≡ Is which count → length body ≡ count → BodyFits session rooms which body
    fits End count body is long = tt
    fits (Write address value) count body is long = tt
    fits (Dots dots) count body is long = tt
    fits Table count body is long = rw (long, fit.table_long) (table_fits judged_by unread is)
    fits Normal count body is long = rw (long, fit.normal_long) (normal_fits judged_by unread is)
    fits Overlay count body is long = rw (long, fit.overlay_long) (overlay_fits judged_by unread is)
    fits (Line y) count body is long = tt

module _ (session : Session) (rooms : Rooms) (bytes : List ℕ) (place : ℕ) (last : Bool) where
  -- session, place and rooms as they were before the call
  abbrev before : Left
  before = ((session, place), rooms)

  -- where the first test refuses, so does the step, and all is as it was
  pub step_refused : (refusal : Refusal) → refused (numbered refusal) ≡ verdict (step_faults session rooms)
      → (before, refused (numbered refusal)) ≡ session_step session rooms bytes place last
  unfolding session_step
  step_refused refusal e =
      sym (first_holds before (after_step session rooms bytes place last) (step_faults session rooms) (numbered refusal)
      (first_verdict (step_faults session rooms) (numbered refusal) (sym e)))

  -- where the first test passes, the step is done
  step_done : verdict (step_faults session rooms) ≡ ok tt
      → let after = after_step session rooms bytes place last in
      session_step session rooms bytes place last ≡ (after.0, ok after.1)
  unfolding session_step
  step_done e = none_holds before (after_step session rooms bytes place last) (step_faults session rooms) (clear_verdict (step_faults session rooms) e)

  -- where a step is answered, what is held and the rooms fit
  pub answered_fitted : {status : Status} → (session_step session rooms bytes place last).1 ≡ ok status → Fitted session rooms
  unfolding session_step
  answered_fitted {status} e =
      clear_fitted session rooms (accepted_clear before (after_step session rooms bytes place last) (step_faults session rooms) status e)

  -- what is left after so many bytes
  abbrev left_after : ℕ → Session × Rooms → Left
  left_after taken left = ((left.0, place + taken), left.1)

  -- what was found by the code's context was found by the session's
  same_found : HeldWithin session rooms → record_at (context_of (held_in session rooms) last) (drop place bytes) ≡ record_at (judged_by session rooms last) (drop place bytes)
  same_found inside =
      ap (λ (table : ℕ). record_at (judged_at session.records table last) (drop place bytes)) (table_count session rooms inside)

  -- what comes of what was found
  stepped_by : (answer : RecordAt) → HeldWithin session rooms → record_at (judged_by session rooms last) (drop place bytes) ≡ answer
      → stepped last (held_in session rooms) (drop place bytes) ≡ status_by (held_in session rooms) (drop place bytes) answer
  unfolding stepped
  stepped_by answer inside is = ap (status_by (held_in session rooms) (drop place bytes)) (same_found inside ∙ is)

  -- nothing is taken and all is as it was
  nothing_taken : HeldWithin session rooms → left_after 0 (left_in rooms (held_in session rooms)) ≡ before
  nothing_taken inside =
      ap (left_after 0) (back session rooms inside)
      ∙ ap (λ (next : ℕ). ((session, next), rooms)) (add-zero place)

  -- what a step leaves and answers, by what it comes to
  abbrev left_by : (Held × ℕ) × Status → Left × Outcome Numbered Status
  left_by step = (left_after step.0.1 (left_in rooms step.0.0), ok step.1)

  module _ (passed : verdict (step_faults session rooms) ≡ ok tt) where
    -- what was found decides what the step leaves and answers
    step_by : (answer : RecordAt) → record_at (judged_by session rooms last) (drop place bytes) ≡ answer
        → session_step session rooms bytes place last ≡ left_by (status_by (held_in session rooms) (drop place bytes) answer)
    unfolding after_step
    step_by answer is = step_done passed ∙ ap left_by (stepped_by answer (within (fitted session rooms passed)) is)

    -- where the bytes end within a record and the file goes on, the step waits
    pub step_waits : record_at (judged_by session rooms last) (drop place bytes) ≡ More → (before, ok needs_more) ≡ session_step session rooms bytes place last
    step_waits is =
        sym (step_by More is ∙ ap (λ (left : Left). (left, ok needs_more)) (nothing_taken (within (fitted session rooms passed))))

    -- where a fault of the file was found, the step stops
    pub step_stops : (refusal : Refusal) → record_at (judged_by session rooms last) (drop place bytes) ≡ Refused refusal
        → (before, ok (stopped (numbered refusal))) ≡ session_step session rooms bytes place last
    step_stops refusal is =
        sym
        (step_by (Refused refusal) is
        ∙ ap (λ (left : Left). (left, ok (stopped (numbered refusal)))) (nothing_taken (within (fitted session rooms passed))))

    -- where a record was found, the step does what the record does with its body
    pub step_acts : (which : Record) (count : ℕ) → record_at (judged_by session rooms last) (drop place bytes) ≡ Is which count
        → (body : List ℕ) → body ≡ body_of (drop place bytes)
        → {left : (Session × Rooms) × Outcome Numbered Status} → left ≡ acted_in session rooms which body
        → (left_after (3 + count) left.0, left.1) ≡ session_step session rooms bytes place last
    unfolding acted_in
    step_acts which count is body body_is left_is =
        ap (λ (left : (Session × Rooms) × Outcome Numbered Status). (left_after (3 + count) left.0, left.1))
        (left_is ∙ ap (λ (body : List ℕ). acted_in session rooms which body) body_is)
        ∙ sym (step_by (Is which count) is)
