-- Calls of the step, one after another, are steps over what is held, and list the file's listing. Assumes nothing.
use Prim.Native.Nat.{ℕ, ◌+◌}
use mathlib.Core.Path.{◌≡◌, refl, sym, ap, subst, ◌∙◌}
use mathlib.Core.Bool.{Bool}
use mathlib.Core.List.{List, ◌++◌}
use lib.ListN.{length, take, drop}
use lib.Seq.{take_at, drop-drop}
use Rattle.rules.specs.Rule.{Outcome, ok}
use Rattle.rules.specs.Faults.{Numbered}
use Rattle.rules.specs.Lists.{joined}
use Rattle.rules.proofs.Faults.{none_holds, accepted_clear}
use Rattle.session_listing.specs.Text.{says_refused, text}
use Rattle.session_answers.specs.Status.{Status, listed, needs_more}
use Rattle.session_answers.proofs.ToListing.{status_of}
use Rattle.session.specs.Held.{Held, nothing_held}
use Rattle.session.specs.Record.{stepped}
use Rattle.session.specs.Listing.{listing}
use Rattle.session.specs.Lent.{Rooms, held_in, laid, rooms_with, session_of}
use Rattle.session.specs.Step.{step_faults, Left, after_step, session_step}
use Rattle.session.specs.declared.session.Session.{Session}
use Rattle.session.proofs.Stepping.{answered_fitted}
use Rattle.session_files.specs.Outputs.{with_output}
use Rattle.session_files.specs.Steps.{none, Steps}
use Rattle.session_files.specs.Steps as steps
use Rattle.session_files.specs.Calls.{Calls, adds, moves, waits, lists, ends, stops, Zeroed, RightLengths}
use Rattle.session_files.proofs.Step.{stopped_leaves}
use Rattle.session_files.proofs.Cuts.{cut_lists}

-- what is laid at the front of a room is there again
there_again : (room bytes : List ℕ) → take (length bytes) (laid room bytes) ≡ bytes
there_again room bytes = take_at bytes (drop (length bytes) room) (length bytes) refl

-- what is held, put into rooms, is held there
pub held_again : (rooms : Rooms) (held : Held) → held_in (session_of held) (rooms_with rooms held) ≡ held
held_again rooms held = rw (there_again rooms.table held.table, there_again rooms.normal held.normal, there_again rooms.overlay held.overlay) refl

module _ (session : Session) (rooms : Rooms) (bytes : List ℕ) (place : ℕ) (last : Bool) {left : Left} {status : Status}
    (is : session_step session rooms bytes place last ≡ (left, ok status)) where
  -- what the step over what is held leaves and comes to
  abbrev step : (Held × ℕ) × Status
  step = stepped last (held_in session rooms) (drop place bytes)

  -- a call that isn't refused is that step
  call_is : (left, status) ≡ after_step session rooms bytes place last
  unfolding session_step
  call_is =
      let before : Left = ((session, place), rooms) in
      let done = after_step session rooms bytes place last in
      let clear = accepted_clear before done (step_faults session rooms) status (ap (λ (all : Left × Outcome Numbered Status). all.1) is) in
      let both = sym is ∙ none_holds before done (step_faults session rooms) clear in
      ap (λ (all : Left × Outcome Numbered Status). (all.0, status_of status all.1)) both

  -- it comes to what the step over what is held comes to
  pub same_status : step.1 ≡ status
  unfolding after_step
  same_status = ap (λ (all : Left × Status). all.1) (sym call_is)

  -- what it leaves is what the step holds
  pub same_held : held_in left.0.0 left.1 ≡ step.0.0
  unfolding after_step
  same_held = ap (λ (all : Left × Status). held_in all.0.0.0 all.0.1) call_is ∙ held_again rooms step.0.0

  -- it leaves the output of the step over what is held
  pub same_output : left.1.output ≡ step.0.0.output
  unfolding after_step
  same_output = ap (λ (all : Left × Status). all.0.1.output) call_is

  -- the next record stands where the step over what is held says
  pub same_place : drop left.0.1 bytes ≡ drop step.0.1 (drop place bytes)
  unfolding after_step
  same_place = ap (λ (all : Left × Status). drop all.0.0.1 bytes) call_is ∙ sym (drop-drop step.0.1 place bytes)

-- calls are steps over what is held
pub calls_steps : {session : Session} {rooms : Rooms} {bytes : List ℕ} {place : ℕ} {pieces : List (List ℕ)} {written : List ℕ}
    → Calls session rooms bytes place pieces written → Steps (held_in session rooms) (drop place bytes) pieces written
calls_steps {session} {rooms} {bytes} {place} (adds {pieces = pieces} {rest = rest} behind others) =
    steps.adds (subst (λ (unread : List ℕ). Steps (held_in session rooms) unread pieces rest) behind (calls_steps others))
calls_steps {session} {rooms} {bytes} {place} (moves {pieces = pieces} {rest = rest} same others) =
    subst (λ (unread : List ℕ). Steps (held_in session rooms) unread pieces rest) same (calls_steps others)
calls_steps {session} {rooms} {bytes} {place} (waits {at = at} {pieces = pieces} {rest = rest} is others) =
    let last = none pieces in
    let step = stepped last (held_in session rooms) (drop place bytes) in
    let waits_so : step ≡ (step.0, needs_more) = ap (λ (status : Status). (step.0, status)) (same_status session rooms bytes place last is) in
    steps.waits waits_so
    (subst (λ (unread : List ℕ). Steps step.0.0 unread pieces rest) (same_place session rooms bytes place last is)
    (subst (λ (held : Held). Steps held (drop at bytes) pieces rest) (same_held session rooms bytes place last is) (calls_steps others)))
calls_steps {session} {rooms} {bytes} {place} (lists {next = next} {left = left} {at = at} {pieces = pieces} {rest = rest} {entry = entry} is others) =
    let last = none pieces in
    let step = stepped last (held_in session rooms) (drop place bytes) in
    let lists_so : step ≡ (step.0, listed entry) = ap (λ (status : Status). (step.0, status)) (same_status session rooms bytes place last is) in
    subst (λ (output : List ℕ). Steps (held_in session rooms) (drop place bytes) pieces (text entry output ++ rest)) (sym (same_output session rooms bytes place last is))
    (steps.lists lists_so
    (subst (λ (unread : List ℕ). Steps step.0.0 unread pieces rest) (same_place session rooms bytes place last is)
    (subst (λ (held : Held). Steps held (drop at bytes) pieces rest) (same_held session rooms bytes place last is) (calls_steps others))))
calls_steps {session} {rooms} {bytes} {place} (ends {pieces = pieces} is) = steps.ends (same_status session rooms bytes place (none pieces) is)
calls_steps {session} {rooms} {bytes} {place} (stops {pieces = pieces} {refusal = refusal} is) =
    let last = none pieces in
    let stopped_so = same_status session rooms bytes place last is in
    let output_is =
    same_output session rooms bytes place last is
    ∙ ap (λ (all : Held × ℕ). all.0.output) (stopped_leaves last (held_in session rooms) (drop place bytes) stopped_so) in
    subst (λ (output : List ℕ). Steps (held_in session rooms) (drop place bytes) pieces (text (says_refused refusal) output)) (sym output_is) (steps.stops stopped_so)

-- an answered call is lent rooms of the right lengths
right_lengths : (session : Session) (rooms : Rooms) (bytes : List ℕ) (place : ℕ) (last : Bool) {left : Left} {status : Status}
    → session_step session rooms bytes place last ≡ (left, ok status) → RightLengths rooms
right_lengths session rooms bytes place last is =
    let fit = answered_fitted session rooms bytes place last (ap (λ (all : Left × Outcome Numbered Status). all.1) is) in
    record { table_long = fit.table_long; normal_long = fit.normal_long; overlay_long = fit.overlay_long; output_long = fit.output_long }

-- the first call is answered, so the rooms have their lengths
pub calls_right : {session : Session} {rooms : Rooms} {bytes : List ℕ} {place : ℕ} {pieces : List (List ℕ)} {written : List ℕ}
    → Calls session rooms bytes place pieces written → RightLengths rooms
calls_right (adds behind others) = calls_right others
calls_right (moves same others) = calls_right others
calls_right {session} {rooms} {bytes} {place} (waits {pieces = pieces} is others) =
    right_lengths session rooms bytes place (none pieces) is
calls_right {session} {rooms} {bytes} {place} (lists {pieces = pieces} is others) =
    right_lengths session rooms bytes place (none pieces) is
calls_right {session} {rooms} {bytes} {place} (ends {pieces = pieces} is) =
    right_lengths session rooms bytes place (none pieces) is
calls_right {session} {rooms} {bytes} {place} (stops {pieces = pieces} is) =
    right_lengths session rooms bytes place (none pieces) is

-- over a zeroed store a new session holds what there is at first, and the output's words
pub first_held : (rooms : Rooms) → Zeroed rooms → held_in (session_of nothing_held) rooms ≡ with_output nothing_held rooms.output
first_held rooms zeroed = rw zeroed refl

-- from a zeroed store, calls on a new session list the file's listing, however it is cut and whenever its pieces are lent
pub calls_list : {rooms : Rooms} {bytes : List ℕ} {pieces : List (List ℕ)} {written : List ℕ} → Zeroed rooms
    → Calls (session_of nothing_held) rooms bytes 0 pieces written → written ≡ listing (bytes ++ joined pieces)
calls_list {rooms} {bytes} {pieces} {written} zeroed calls =
    cut_lists (calls_right calls).output_long (subst (λ (held : Held). Steps held bytes pieces written) (first_held rooms zeroed) (calls_steps calls))
