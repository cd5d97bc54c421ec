-- The last call of a run finds the end record exactly where the run over the file reaches it. Assumes nothing.
use Prim.Native.Nat.{ℕ, zero, suc, ◌+◌}
use mathlib.Core.Path.{◌≡◌, refl, ap, ap₂, sym, ◌∙◌}
use mathlib.Core.Bool.{true, false}
use mathlib.Core.List.{List, ◌++◌, append_assoc}
use native.Mathlib.Omega.{arith}
use lib.ListN.{drop}
use Rattle.rules.specs.Rule.{ok}
use Rattle.rules.specs.Faults.{Numbered}
use Rattle.rules.specs.Lists.{joined}
use Rattle.rules.proofs.Cases.{impossible}
use Rattle.session_listing.specs.Text.{EntrySays}
use Rattle.session_answers.specs.Status.{Status, listed, ended, needs_more, stopped}
use Rattle.session.specs.Held.{Held, nothing_held}
use Rattle.session.specs.Record.{stepped}
use Rattle.session.specs.Lent.{Rooms, held_in, session_of}
use Rattle.session.specs.Step.{Left, session_step}
use Rattle.session.specs.declared.session.Session.{Session}
use Rattle.session_files.specs.Steps.{none}
use Rattle.session_files.specs.Calls.{Calls, adds, moves, waits, lists, ends, stops, Zeroed}
use Rattle.session_files.specs.Ends.{ends_from, reaches_end, finds_end}
use Rattle.session_files.proofs.Step.{listed_counts, listed_below, waiting_leaves}
use Rattle.session_files.proofs.Behind.{step_of_whole}
use Rattle.session_files.proofs.Outputs.{end_any_output}
use Rattle.session_files.proofs.Cuts.{lists_rest}
use Rattle.session_files.proofs.Calls.{same_status, same_held, same_place, calls_right, first_held}

module _ (session : Session) (rooms : Rooms) (bytes : List ℕ) (place : ℕ) (pieces : List (List ℕ)) where
  -- what is held before the call
  abbrev held : Held
  held = held_in session rooms

  -- what is unread before it
  abbrev unread : List ℕ
  unread = drop place bytes

  -- the step over what is held
  abbrev step : (Held × ℕ) × Status
  step = stepped (none pieces) held unread

  -- what is held after it
  abbrev held_after : Left → Held
  held_after after = held_in after.0.0 after.1

  -- what is unread after it
  abbrev unread_after_is : Left → List ℕ
  unread_after_is after = drop after.0.1 bytes

  module _ {after : Left} {entry : EntrySays} (is : session_step session rooms bytes place (none pieces) ≡ (after, ok (listed entry))) where
    -- the step lists an entry
    lists_so : step ≡ (step.0, listed entry)
    lists_so = ap (λ (status : Status). (step.0, status)) (same_status session rooms bytes place (none pieces) is)

    -- after a call that lists an entry one record more was read
    lists_counted : (held_after after).records ≡ held.records + 1
    lists_counted =
        ap (λ (held : Held). held.records) (same_held session rooms bytes place (none pieces) is)
        ∙ listed_counts (none pieces) held unread (same_status session rooms bytes place (none pieces) is)

    -- the run goes on from what it left
    lists_finds : (count : ℕ) → ends_from count (held_after after) (unread_after_is after ++ joined pieces) ≡ ends_from (suc count) held (unread ++ joined pieces)
    lists_finds count =
        ap₂ (λ (held : Held) (front : List ℕ). ends_from count held (front ++ joined pieces)) (same_held session rooms bytes place (none pieces) is) (same_place session rooms bytes place (none pieces) is)
        ∙ ap (ends_from count step.0.0) (sym (lists_rest held unread pieces lists_so))
        ∙ rw (step_of_whole held unread pieces (λ more. impossible (cc (same_status session rooms bytes place (none pieces) is))), same_status session rooms bytes place (none pieces) is) refl

  module _ {after : Left} (is : session_step session rooms bytes place (none pieces) ≡ (after, ok needs_more)) where
    -- a call that waits leaves what is held
    waits_held : held_after after ≡ held
    waits_held =
        same_held session rooms bytes place (none pieces) is
        ∙ ap (λ (all : Held × ℕ). all.0) (waiting_leaves (none pieces) held unread (same_status session rooms bytes place (none pieces) is))

    -- it leaves what is unread
    waits_unread : unread_after_is after ≡ unread
    waits_unread =
        same_place session rooms bytes place (none pieces) is
        ∙ ap (λ (all : Held × ℕ). drop all.1 unread) (waiting_leaves (none pieces) held unread (same_status session rooms bytes place (none pieces) is))

  -- a call that finds the end record reaches it
  ends_finds : {after : Left} → session_step session rooms bytes place (none pieces) ≡ (after, ok ended) → (count : ℕ) → true ≡ ends_from (suc count) held (unread ++ joined pieces)
  ends_finds is count = rw (step_of_whole held unread pieces (λ more. impossible (cc (same_status session rooms bytes place (none pieces) is))), same_status session rooms bytes place (none pieces) is) refl

  -- a call that finds a fault of the file doesn't
  stops_finds : {after : Left} {refusal : Numbered} → session_step session rooms bytes place (none pieces) ≡ (after, ok (stopped refusal)) → (count : ℕ)
      → false ≡ ends_from (suc count) held (unread ++ joined pieces)
  stops_finds is count = rw (step_of_whole held unread pieces (λ more. impossible (cc (same_status session rooms bytes place (none pieces) is))), same_status session rooms bytes place (none pieces) is) refl

-- with so many further records left
calls_find : {session : Session} {rooms : Rooms} {bytes : List ℕ} {place : ℕ} {pieces : List (List ℕ)} {written : List ℕ} (calls : Calls session rooms bytes place pieces written)
    (left : ℕ) → left + session.records ≡ 1000000 → finds_end calls ≡ ends_from (suc left) (held_in session rooms) (drop place bytes ++ joined pieces)
calls_find {session} {rooms} {bytes} {place} (adds {piece = piece} {pieces = pieces} behind others) left few =
    calls_find others left few
    ∙ ap (ends_from (suc left) (held_in session rooms)) (ap (λ (front : List ℕ). front ++ joined pieces) behind ∙ append_assoc (drop place bytes) piece (joined pieces))
calls_find {session} {rooms} (moves {pieces = pieces} same others) left few =
    calls_find others left few ∙ ap (λ (front : List ℕ). ends_from (suc left) (held_in session rooms) (front ++ joined pieces)) same
calls_find {session} {rooms} {bytes} {place} {pieces} (waits is others) left few =
    let held_is = waits_held session rooms bytes place pieces is in
    calls_find others left (rw (ap (λ (held : Held). held.records) held_is) few)
    ∙ ap₂ (λ (held : Held) (front : List ℕ). ends_from (suc left) held (front ++ joined pieces)) held_is (waits_unread session rooms bytes place pieces is)
calls_find {session} {rooms} {bytes} {place} {pieces} (lists is others) zero few =
    absurd (omega (arith, listed_below (none pieces) (held_in session rooms) (drop place bytes) (same_status session rooms bytes place (none pieces) is)))
calls_find {session} {rooms} {bytes} {place} {pieces} (lists is others) (suc left) few =
    calls_find others left (omega (arith, lists_counted session rooms bytes place pieces is)) ∙ lists_finds session rooms bytes place pieces is (suc left)
calls_find {session} {rooms} {bytes} {place} {pieces} (ends is) left few = ends_finds session rooms bytes place pieces is left
calls_find {session} {rooms} {bytes} {place} {pieces} (stops is) left few = stops_finds session rooms bytes place pieces is left

-- from a zeroed store, the last call on a new session finds the end record exactly where the run over the file reaches it
pub end_found : {rooms : Rooms} {bytes : List ℕ} {pieces : List (List ℕ)} {written : List ℕ} → Zeroed rooms
    → (calls : Calls (session_of nothing_held) rooms bytes 0 pieces written) → finds_end calls ≡ reaches_end (bytes ++ joined pieces)
end_found {rooms} {bytes} {pieces} zeroed calls =
    calls_find calls 1000000 refl
    ∙ ap (λ (held : Held). ends_from 1000001 held (bytes ++ joined pieces)) (first_held rooms zeroed)
    ∙ end_any_output rooms.output (bytes ++ joined pieces) (calls_right calls).output_long
