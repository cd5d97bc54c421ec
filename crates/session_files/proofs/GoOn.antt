-- Every file has its listing by calls, however it is cut: wherever a run is, calls go on to its end. Assumes nothing.
use Prim.Native.Nat.{ℕ, zero, suc, ◌+◌, ◌-◌, ◌≤◌}
use mathlib.Core.Path.{◌≡◌, refl, ap, subst}
use mathlib.Core.Bool.{true, false}
use mathlib.Core.List.{List, [], ◌∷◌, ◌++◌}
use native.Mathlib.Omega.{arith}
use lib.ListN.{length, drop, replicate, length-replicate}
use Rattle.rules.specs.Lists.{joined}
use Rattle.chip_registers.specs.Store.{store_length}
use Rattle.session_records.specs.Tags.{longest_table, longest_normal, longest_overlay}
use Rattle.session_listing.specs.Text.{says_refused, text}
use Rattle.session_answers.specs.Status.{Status, listed, ended, needs_more, stopped}
use Rattle.session_rooms.specs.Rooms.{longest_line}
use Rattle.session.specs.Held.{Held, nothing_held}
use Rattle.session.specs.Record.{stepped}
use Rattle.session.specs.Listing.{listing}
use Rattle.session.specs.Lent.{Rooms, rooms_of, held_in, session_of}
use Rattle.session.specs.Step.{after_step}
use Rattle.session.specs.declared.session.Session.{Session}
use Rattle.session_files.specs.Outputs.{with_output}
use Rattle.session_files.specs.Steps.{none, Steps}
use Rattle.session_files.specs.Calls.{Calls, adds, waits, lists, ends, stops, LentOnDemand, Zeroed, RightLengths}
use Rattle.session_files.proofs.Step.{listed_counts, listed_below, waiting_leaves, never_waits}
use Rattle.session_files.proofs.Calls.{calls_steps, calls_list}
use Rattle.session_files.proofs.Answered.{Ready, left, call_comes, stays_ready, first_ready}

-- calls go on to an end, and lend each piece where one waits for it
pub record CallsToEnd (session : Session) (rooms : Rooms) (bytes : List ℕ) (place : ℕ) (pieces : List (List ℕ)) : Type 0 where
  pub written : List ℕ
  pub calls : Calls session rooms bytes place pieces written
  pub on_demand : LentOnDemand false calls

-- from a session that so many records stood before, the first call's among them
abbrev Further : ℕ → Type 0
Further left = (session : Session) (rooms : Rooms) → Ready session rooms → left + session.records ≡ 1000001 → session.records ≤ 1000000
    → (bytes : List ℕ) (place : ℕ) (pieces : List (List ℕ)) → CallsToEnd session rooms bytes place pieces

module _ (count : ℕ) (further : Further count) where
  module _ (session : Session) (rooms : Rooms) (ready : Ready session rooms) (few : count + session.records ≡ 1000000) (bytes : List ℕ) (place : ℕ) (pieces : List (List ℕ)) where
    -- what is held before the call
    abbrev held : Held
    held = held_in session rooms

    -- by what the call comes to
    goes_by : ((stepped (none pieces) held (drop place bytes)).1 ≡ needs_more → CallsToEnd session rooms bytes place pieces)
        → (status : Status) → (stepped (none pieces) held (drop place bytes)).1 ≡ status → CallsToEnd session rooms bytes place pieces
    unfolding after_step
    goes_by more (listed entry) e =
        let last = none pieces in
        let next = left session rooms bytes place last in
        let counts : next.0.0.records ≡ session.records + 1 = listed_counts last held (drop place bytes) e in
        let rest = further next.0.0 next.1 (stays_ready session rooms bytes place last ready) (omega arith) (omega (arith, listed_below last held (drop place bytes) e)) bytes next.0.1 pieces in
        record {
          written = text entry next.1.output ++ rest.written;
          calls = lists (call_comes session rooms bytes place last ready e) rest.calls;
          on_demand = (refl, rest.on_demand);
        }
    goes_by more ended e = record { written = []; calls = ends (call_comes session rooms bytes place (none pieces) ready e); on_demand = refl }
    goes_by more needs_more e = more e
    goes_by more (stopped refusal) e =
        let last = none pieces in
        record { written = text (says_refused refusal) (left session rooms bytes place last).1.output; calls = stops (call_comes session rooms bytes place last ready e); on_demand = refl }

  -- whatever the pieces, and whatever is lent
  goes_lent : (pieces : List (List ℕ)) (session : Session) (rooms : Rooms) → Ready session rooms → count + session.records ≡ 1000000 → (bytes : List ℕ) (place : ℕ)
      → CallsToEnd session rooms bytes place pieces
  unfolding after_step
  goes_lent [] session rooms ready few bytes place =
      goes_by session rooms ready few bytes place [] (λ w. absurd (never_waits true (held_in session rooms) (drop place bytes) refl w))
      (stepped true (held_in session rooms) (drop place bytes)).1 refl
  goes_lent (piece ∷ pieces) session rooms ready few bytes place =
      let next = left session rooms bytes place false in
      let waited : (stepped false (held_in session rooms) (drop place bytes)).1 ≡ needs_more → CallsToEnd session rooms bytes place (piece ∷ pieces) =
      λ w.
      let same : next.0.0.records ≡ session.records = ap (λ (all : Held × ℕ). all.0.records) (waiting_leaves false (held_in session rooms) (drop place bytes) w) in
      let rest = goes_lent pieces next.0.0 next.1 (stays_ready session rooms bytes place false ready) (omega arith) (drop next.0.1 bytes ++ piece) 0 in
      record {
        written = rest.written;
        calls = waits (call_comes session rooms bytes place false ready w) (adds refl rest.calls);
        on_demand = (refl, (refl, rest.on_demand));
      } in
      goes_by session rooms ready few bytes place (piece ∷ pieces) waited (stepped false (held_in session rooms) (drop place bytes)).1 refl

-- with so many records left
goes_within : (count : ℕ) → Further count
goes_within zero session rooms ready few below bytes place pieces = absurd (omega arith)
goes_within (suc count) session rooms ready few below bytes place pieces = goes_lent count (goes_within count) pieces session rooms ready (omega arith) bytes place

-- wherever a run is, calls go on to its end, whatever is lent and to come
pub calls_go_on : (session : Session) (rooms : Rooms) → Ready session rooms → session.records ≤ 1000000 → (bytes : List ℕ) (place : ℕ) (pieces : List (List ℕ))
    → CallsToEnd session rooms bytes place pieces
calls_go_on session rooms ready few = goes_within (1000001 - session.records) session rooms ready (omega arith) few

-- calls on a new session list the file's listing, however it is cut, and lend each piece where one waits for it
pub calls_give : (rooms : Rooms) → Zeroed rooms → RightLengths rooms → (bytes : List ℕ) (pieces : List (List ℕ))
    → (calls : Calls (session_of nothing_held) rooms bytes 0 pieces (listing (bytes ++ joined pieces))) × LentOnDemand false calls
calls_give rooms zeroed right bytes pieces =
    let all = calls_go_on (session_of nothing_held) rooms (first_ready zeroed right) (omega arith) bytes 0 pieces in
    subst (λ (written : List ℕ). (calls : Calls (session_of nothing_held) rooms bytes 0 pieces written) × LentOnDemand false calls) (calls_list zeroed all.calls)
    (all.calls, all.on_demand)

-- whatever the pieces, steps over what is held at first come to an end and list the file's listing, over any output
pub steps_end : (output : List ℕ) → length output ≡ longest_line → (bytes : List ℕ) (pieces : List (List ℕ))
    → Steps (with_output nothing_held output) bytes pieces (listing (bytes ++ joined pieces))
steps_end output long bytes pieces =
    let rooms = rooms_of (replicate store_length 0) (replicate longest_table 0) (replicate longest_normal 0) (replicate longest_overlay 0) output in
    let right : RightLengths rooms =
    record {
      table_long = length-replicate {A = ℕ} longest_table 0;
      normal_long = length-replicate {A = ℕ} longest_normal 0;
      overlay_long = length-replicate {A = ℕ} longest_overlay 0;
      output_long = long;
    } in
    calls_steps (calls_give rooms refl right bytes pieces).0
