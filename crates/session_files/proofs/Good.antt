-- From a fresh session no record is refused by 11. Assumes nothing.
use Prim.Native.Nat.{ℕ}
use mathlib.Core.Path.{◌≡◌, refl, sym, ap, subst, ◌∙◌}
use mathlib.Core.Bool.{Bool}
use mathlib.Core.List.{List, [], ◌∷◌}
use mathlib.Core.Logic.{◌⊎◌, inl, inr}
use native.Mathlib.Omega.{arith}
use lib.ListN.{drop}
use Rattle.rules.specs.Rule.{Outcome, ok, refused}
use Rattle.rules.specs.Faults.{Numbered}
use Rattle.refusals.specs.Refusal.{numbered}
use Rattle.chip.specs.Write.{written}
use Rattle.chip.specs.Dots.{ran}
use Rattle.chip.proofs.Good.{fresh_good}
use Rattle.chip_history.specs.Calls.{write, dots, left_by, end}
use Rattle.chip_history.proofs.Stays.{stays_good}
use Rattle.chip_history.proofs.Refused as chip_refused
use Rattle.session_records.specs.Parts.{body_of}
use Rattle.session_records.specs.RecordAt.{record_at}
use Rattle.session_records.specs.declared.record.Record.{Record}
use Rattle.session_records.specs.declared.record.Record.TheVariants.{End, Write, Dots, Table, Normal, Overlay, Line}
use Rattle.session_records.specs.declared.record.RecordAt.{RecordAt}
use Rattle.session_records.specs.declared.record.RecordAt.TheVariants.{Is, More, Refused}
use Rattle.session_listing.specs.Text.{EntrySays, says_ok, says_line}
use Rattle.session_answers.specs.Status.{Status}
use Rattle.line_setup.specs.Controls.{controls_of}
use Rattle.line.specs.Cells.{lent_of}
use Rattle.line.specs.Request.{request_of}
use Rattle.line.specs.Drawn.{drawn}
use Rattle.line_reads.proofs.Answers.{Not11, state_stays, good_not_11}
use Rattle.session.specs.Held.{Held, nothing_held}
use Rattle.session.specs.Record.{entry_of, at_position, acted, context_of, stepped}
use Rattle.session.specs.Lent.{Rooms, held_in, session_of}
use Rattle.session.specs.Step.{Left, session_step}
use Rattle.session.specs.declared.session.Session.{Session}
use Rattle.session_files.specs.Steps.{none}
use Rattle.session_files.specs.Calls.{Calls, adds, moves, waits, lists, ends, stops, EachComesTo, Zeroed, Roomy}
use Rattle.session_files.specs.Good.{GoodHeld, EntryNot11, StatusNot11}
use Rattle.session_files.proofs.Step.{by_found, stopped_number}
use Rattle.session_files.proofs.Calls.{same_status, same_held, calls_right}
use Rattle.session_files.proofs.Answered.{Ready, call_answered, stays_ready, first_ready}

-- the entry of a call: where its refusal is not by 11, neither is the entry
entry_not_11 : {A : Type 0} (entry : EntrySays) → EntryNot11 entry → (outcome : Outcome Numbered A) → ((refusal : Numbered) → outcome ≡ refused refusal → Not11 refusal)
    → EntryNot11 (entry_of entry outcome)
entry_not_11 entry plain (ok answer) not_11 = plain
entry_not_11 entry plain (refused refusal) not_11 = not_11 refusal refl

module _ (held : Held) (good : GoodHeld held) where
  -- no record is refused by 11
  acted_not_11 : (which : Record) (body : List ℕ) → StatusNot11 (acted held which body).1
  acted_not_11 End body = tt
  acted_not_11 (Write address value) body =
      entry_not_11 says_ok tt (written held.chip address value).1 (λ refusal is. chip_refused.good_not_11 held.chip good (write address value) refusal is)
  acted_not_11 (Dots count) body =
      entry_not_11 (at_position (ran held.chip count).0.0.at) tt (ran held.chip count).1
      (λ refusal is. chip_refused.good_not_11 held.chip good (dots count) refusal is)
  acted_not_11 Table body = tt
  acted_not_11 Normal body = tt
  acted_not_11 Overlay body = tt
  acted_not_11 (Line y) body =
      let lent = lent_of held.chip.1 held.table held.normal held.overlay in
      entry_not_11 (says_line y (controls_of held.chip.0.control).width) tt (drawn (request_of held.chip.0 y) lent held.output).1
      (λ refusal is. good_not_11 (request_of held.chip.0 y) lent held.output good is)

  -- no step lists a refusal by 11
  pub step_not_11 : (last : Bool) (bytes : List ℕ) → StatusNot11 (stepped last held bytes).1
  step_not_11 last bytes = by (record_at (context_of held last) bytes) refl
    where
      -- the numbers of a file's faults are others
      other : {number : ℕ} → (number ≡ 12) ⊎ ((number ≡ 13) ⊎ (number ≡ 14)) → number ≡ 11 → ⊥
      other (inl e) is = omega arith
      other (inr (inl e)) is = omega arith
      other (inr (inr e)) is = omega arith

      -- by what was found
      by : (answer : RecordAt) → record_at (context_of held last) bytes ≡ answer → StatusNot11 (stepped last held bytes).1
      by (Is which count) e = rw (by_found last held bytes e) (acted_not_11 which (body_of bytes))
      by More e = rw (by_found last held bytes e) tt
      by (Refused refusal) e =
          rw (by_found last held bytes e) (other (stopped_number last held bytes {refusal = numbered refusal} (rw (by_found last held bytes e) refl)))

-- every step leaves a chip that keeps its rule
pub stays_good_held : (last : Bool) (held : Held) (bytes : List ℕ) → Roomy held → GoodHeld held → GoodHeld (stepped last held bytes).0.0
unfolding left_by end
stays_good_held last held bytes roomy good = by (record_at (context_of held last) bytes) refl
  where
    -- by what was found, and then by the record
    by : (answer : RecordAt) → record_at (context_of held last) bytes ≡ answer → GoodHeld (stepped last held bytes).0.0
    by (Is End count) e = rw (by_found last held bytes e) good
    by (Is (Write address value) count) e = rw (by_found last held bytes e) (stays_good held.chip (write address value ∷ []) roomy.state_whole good)
    by (Is (Dots dot_count) count) e = rw (by_found last held bytes e) (stays_good held.chip (dots dot_count ∷ []) roomy.state_whole good)
    by (Is Table count) e = rw (by_found last held bytes e) good
    by (Is Normal count) e = rw (by_found last held bytes e) good
    by (Is Overlay count) e = rw (by_found last held bytes e) good
    by (Is (Line y) count) e =
        let lent = lent_of held.chip.1 held.table held.normal held.overlay in
        rw (by_found last held bytes e, state_stays (request_of held.chip.0 y) lent held.output) good
    by More e = rw (by_found last held bytes e) good
    by (Refused refusal) e = rw (by_found last held bytes e) good

-- a new session has a chip that keeps its rule, in any rooms
pub first_good : (rooms : Rooms) → GoodHeld (held_in (session_of nothing_held) rooms)
first_good rooms = fresh_good

module _ (session : Session) (rooms : Rooms) (bytes : List ℕ) (place : ℕ) (last : Bool) (ready : Ready session rooms) {after : Left} {status : Status}
    (is : session_step session rooms bytes place last ≡ (after, ok status)) where
  -- an answered call leaves what is ready for the next
  pub next_ready : Ready after.0.0 after.1
  next_ready =
      subst (λ (all : Left). Ready all.0.0 all.1) (ap (λ (all : Left × Outcome Numbered Status). all.0) (sym (call_answered session rooms bytes place last ready) ∙ is))
      (stays_ready session rooms bytes place last ready)

  module _ (good : GoodHeld (held_in session rooms)) where
    -- it leaves a chip that keeps its rule
    pub next_good : GoodHeld (held_in after.0.0 after.1)
    next_good = subst GoodHeld (sym (same_held session rooms bytes place last is)) (stays_good_held last (held_in session rooms) (drop place bytes) ready.roomy good)

    -- it lists no refusal by 11
    pub call_not_11 : StatusNot11 status
    call_not_11 = subst StatusNot11 (same_status session rooms bytes place last is) (step_not_11 (held_in session rooms) good last (drop place bytes))

-- wherever the chip keeps its rule, no call of those that follow lists a refusal by 11
pub calls_not_11 : {session : Session} {rooms : Rooms} {bytes : List ℕ} {place : ℕ} {pieces : List (List ℕ)} {written : List ℕ}
    → Ready session rooms → GoodHeld (held_in session rooms) → (calls : Calls session rooms bytes place pieces written) → EachComesTo StatusNot11 calls
calls_not_11 ready good (adds behind others) = calls_not_11 ready good others
calls_not_11 ready good (moves same others) = calls_not_11 ready good others
calls_not_11 {session} {rooms} {bytes} {place} {pieces} ready good (waits is others) =
    (tt, calls_not_11 (next_ready session rooms bytes place (none pieces) ready is) (next_good session rooms bytes place (none pieces) ready is good) others)
calls_not_11 {session} {rooms} {bytes} {place} {pieces} ready good (lists is others) = (
  call_not_11 session rooms bytes place (none pieces) ready is good,
  calls_not_11 (next_ready session rooms bytes place (none pieces) ready is) (next_good session rooms bytes place (none pieces) ready is good) others,
)
calls_not_11 ready good (ends is) = tt
calls_not_11 {session} {rooms} {bytes} {place} {pieces} ready good (stops is) = call_not_11 session rooms bytes place (none pieces) ready is good

-- from a zeroed store, no call on a new session lists a refusal by 11
pub never_11 : {rooms : Rooms} {bytes : List ℕ} {pieces : List (List ℕ)} {written : List ℕ} → Zeroed rooms
    → (calls : Calls (session_of nothing_held) rooms bytes 0 pieces written) → EachComesTo StatusNot11 calls
never_11 {rooms} zeroed calls = calls_not_11 (first_ready zeroed (calls_right calls)) (first_good rooms) calls
