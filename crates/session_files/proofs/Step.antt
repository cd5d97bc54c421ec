-- One step: what it leaves, takes and comes to. Assumes nothing.
use Prim.Native.Nat.{ℕ, ◌+◌, ◌≤◌, ◌<◌}
use mathlib.Core.Path.{◌≡◌, refl, ap, ◌∙◌}
use mathlib.Core.Bool.{Bool, true}
use mathlib.Core.List.{List, [], ◌∷◌}
use mathlib.Core.Logic.{◌⊎◌, inl, inr}
use lib.ListN.{length}
use Rattle.rules.specs.Faults.{Numbered}
use Rattle.rules.proofs.Cases.{impossible}
use Rattle.refusals.specs.Refusal.{numbered}
use Rattle.refusals.specs.declared.Refusal.{Refusal}
use Rattle.refusals.specs.declared.Refusal.TheVariants.{WrongRecord, FileEnds, TooMuch}
use Rattle.session_records.specs.Parts.{length_of, body_of}
use Rattle.session_records.specs.RecordAt.{record_at}
use Rattle.session_records.specs.declared.record.Context.{Context}
use Rattle.session_records.specs.declared.record.Record.{Record}
use Rattle.session_records.specs.declared.record.Record.TheVariants.{End, Write, Dots, Table, Normal, Overlay, Line}
use Rattle.session_records.specs.declared.record.RecordAt.{RecordAt}
use Rattle.session_records.specs.declared.record.RecordAt.TheVariants.{Is, More, Refused}
use Rattle.session_records.proofs.Answers.{found_wrong, found_more, found_cut_much, found_cut, found_much, found_is}
use Rattle.session_records.proofs.Judged.{Judged, faulty, waiting, cut_much, cut, much, good, judged}
use Rattle.session_records.proofs.Accepted.{found_accepted, never_more}
use Rattle.session_records.proofs.Limits.{numbered_below}
use Rattle.session_listing.specs.Text.{EntrySays}
use Rattle.session_answers.specs.Status.{listed, ended, needs_more, stopped}
use Rattle.session.specs.Held.{Held}
use Rattle.session.specs.Record.{acted, status_by, context_of, stepped}

-- ---- the four things that a step comes to

-- what a record does lists an entry and counts it; only the end record lists nothing, and leaves all as it was
data Did (held : Held) (which : Record) (body : List ℕ) : Type 0 where
  did : {after : Held} {entry : EntrySays} → acted held which body ≡ (after, listed entry) → after.records ≡ held.records + 1 → Did held which body
  over : which ≡ End → acted held which body ≡ (held, ended) → Did held which body

-- every record does one of the two
does : (held : Held) (which : Record) (body : List ℕ) → Did held which body
does held End body = over refl refl
does held (Write address value) body = did refl refl
does held (Dots count) body = did refl refl
does held Table body = did refl refl
does held Normal body = did refl refl
does held Overlay body = did refl refl
does held (Line y) body = did refl refl

module _ (last : Bool) (held : Held) (bytes : List ℕ) where
  -- a record was found: an entry is listed, or it is the end; bytes are waited for; a fault stops the run
  pub data Stepped : Type 0 where
    lists : {which : Record} {after : Held} {entry : EntrySays} → record_at (context_of held last) bytes ≡ Is which (length_of bytes) → after.records ≡ held.records + 1
        → stepped last held bytes ≡ ((after, 3 + length_of bytes), listed entry) → Stepped
    ends : record_at (context_of held last) bytes ≡ Is End (length_of bytes) → stepped last held bytes ≡ ((held, 3 + length_of bytes), ended) → Stepped
    lacks : record_at (context_of held last) bytes ≡ More → stepped last held bytes ≡ ((held, 0), needs_more) → Stepped
    stops : {refusal : Refusal} → record_at (context_of held last) bytes ≡ Refused refusal → stepped last held bytes ≡ ((held, 0), stopped (numbered refusal)) → Stepped

  -- a step goes by what it found
  pub by_found : {answer : RecordAt} → record_at (context_of held last) bytes ≡ answer → stepped last held bytes ≡ status_by held bytes answer
  unfolding stepped
  by_found e = ap (status_by held bytes) e

  -- so it comes to one of the four
  step_found : (answer : RecordAt) → record_at (context_of held last) bytes ≡ answer → Stepped
  step_found (Is which count) e =
      let is : record_at (context_of held last) bytes ≡ Is which (length_of bytes) = e ∙ ap (Is which) (found_accepted (context_of held last) bytes e).length_is in
      by (does held which (body_of bytes)) is
    where
      -- by what the record did
      by : Did held which (body_of bytes) → record_at (context_of held last) bytes ≡ Is which (length_of bytes) → Stepped
      by (did {after = after} {entry = entry} d counts) is = lists {after = after} {entry = entry} is counts (rw (by_found is, d))
      by (over end d) is = ends (rw end at is) (rw (by_found is, d))
  step_found More e = lacks e (by_found e)
  step_found (Refused refusal) e = stops e (by_found e)

  -- every step comes to one of the four
  pub step : Stepped
  step = step_found (record_at (context_of held last) bytes) refl

-- ---- 12 to 14

-- what a record can be refused for
abbrev Fault : ℕ → Refusal → Type 0
Fault number refusal = (refusal ≡ WrongRecord number) ⊎ ((refusal ≡ FileEnds number) ⊎ (refusal ≡ TooMuch number))

module _ (context : Context) (bytes : List ℕ) {refusal : Refusal} (e : record_at context bytes ≡ Refused refusal) where
  -- by the way in which the bytes are judged
  fault_by : Judged context bytes → Fault context.number refusal
  fault_by (faulty w) = inl (cc (found_wrong context bytes w))
  fault_by (waiting w s l) = impossible (cc (found_more context bytes w s l))
  fault_by (cut_much w s l m) = inr (inr (cc (found_cut_much context bytes w s l m)))
  fault_by (cut w s l m) = inr (inl (cc (found_cut context bytes w s l m)))
  fault_by (much w s m) = inr (inr (cc (found_much context bytes w s m)))
  fault_by (good w s m) = impossible (cc (found_is context bytes w s m))

-- the number of such a fault is 12, 13 or 14
number_by : {number : ℕ} {refusal : Refusal} → Fault number refusal → ((numbered refusal).number ≡ 12) ⊎ (((numbered refusal).number ≡ 13) ⊎ ((numbered refusal).number ≡ 14))
number_by (inl e) = inl (rw e)
number_by (inr (inl e)) = inr (inl (rw e))
number_by (inr (inr e)) = inr (inr (rw e))

-- the place of such a fault is the record's number
place_by : {number : ℕ} {refusal : Refusal} → Fault number refusal → (numbered refusal).values ≡ number ∷ []
place_by (inl e) = rw e
place_by (inr (inl e)) = rw e
place_by (inr (inr e)) = rw e

module _ (last : Bool) (held : Held) (bytes : List ℕ) {refusal : Numbered} (e : (stepped last held bytes).1 ≡ stopped refusal) where
  -- a step that stops the run found a fault of the file
  record Stops : Type 0 where
    fault : Refusal
    found_so : record_at (context_of held last) bytes ≡ Refused fault
    listed_so : refusal ≡ numbered fault
    leaves_so : (stepped last held bytes).0 ≡ (held, 0)

  -- by what the step came to
  stops_by : Stepped last held bytes → Stops
  stops_by (lists is counts s) = impossible cc
  stops_by (ends is s) = impossible cc
  stops_by (lacks is s) = impossible cc
  stops_by (stops {refusal = fault} is s) = record { fault = fault; found_so = is; listed_so = cc; leaves_so = rw s }

  -- it leaves all as before the record, and takes nothing
  pub stopped_leaves : (stepped last held bytes).0 ≡ (held, 0)
  stopped_leaves = (stops_by (step last held bytes)).leaves_so

  -- the fault is one of the three
  fault_is : Fault held.records (stops_by (step last held bytes)).fault
  fault_is = fault_by (context_of held last) bytes (stops_by (step last held bytes)).found_so (judged (context_of held last) bytes)

  -- it is refused by 12, 13 or 14
  pub stopped_number : (refusal.number ≡ 12) ⊎ ((refusal.number ≡ 13) ⊎ (refusal.number ≡ 14))
  stopped_number = rw (stops_by (step last held bytes)).listed_so (number_by fault_is)

  -- the place is the record's number
  pub stopped_place : refusal.values ≡ held.records ∷ []
  stopped_place = rw (stops_by (step last held bytes)).listed_so (place_by fault_is)

-- ---- the others

module _ (last : Bool) (held : Held) (bytes : List ℕ) where
  -- a step that waits leaves all as it was, and takes nothing
  pub waiting_leaves : (stepped last held bytes).1 ≡ needs_more → (stepped last held bytes).0 ≡ (held, 0)
  waiting_leaves e = by (step last held bytes)
    where
      -- by what the step comes to
      by : Stepped last held bytes → (stepped last held bytes).0 ≡ (held, 0)
      by (lists is counts s) = impossible cc
      by (ends is s) = impossible cc
      by (lacks is s) = rw s
      by (stops is s) = rw s

  -- where the file ends, no step waits
  pub never_waits : last ≡ true → (stepped last held bytes).1 ≡ needs_more → ⊥
  never_waits whole e = by (step last held bytes)
    where
      -- by what the step comes to
      by : Stepped last held bytes → ⊥
      by (lists is counts s) = impossible cc
      by (ends is s) = impossible cc
      by (lacks is s) = never_more (context_of held last) bytes whole is
      by (stops is s) = impossible cc

  -- what is known of a step that lists an entry, a refusal too
  pub record Lists : Type 0 where
    pub which : Record
    pub is : record_at (context_of held last) bytes ≡ Is which (length_of bytes)
    pub counts : (stepped last held bytes).0.0.records ≡ held.records + 1
    pub takes : (stepped last held bytes).0.1 ≡ 3 + length_of bytes

  module _ {entry : EntrySays} (e : (stepped last held bytes).1 ≡ listed entry) where
    -- by what the step came to
    lists_by : Stepped last held bytes → Lists
    lists_by (lists {which = which} is counts s) = record { which = which; is = is; counts = rw s counts; takes = rw s }
    lists_by (ends is s) = impossible cc
    lists_by (lacks is s) = impossible cc
    lists_by (stops is s) = impossible cc

    -- all of it is known of every step that lists an entry
    pub lists_known : Lists
    lists_known = lists_by (step last held bytes)

    -- it counts its record
    pub listed_counts : (stepped last held bytes).0.0.records ≡ held.records + 1
    listed_counts = lists_known.counts

    -- the next place is 3 bytes and the record's length further on
    pub listed_takes : (stepped last held bytes).0.1 ≡ 3 + length_of bytes
    listed_takes = lists_known.takes

    -- the bytes of its record are there
    pub listed_there : 3 + length_of bytes ≤ length bytes
    listed_there = (found_accepted (context_of held last) bytes lists_known.is).there

    -- fewer than 1,000,000 records stand before it
    pub listed_below : held.records < 1000000
    listed_below = numbered_below (context_of held last) bytes lists_known.is

  -- a step that finds the end record leaves all as it was
  pub ended_leaves : (stepped last held bytes).1 ≡ ended → (stepped last held bytes).0.0 ≡ held
  ended_leaves e = by (step last held bytes)
    where
      -- by what the step comes to
      by : Stepped last held bytes → (stepped last held bytes).0.0 ≡ held
      by (lists is counts s) = impossible cc
      by (ends is s) = rw s
      by (lacks is s) = rw s
      by (stops is s) = rw s
