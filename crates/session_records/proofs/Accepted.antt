-- What is known of a record that was found, and of bytes that wait for more. Assumes nothing.
use Prim.Native.Nat.{ℕ, ◌+◌, ◌≤◌}
use mathlib.Core.Path.{◌≡◌}
use mathlib.Core.Bool.{true, false}
use mathlib.Core.List.{List}
use lib.ListN.{length}
use Rattle.rules.proofs.Cases.{impossible}
use Rattle.session_records.specs.Parts.{record_of, length_of}
use Rattle.session_records.specs.Faults.{wrong, too_much, missing}
use Rattle.session_records.specs.RecordAt.{record_at}
use Rattle.session_records.specs.declared.record.Context.{Context}
use Rattle.session_records.specs.declared.record.Record.{Record}
use Rattle.session_records.specs.declared.record.RecordAt.TheVariants.{Is, More}
use Rattle.session_records.proofs.Whole.{whole_there}
use Rattle.session_records.proofs.Answers.{found_wrong, found_more, found_cut_much, found_cut, found_much, found_is}
use Rattle.session_records.proofs.Judged.{Judged, faulty, waiting, cut_much, cut, much, good, judged}

-- a record that was found: not wrong, all there, not too much; its parts are those of the bytes
pub record Accepted (context : Context) (bytes : List ℕ) (is : Record) (count : ℕ) : Type 0 where
  pub right : wrong bytes ≡ false
  pub whole : missing bytes ≡ false
  pub few : too_much context bytes ≡ false
  pub record_is : is ≡ record_of bytes
  pub length_is : count ≡ length_of bytes
  pub there : 3 + count ≤ length bytes

module _ (context : Context) (bytes : List ℕ) where
  -- by the way in which the bytes are judged
  accepted_by : {is : Record} {count : ℕ} → Judged context bytes → record_at context bytes ≡ Is is count → Accepted context bytes is count
  accepted_by (faulty w) e = impossible (cc (found_wrong context bytes w))
  accepted_by (waiting w s l) e = impossible (cc (found_more context bytes w s l))
  accepted_by (cut_much w s l m) e = impossible (cc (found_cut_much context bytes w s l m))
  accepted_by (cut w s l m) e = impossible (cc (found_cut context bytes w s l m))
  accepted_by (much w s m) e = impossible (cc (found_much context bytes w s m))
  accepted_by {is} {count} (good w s m) e =
      let length_is : count ≡ length_of bytes = cc (found_is context bytes w s m) in
      record {
        right = w;
        whole = s;
        few = m;
        record_is = cc (found_is context bytes w s m);
        length_is = length_is;
        there = rw length_is (whole_there bytes s);
      }

  -- what is known of a record that was found
  pub found_accepted : {is : Record} {count : ℕ} → record_at context bytes ≡ Is is count → Accepted context bytes is count
  found_accepted = accepted_by (judged context bytes)

  -- by the way in which the bytes are judged
  more_by : context.last ≡ true → Judged context bytes → record_at context bytes ≡ More → ⊥
  more_by ends (faulty w) e = impossible (cc (found_wrong context bytes w))
  more_by ends (waiting w s l) e = impossible cc
  more_by ends (cut_much w s l m) e = impossible (cc (found_cut_much context bytes w s l m))
  more_by ends (cut w s l m) e = impossible (cc (found_cut context bytes w s l m))
  more_by ends (much w s m) e = impossible (cc (found_much context bytes w s m))
  more_by ends (good w s m) e = impossible (cc (found_is context bytes w s m))

  -- where the file ends, nothing waits for more
  pub never_more : context.last ≡ true → record_at context bytes ≡ More → ⊥
  never_more ends = more_by ends (judged context bytes)
