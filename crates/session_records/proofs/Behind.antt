-- Bytes behind a record don't matter. Assumes nothing.
use Prim.Native.Nat.{ℕ, zero, suc, ◌+◌, ◌≤◌, ◌<◌}
use mathlib.Core.Path.{◌≡◌, refl, sym, ap, ap₂, ◌∙◌}
use mathlib.Core.Bool.{Bool, true, false, not, ◌&&◌, ◌||◌, and-false, and_assoc, or-true}
use mathlib.Core.List.{List, ◌++◌}
use native.Mathlib.Nat.{add-suc}
use native.Mathlib.Omega.{arith}
use borrow.Author.Tests.{leb-true, le-leb, eqb-true}
use lib.Dec.{eqb, ltb}
use lib.ListN.{length, get_or, drop, length-append, length-drop, get_or-append}
use lib.Seq.{take-append-le, drop-append-le}
use Rattle.rules.proofs.Cases.{impossible}
use Rattle.words.specs.Bytes.{big_endian}
use Rattle.session_records.specs.Tags.{known, lengths_of, allows}
use Rattle.session_records.specs.Parts.{there, tag_of, length_of, body_of, in_body, records_of, record_of}
use Rattle.session_records.specs.Faults.{unknown_tag, wrong_length, too_many_dots, wrong, too_much, missing}
use Rattle.session_records.specs.RecordAt.{record_at}
use Rattle.session_records.specs.declared.record.Context.{Context}
use Rattle.session_records.specs.declared.record.Record.TheVariants.{End}
use Rattle.session_records.specs.declared.record.RecordAt.{RecordAt}
use Rattle.session_records.specs.declared.record.RecordAt.TheVariants.{Is, More}
use Rattle.session_records.proofs.Tests.{both}
use Rattle.session_records.proofs.ByTag.{each_tag}
use Rattle.session_records.proofs.Whole.{whole_there, tag_known, least_there}
use Rattle.session_records.proofs.Answers.{found_wrong, found_more, found_much, found_is}
use Rattle.session_records.proofs.Judged.{Judged, faulty, waiting, cut_much, cut, much, good, judged}

-- a number, so many table bytes before, and whether the file ends with the bytes
abbrev pub judged_at : ℕ → ℕ → Bool → Context
judged_at number table last = record { number = number; table = table; last = last }

-- one of two tests holds, where each of two others brings one of them
either : (a b a' b' : Bool) → (a ≡ true → a' ≡ true) → (b ≡ true → b' ≡ true) → a || b ≡ true → a' || b' ≡ true
either true b a' b' first second e = rw (first refl)
either false b a' b' first second e = rw (second e, or-true)

module _ (bytes rest : List ℕ) where
  -- what is there stays there
  still_there : {count : ℕ} → count ≤ length bytes → there (bytes ++ rest) count ≡ true
  still_there {count} h = le-leb count (length (bytes ++ rest)) (rw length-append (omega arith))

  -- a number whose bytes are there stays the same
  pub number_kept : (at count : ℕ) → at + count ≤ length bytes → big_endian (bytes ++ rest) at count ≡ big_endian bytes at count
  number_kept at zero h = refl
  number_kept at (suc count) h =
      let before : at + count < length bytes = omega (arith, add-suc at count) in
      rw (number_kept at count (omega arith), get_or-append bytes rest 0 (at + count) before)

  -- a tag that is there stays the same
  pub tag_kept : 1 ≤ length bytes → tag_of (bytes ++ rest) ≡ tag_of bytes
  tag_kept h = get_or-append bytes rest 0 0 h

  -- a length that is there stays the same
  pub length_kept : 3 ≤ length bytes → length_of (bytes ++ rest) ≡ length_of bytes
  length_kept h = number_kept 1 2 h

  -- a test of bytes that are there, which comes out the same on them, still holds
  test_stays : (count : ℕ) (test test' : Bool) → (count ≤ length bytes → test' ≡ test) → there bytes count && test ≡ true → there (bytes ++ rest) count && test' ≡ true
  test_stays count test test' same e =
      let on = both (there bytes count) test e in
      let enough = leb-true count (length bytes) on.0 in
      rw (still_there enough, same enough) on.1

  -- dots that are too many stay too many
  dots_stay : too_many_dots bytes ≡ true → too_many_dots (bytes ++ rest) ≡ true
  dots_stay e =
      and_assoc (there (bytes ++ rest) 7) (eqb (tag_of (bytes ++ rest)) 2) (ltb 16777216 (in_body (bytes ++ rest) 0 4))
      ∙ test_stays 7 (eqb (tag_of bytes) 2 && ltb 16777216 (in_body bytes 0 4)) (eqb (tag_of (bytes ++ rest)) 2 && ltb 16777216 (in_body (bytes ++ rest) 0 4))
      (λ enough. rw (tag_kept (omega arith), number_kept 3 4 enough))
      (sym (and_assoc (there bytes 7) (eqb (tag_of bytes) 2) (ltb 16777216 (in_body bytes 0 4))) ∙ e)

  -- wrong bytes stay wrong
  wrong_stays : wrong bytes ≡ true → wrong (bytes ++ rest) ≡ true
  unfolding wrong
  wrong_stays =
      either (unknown_tag bytes || wrong_length bytes) (too_many_dots bytes) (unknown_tag (bytes ++ rest) || wrong_length (bytes ++ rest)) (too_many_dots (bytes ++ rest))
      (either (unknown_tag bytes) (wrong_length bytes) (unknown_tag (bytes ++ rest)) (wrong_length (bytes ++ rest))
      (test_stays 1 (not (known (tag_of bytes))) (not (known (tag_of (bytes ++ rest)))) (λ enough. rw (tag_kept enough)))
      (test_stays 3 (not (allows (tag_of bytes) (length_of bytes))) (not (allows (tag_of (bytes ++ rest)) (length_of (bytes ++ rest))))
      (λ enough. rw (tag_kept (omega arith), length_kept enough))))
      dots_stay

  module _ (all : missing bytes ≡ false) where
    -- tag and length are there
    head : 3 ≤ length bytes
    head = omega (arith, whole_there bytes all)

    -- what is all there stays so
    pub missing_kept : missing (bytes ++ rest) ≡ false
    unfolding missing
    missing_kept = rw (length_kept head, still_there head, still_there (whole_there bytes all))

    -- the body stays the same
    pub body_kept : body_of (bytes ++ rest) ≡ body_of bytes
    body_kept =
        rw (length_kept head, drop-append-le 3 bytes rest head, take-append-le (length_of bytes) (drop 3 bytes) rest (rw length-drop (omega (arith, whole_there bytes all))))

    -- a record stays too much, or not too much, whether the file ends or not
    much_kept : (number table : ℕ) (last : Bool) → too_much (judged_at number table last) (bytes ++ rest) ≡ too_much (judged_at number table false) bytes
    unfolding too_much
    much_kept number table last =
        let first : 1 ≤ length bytes = omega (arith, head) in
        rw (still_there first, le-leb 1 (length bytes) first, still_there head, le-leb 3 (length bytes) head, tag_kept first, length_kept head)

    module _ (right : wrong bytes ≡ false) where
      -- the shortest body of the tag is there
      least : (tag : ℕ) → tag_of bytes ≡ tag → 3 + (lengths_of tag).least ≤ length bytes
      least tag is = rw (← is) (omega (arith, least_there bytes all right, whole_there bytes all))

      -- dots stay too many or not: where the tag is theirs, all of the count is there
      dots_by : (two : Bool) → eqb (tag_of bytes) 2 ≡ two → too_many_dots (bytes ++ rest) ≡ too_many_dots bytes
      dots_by true is =
          let enough = least 2 (eqb-true (tag_of bytes) 2 is) in
          rw (still_there enough, le-leb 7 (length bytes) enough, tag_kept (omega arith), number_kept 3 4 enough)
      dots_by false is = rw (tag_kept (omega (arith, head)), is, and-false, and-false)

      -- the tag stays known or not
      tag_kept_known : unknown_tag (bytes ++ rest) ≡ unknown_tag bytes
      tag_kept_known =
          let first : 1 ≤ length bytes = omega (arith, head) in
          rw (still_there first, le-leb 1 (length bytes) first, tag_kept first)

      -- the length stays wrong or not
      length_kept_right : wrong_length (bytes ++ rest) ≡ wrong_length bytes
      length_kept_right = rw (still_there head, le-leb 3 (length bytes) head, tag_kept (omega (arith, head)), length_kept head)

      -- bytes that aren't wrong stay so
      wrong_kept : wrong (bytes ++ rest) ≡ false
      unfolding wrong
      wrong_kept = ap₂ ◌||◌ (ap₂ ◌||◌ tag_kept_known length_kept_right) (dots_by (eqb (tag_of bytes) 2) refl) ∙ right

      -- the record stays the same
      pub record_kept : record_of (bytes ++ rest) ≡ record_of bytes
      record_kept =
          ap (λ (tag : ℕ). get_or (records_of (bytes ++ rest)) tag End) (tag_kept (omega (arith, head)))
          ∙ each_tag (λ (tag : ℕ). tag_of bytes ≡ tag → get_or (records_of (bytes ++ rest)) tag End ≡ get_or (records_of bytes) tag End)
          (λ is. refl)
          (λ is. rw (number_kept 3 4 (omega (arith, least 1 is)), number_kept 7 4 (least 1 is)))
          (λ is. rw (number_kept 3 4 (least 2 is)))
          (λ is. refl)
          (λ is. refl)
          (λ is. refl)
          (λ is. rw (number_kept 3 2 (least 6 is)))
          (tag_of bytes) (tag_known bytes all right) refl

module _ (number table : ℕ) (bytes rest : List ℕ) (last : Bool) (answer : RecordAt) (sure : answer ≡ More → ⊥) where
  -- by the way in which the bytes are judged
  behind_by : Judged (judged_at number table false) bytes → record_at (judged_at number table false) bytes ≡ answer → record_at (judged_at number table last) (bytes ++ rest) ≡ answer
  behind_by (faulty w) e =
      found_wrong (judged_at number table last) (bytes ++ rest) (wrong_stays bytes rest w) ∙ sym (found_wrong (judged_at number table false) bytes w) ∙ e
  behind_by (waiting w s l) e = absurd (sure (sym e ∙ found_more (judged_at number table false) bytes w s l))
  behind_by (cut_much w s l m) e = impossible cc
  behind_by (cut w s l m) e = impossible cc
  behind_by (much w s m) e =
      found_much (judged_at number table last) (bytes ++ rest) (wrong_kept bytes rest s w) (missing_kept bytes rest s) (much_kept bytes rest s number table last ∙ m)
      ∙ sym (found_much (judged_at number table false) bytes w s m) ∙ e
  behind_by (good w s m) e =
      found_is (judged_at number table last) (bytes ++ rest) (wrong_kept bytes rest s w) (missing_kept bytes rest s) (much_kept bytes rest s number table last ∙ m)
      ∙ ap₂ Is (record_kept bytes rest s w) (length_kept bytes rest (head bytes rest s))
      ∙ sym (found_is (judged_at number table false) bytes w s m) ∙ e

  -- an answer that waits for nothing is the answer, whatever follows and wherever the file ends
  pub found_behind : record_at (judged_at number table false) bytes ≡ answer → record_at (judged_at number table last) (bytes ++ rest) ≡ answer
  found_behind = behind_by (judged (judged_at number table false) bytes)
