-- A record that is not all there has fewer bytes than the longest. Assumes nothing.
use Prim.Native.Nat.{ℕ, ◌+◌, ◌≤◌, ◌<◌}
use mathlib.Core.Path.{◌≡◌, refl}
use mathlib.Core.Bool.{Bool, true, false, not, ◌&&◌, ◌||◌}
use mathlib.Core.List.{List}
use native.Mathlib.Omega.{arith}
use borrow.Author.Tests.{leb-true, leb-false, ltb-true, le-leb, not-true, not-false}
use lib.Dec.{leb}
use lib.ListN.{length}
use Rattle.rules.proofs.Cases.{impossible, neither, not_both}
use Rattle.session_records.specs.Tags.{known, lengths_of, allows}
use Rattle.session_records.specs.Parts.{there, tag_of, length_of}
use Rattle.session_records.specs.Faults.{unknown_tag, wrong_length, too_many_dots, wrong, missing}
use Rattle.session_records.specs.RecordAt.{record_at}
use Rattle.session_records.specs.declared.record.Context.{Context}
use Rattle.session_records.specs.declared.record.RecordAt.TheVariants.{More}
use Rattle.session_records.proofs.Tests.{both}
use Rattle.session_records.proofs.ByTag.{each_tag}
use Rattle.session_records.proofs.Answers.{found_wrong, found_cut_much, found_cut, found_much, found_is}
use Rattle.session_records.proofs.Judged.{Judged, faulty, waiting, cut_much, cut, much, good, judged}

module _ (bytes : List ℕ) (right : wrong bytes ≡ false) where
  -- neither tag nor length is wrong
  two_right : (unknown_tag bytes ≡ false) × (wrong_length bytes ≡ false)
  unfolding wrong
  two_right = neither (unknown_tag bytes) (wrong_length bytes) (neither (unknown_tag bytes || wrong_length bytes) (too_many_dots bytes) right).0

  module _ (head : there bytes 3 ≡ true) where
    -- there is a record with its tag
    tag_below : tag_of bytes < 7
    tag_below =
        ltb-true (tag_of bytes) 7
        (not-false (known (tag_of bytes)) (not_both (there bytes 1) (not (known (tag_of bytes))) two_right.0 (le-leb 1 (length bytes) (omega (arith, leb-true 3 (length bytes) head)))))

    -- its tag allows its length
    tag_allows : (leb (lengths_of (tag_of bytes)).least (length_of bytes) ≡ true) × (leb (length_of bytes) (lengths_of (tag_of bytes)).most ≡ true)
    unfolding allows
    tag_allows =
        both (leb (lengths_of (tag_of bytes)).least (length_of bytes)) (leb (length_of bytes) (lengths_of (tag_of bytes)).most)
        (not-false (allows (tag_of bytes) (length_of bytes)) (not_both (there bytes 3) (not (allows (tag_of bytes) (length_of bytes))) two_right.1 head))

    -- no body has more than 65,535 bytes
    body_short : length_of bytes ≤ 65535
    body_short =
        let most = each_tag (λ (tag : ℕ). (lengths_of tag).most ≤ 65535) (omega arith) (omega arith) (omega arith) (omega arith) (omega arith) (omega arith) (omega arith) (tag_of bytes) tag_below in
        omega (arith, most, leb-true (length_of bytes) (lengths_of (tag_of bytes)).most tag_allows.1)

  -- by whether tag and length are there
  short_by : (test : Bool) → there bytes 3 ≡ test → missing bytes ≡ true → length bytes ≤ 65537
  unfolding missing
  short_by false head short = omega (arith, leb-false 3 (length bytes) head)
  short_by true head short =
      let less = leb-false (3 + length_of bytes) (length bytes)
      (not_both (there bytes 3) (there bytes (3 + length_of bytes)) (not-true (there bytes 3 && there bytes (3 + length_of bytes)) short) head) in
      omega (arith, less, body_short head)

module _ (context : Context) (bytes : List ℕ) (e : record_at context bytes ≡ More) where
  -- by the way in which the bytes are judged
  waits_by_left : Judged context bytes → length bytes ≤ 65537
  waits_by_left (faulty w) = impossible (cc (found_wrong context bytes w))
  waits_by_left (waiting w s l) = short_by bytes w (there bytes 3) refl s
  waits_by_left (cut_much w s l m) = impossible (cc (found_cut_much context bytes w s l m))
  waits_by_left (cut w s l m) = impossible (cc (found_cut context bytes w s l m))
  waits_by_left (much w s m) = impossible (cc (found_much context bytes w s m))
  waits_by_left (good w s m) = impossible (cc (found_is context bytes w s m))

  -- bytes that wait for more are at most 65,537
  pub waits_short : length bytes ≤ 65537
  waits_short = waits_by_left (judged context bytes)
