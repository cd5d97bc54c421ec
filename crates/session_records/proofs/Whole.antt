-- What a record is like that is all there and not wrong. Assumes nothing.
use Prim.Native.Nat.{ℕ, ◌+◌, ◌≤◌, ◌<◌}
use mathlib.Core.Path.{◌≡◌, ap}
use mathlib.Core.Bool.{true, false, not, ◌&&◌, ◌||◌}
use mathlib.Core.List.{List}
use native.Mathlib.Omega.{arith}
use borrow.Author.Tests.{ltb-true, ltb-false, leb-true, le-leb, eq-eqb, not-false}
use lib.Dec.{eqb, leb, ltb}
use lib.ListN.{length, drop, length-drop}
use lib.Seq.{length-take-le}
use Rattle.rules.proofs.Cases.{neither, not_both}
use Rattle.session_records.specs.Tags.{known, lengths_of, allows}
use Rattle.session_records.specs.Parts.{there, tag_of, length_of, body_of, in_body}
use Rattle.session_records.specs.Faults.{unknown_tag, wrong_length, too_many_dots, wrong, missing}
use Rattle.session_records.proofs.Tests.{both}

module _ (bytes : List ℕ) (all : missing bytes ≡ false) where
  -- the head is there, and the body
  both_there : (there bytes 3 ≡ true) × (there bytes (3 + length_of bytes) ≡ true)
  unfolding missing
  both_there = both (there bytes 3) (there bytes (3 + length_of bytes)) (not-false (there bytes 3 && there bytes (3 + length_of bytes)) all)

  -- all of it is there
  pub whole_there : 3 + length_of bytes ≤ length bytes
  whole_there = leb-true (3 + length_of bytes) (length bytes) both_there.1

  -- the body is as long as its length says
  pub body_long : length (body_of bytes) ≡ length_of bytes
  body_long = length-take-le (length_of bytes) (drop 3 bytes) (rw length-drop (omega (arith, whole_there)))

  module _ (right : wrong bytes ≡ false) where
    -- neither tag nor length is wrong, nor a count of dots
    first_two : (unknown_tag bytes || wrong_length bytes ≡ false) × (too_many_dots bytes ≡ false)
    unfolding wrong
    first_two = neither (unknown_tag bytes || wrong_length bytes) (too_many_dots bytes) right

    -- each of the first two apart
    each : (unknown_tag bytes ≡ false) × (wrong_length bytes ≡ false)
    each = neither (unknown_tag bytes) (wrong_length bytes) first_two.0

    -- there is a record with its tag
    pub tag_known : tag_of bytes < 7
    tag_known =
        let h = whole_there in
        ltb-true (tag_of bytes) 7 (not-false (known (tag_of bytes)) (not_both (there bytes 1) (not (known (tag_of bytes))) each.0 (le-leb 1 (length bytes) (omega arith))))

    -- its tag allows its length
    tag_allows : allows (tag_of bytes) (length_of bytes) ≡ true
    tag_allows =
        not-false (allows (tag_of bytes) (length_of bytes)) (not_both (there bytes 3) (not (allows (tag_of bytes) (length_of bytes))) each.1 both_there.0)

    -- both ends of the lengths that its tag allows
    ends : (leb (lengths_of (tag_of bytes)).least (length_of bytes) ≡ true) × (leb (length_of bytes) (lengths_of (tag_of bytes)).most ≡ true)
    unfolding allows
    ends = both (leb (lengths_of (tag_of bytes)).least (length_of bytes)) (leb (length_of bytes) (lengths_of (tag_of bytes)).most) tag_allows

    -- its body is as long as the shortest of its tag
    pub least_there : (lengths_of (tag_of bytes)).least ≤ length_of bytes
    least_there = leb-true (lengths_of (tag_of bytes)).least (length_of bytes) ends.0

    -- its body is no longer than the longest of its tag
    pub most_there : length_of bytes ≤ (lengths_of (tag_of bytes)).most
    most_there = leb-true (length_of bytes) (lengths_of (tag_of bytes)).most ends.1

    -- a count of dots is at most 16,777,216
    pub dots_few : tag_of bytes ≡ 2 → in_body bytes 0 4 ≤ 16777216
    dots_few is =
        let all : 7 ≤ length bytes = omega (arith, whole_there, ap (λ (tag : ℕ). (lengths_of tag).least) is, least_there) in
        ltb-false 16777216 (in_body bytes 0 4)
        (not_both (there bytes 7 && eqb (tag_of bytes) 2) (ltb 16777216 (in_body bytes 0 4)) first_two.1 (rw (le-leb 7 (length bytes) all, eq-eqb (tag_of bytes) 2 is)))
