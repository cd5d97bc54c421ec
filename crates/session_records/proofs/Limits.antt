-- The limits of records that were found: how many, how long their bodies, how large a table, how many dots. Assumes nothing.
use Prim.Native.Nat.{ℕ, ◌+◌, ◌≤◌, ◌<◌}
use mathlib.Core.Path.{◌≡◌, refl, sym, ap, ◌∙◌}
use mathlib.Core.Bool.{true, false, ◌&&◌}
use mathlib.Core.List.{List}
use native.Mathlib.Omega.{arith}
use borrow.Author.Tests.{leb-false, ltb-false, le-leb, eq-eqb}
use lib.Dec.{eqb, leb, ltb}
use lib.ListN.{length, get_or}
use Rattle.rules.proofs.Cases.{neither, not_both}
use Rattle.session_records.specs.Tags.{lengths_of}
use Rattle.session_records.specs.Parts.{there, tag_of, length_of, in_body, records_of}
use Rattle.session_records.specs.Faults.{too_many_records, too_long_table, too_much}
use Rattle.session_records.specs.RecordAt.{record_at}
use Rattle.session_records.specs.declared.record.Context.{Context}
use Rattle.session_records.specs.declared.record.Record.{Record}
use Rattle.session_records.specs.declared.record.Record.TheVariants.{End, Write, Dots, Table, Normal, Overlay, Line}
use Rattle.session_records.specs.declared.record.RecordAt.TheVariants.{Is}
use Rattle.session_records.proofs.ByTag.{each_tag}
use Rattle.session_records.proofs.Whole.{tag_known, most_there, dots_few}
use Rattle.session_records.proofs.Accepted.{Accepted, found_accepted}

-- the tag of a record
abbrev pub tag_for : Record → ℕ
tag_for End = 0
tag_for (Write address value) = 1
tag_for (Dots count) = 2
tag_for Table = 3
tag_for Normal = 4
tag_for Overlay = 5
tag_for (Line y) = 6

-- the record of a tag has that tag
tag_back : (bytes : List ℕ) (tag : ℕ) → tag < 7 → tag_for (get_or (records_of bytes) tag End) ≡ tag
tag_back bytes = each_tag (λ (tag : ℕ). tag_for (get_or (records_of bytes) tag End) ≡ tag) refl refl refl refl refl refl refl

module _ (context : Context) (bytes : List ℕ) {is : Record} {count : ℕ} (e : record_at context bytes ≡ Is is count) where
  -- all that is known of it
  accepted : Accepted context bytes is count
  accepted = found_accepted context bytes e

  -- it is too much in neither way
  faults : (too_many_records context.number bytes ≡ false) × (too_long_table context.table bytes ≡ false)
  unfolding too_much
  faults = neither (too_many_records context.number bytes) (too_long_table context.table bytes) accepted.few

  -- fewer than 1,000,000 records stand before it
  pub numbered_below : context.number < 1000000
  numbered_below =
      let fits = accepted in
      leb-false 1000000 context.number (not_both (there bytes 1) (leb 1000000 context.number) faults.0 (le-leb 1 (length bytes) (omega arith)))

  -- its tag is that of the record
  pub tag_is : tag_of bytes ≡ tag_for is
  tag_is =
      sym (tag_back bytes (tag_of bytes) (tag_known bytes accepted.whole accepted.right)) ∙ ap tag_for (sym accepted.record_is)

  -- its body is no longer than its tag allows
  pub body_fits : count ≤ (lengths_of (tag_for is)).most
  body_fits = rw (accepted.length_is, ← tag_is) (most_there bytes accepted.whole accepted.right)

module _ (context : Context) (bytes : List ℕ) {count : ℕ} where
  -- a normal row has at most 8,192 bytes
  pub normal_fits : record_at context bytes ≡ Is Normal count → count ≤ 8192
  normal_fits e = body_fits context bytes e

  -- an overlay row has at most 2,048 bytes
  pub overlay_fits : record_at context bytes ≡ Is Overlay count → count ≤ 2048
  overlay_fits e = body_fits context bytes e

  -- with the table bytes of a record, the table has at most 65,536
  pub table_fits : record_at context bytes ≡ Is Table count → context.table + count ≤ 65536
  table_fits e =
      let fits = found_accepted context bytes e in
      let is : there bytes 3 && eqb (tag_of bytes) 3 ≡ true = rw (le-leb 3 (length bytes) (omega arith), eq-eqb (tag_of bytes) 3 (tag_is context bytes e)) in
      rw fits.length_is
      (ltb-false 65536 (context.table + length_of bytes)
      (not_both (there bytes 3 && eqb (tag_of bytes) 3) (ltb 65536 (context.table + length_of bytes)) (faults context bytes e).1 is))

  -- dots are at most 16,777,216
  pub dots_fit : {dots : ℕ} → record_at context bytes ≡ Is (Dots dots) count → dots ≤ 16777216
  dots_fit {dots} e =
      let fits = found_accepted context bytes e in
      let is = tag_is context bytes e in
      let record_is : Dots dots ≡ Dots (in_body bytes 0 4) = fits.record_is ∙ ap (λ (tag : ℕ). get_or (records_of bytes) tag End) is in
      let dots_is : dots ≡ in_body bytes 0 4 = cc in
      rw dots_is (dots_few bytes fits.whole fits.right is)
