-- Records that are taken, at their very limits: nothing else stands against them. Assumes nothing.
use Prim.Native.Nat.{ℕ, ◌+◌, ◌≤◌, ◌<◌}
use mathlib.Core.Path.{◌≡◌}
use mathlib.Core.Bool.{not, and-false}
use mathlib.Core.List.{List}
use native.Mathlib.Omega.{arith}
use borrow.Author.Tests.{le-ltb, le-leb, lt-leb}
use lib.ListN.{length, get_or}
use Rattle.session_records.specs.Tags.{allows}
use Rattle.session_records.specs.Parts.{there, length_of, in_body}
use Rattle.session_records.specs.Faults.{wrong, too_much, missing}
use Rattle.session_records.specs.RecordAt.{record_at}
use Rattle.session_records.specs.declared.record.Context.{Context}
use Rattle.session_records.specs.declared.record.RecordAt.TheVariants.{Is}
use Rattle.session_records.specs.declared.record.Record.TheVariants.{End, Write, Dots, Table, Normal, Overlay, Line}

module _ (context : Context) (bytes : List ℕ) (few : context.number < 1000000) where
  -- table bytes up to 65,536 in all, all of them there
  pub table_taken : get_or bytes 0 0 ≡ 3 → length_of bytes ≤ 65535 → 3 + length_of bytes ≤ length bytes → context.table + length_of bytes ≤ 65536
      → record_at context bytes ≡ Is Table (length_of bytes)
  unfolding record_at wrong too_much missing allows
  table_taken tag short whole fits =
      rw (
        tag,
        le-leb 1 (length bytes) (omega arith),
        le-leb 3 (length bytes) (omega arith),
        le-leb (3 + length_of bytes) (length bytes) whole,
        le-leb 0 (length_of bytes) (omega arith),
        le-leb (length_of bytes) 65535 short,
        le-ltb 65536 (context.table + length_of bytes) fits,
        lt-leb 1000000 context.number few,
        and-false (there bytes 7),
        and-false (not context.last),
      )

  -- 16,777,216 dots and fewer
  pub dots_taken : get_or bytes 0 0 ≡ 2 → length_of bytes ≡ 4 → 7 ≤ length bytes → in_body bytes 0 4 ≤ 16777216
      → record_at context bytes ≡ Is (Dots (in_body bytes 0 4)) 4
  unfolding record_at wrong too_much missing allows
  dots_taken tag long whole fits =
      rw (
        tag,
        long,
        le-leb 1 (length bytes) (omega arith),
        le-leb 3 (length bytes) (omega arith),
        le-leb 7 (length bytes) whole,
        le-ltb 16777216 (in_body bytes 0 4) fits,
        lt-leb 1000000 context.number few,
        and-false,
      )

  -- the end
  pub end_taken : get_or bytes 0 0 ≡ 0 → length_of bytes ≡ 0 → 3 ≤ length bytes → record_at context bytes ≡ Is End 0
  unfolding record_at wrong too_much missing allows
  end_taken tag long whole =
      rw (tag, long, le-leb 1 (length bytes) (omega arith), le-leb 3 (length bytes) whole, lt-leb 1000000 context.number few, and-false (there bytes 7), and-false (not context.last))

  -- a write of 8 bytes: address, then value
  pub write_taken : get_or bytes 0 0 ≡ 1 → length_of bytes ≡ 8 → 11 ≤ length bytes → record_at context bytes ≡ Is (Write (in_body bytes 0 4) (in_body bytes 4 4)) 8
  unfolding record_at wrong too_much missing allows
  write_taken tag long whole =
      rw (tag, long, le-leb 1 (length bytes) (omega arith), le-leb 3 (length bytes) (omega arith), le-leb 11 (length bytes) whole, lt-leb 1000000 context.number few, and-false (there bytes 7), and-false (not context.last))

  -- a normal row of up to 8,192 bytes
  pub normal_taken : get_or bytes 0 0 ≡ 4 → length_of bytes ≤ 8192 → 3 + length_of bytes ≤ length bytes → record_at context bytes ≡ Is Normal (length_of bytes)
  unfolding record_at wrong too_much missing allows
  normal_taken tag short whole =
      rw (tag, le-leb 1 (length bytes) (omega arith), le-leb 3 (length bytes) (omega arith), le-leb (3 + length_of bytes) (length bytes) whole, le-leb 0 (length_of bytes) (omega arith), le-leb (length_of bytes) 8192 short, lt-leb 1000000 context.number few, and-false (there bytes 7), and-false (not context.last))

  -- an overlay row of up to 2,048 bytes
  pub overlay_taken : get_or bytes 0 0 ≡ 5 → length_of bytes ≤ 2048 → 3 + length_of bytes ≤ length bytes → record_at context bytes ≡ Is Overlay (length_of bytes)
  unfolding record_at wrong too_much missing allows
  overlay_taken tag short whole =
      rw (tag, le-leb 1 (length bytes) (omega arith), le-leb 3 (length bytes) (omega arith), le-leb (3 + length_of bytes) (length bytes) whole, le-leb 0 (length_of bytes) (omega arith), le-leb (length_of bytes) 2048 short, lt-leb 1000000 context.number few, and-false (there bytes 7), and-false (not context.last))

  -- a line of 2 bytes
  pub line_taken : get_or bytes 0 0 ≡ 6 → length_of bytes ≡ 2 → 5 ≤ length bytes → record_at context bytes ≡ Is (Line (in_body bytes 0 2)) 2
  unfolding record_at wrong too_much missing allows
  line_taken tag long whole =
      rw (tag, long, le-leb 1 (length bytes) (omega arith), le-leb 3 (length bytes) (omega arith), le-leb 5 (length bytes) whole, lt-leb 1000000 context.number few, and-false (there bytes 7), and-false (not context.last))
