-- What stands behind the end record counts for nothing. Assumes nothing.
use Prim.Native.Nat.{ℕ, zero, suc, ◌+◌, ◌≤◌}
use mathlib.Core.Path.{◌≡◌, refl, ap, sym, ◌∙◌}
use mathlib.Core.Bool.{true}
use mathlib.Core.List.{List, ◌++◌, append_assoc}
use native.Mathlib.Omega.{arith}
use lib.ListN.{length, take, drop, length-append, take-append-drop}
use lib.Seq.{drop-append-le, length-take-le, take-add, drop_at}
use Rattle.rules.proofs.Cases.{impossible}
use Rattle.session_records.specs.Parts.{length_of}
use Rattle.session_records.specs.RecordAt.{record_at}
use Rattle.session_records.specs.declared.record.Record.{Record}
use Rattle.session_records.specs.declared.record.RecordAt.TheVariants.{Is}
use Rattle.session_records.proofs.Accepted.{found_accepted}
use Rattle.session.specs.Held.{Held, nothing_held}
use Rattle.session.specs.Record.{context_of, stepped}
use Rattle.session.specs.Listing.{listing_from, listing}
use Rattle.session_files.specs.Ends.{ends_from, taken_from, reaches_end, to_end}
use Rattle.session_files.proofs.Step.{Stepped, lists, ends, lacks, stops, step}
use Rattle.session_files.proofs.Behind.{record_behind}
use Rattle.session_files.proofs.Alone.{record_alone}

-- where a run of so many records reaches its end record, what follows lists nothing
abbrev NothingBehind : List ℕ → ℕ → Type 0
NothingBehind rest count = (held : Held) (bytes : List ℕ) → ends_from count held bytes ≡ true → listing_from count held (bytes ++ rest) ≡ listing_from count held bytes

module _ (rest : List ℕ) where
  -- by what the first step came to
  behind_by : (count : ℕ) → NothingBehind rest count → (held : Held) (bytes : List ℕ) → Stepped true held bytes → ends_from (suc count) held bytes ≡ true
      → listing_from (suc count) held (bytes ++ rest) ≡ listing_from (suc count) held bytes
  behind_by count next held bytes (lists {after = after} is counts s) e =
      rw (
        record_behind held bytes rest true true is,
        s,
        drop-append-le (3 + length_of bytes) bytes rest (found_accepted (context_of held true) bytes is).there,
        next after (drop (3 + length_of bytes) bytes) (rw s at e),
      )
  behind_by count next held bytes (ends is s) e = rw (record_behind held bytes rest true true is, s)
  behind_by count next held bytes (lacks is s) e = impossible (cc (rw s at e))
  behind_by count next held bytes (stops is s) e = impossible (cc (rw s at e))

  -- what follows lists nothing, however many records the run has
  nothing_behind : (count : ℕ) → NothingBehind rest count
  nothing_behind zero held bytes e = impossible cc
  nothing_behind (suc count) held bytes e = behind_by count (nothing_behind count) held bytes (step true held bytes) e

-- where the run over a file reaches its end record, bytes behind the file change nothing
pub after_end : (file after : List ℕ) → reaches_end file ≡ true → listing (file ++ after) ≡ listing file
unfolding listing reaches_end
after_end file after e = nothing_behind after 1000001 nothing_held file e

-- ---- the bytes up to the end record

-- a run of so many records that reaches its end record reaches it within the bytes that it takes
abbrev EndsWithin : ℕ → Type 0
EndsWithin count = (held : Held) (bytes : List ℕ) → ends_from count held bytes ≡ true → ends_from count held (take (taken_from count held bytes) bytes) ≡ true

module _ (held : Held) (bytes : List ℕ) {which : Record} (is : record_at (context_of held true) bytes ≡ Is which (length_of bytes)) (more : ℕ) where
  -- the bytes of a record
  abbrev size : ℕ
  size = 3 + length_of bytes

  -- a record's bytes, and some of those behind it
  abbrev front : List ℕ
  front = take size bytes ++ take more (drop size bytes)

  -- a record's bytes are there
  record_long : length (take size bytes) ≡ size
  record_long = length-take-le (3 + length_of bytes) bytes (found_accepted (context_of held true) bytes is).there

  -- the front holds the record
  front_long : size ≤ length front
  front_long = rw (length-append, record_long) (omega arith)

  -- the rest stands behind the front
  front_rest : front ++ drop more (drop size bytes) ≡ bytes
  front_rest =
      append_assoc (take size bytes) (take more (drop size bytes)) (drop more (drop size bytes))
      ∙ ap (λ (rest : List ℕ). take size bytes ++ rest) (take-append-drop more (drop size bytes))
      ∙ take-append-drop size bytes

  -- the step over the front is the same
  front_step : stepped true held (take (3 + length_of bytes + more) bytes) ≡ stepped true held bytes
  front_step =
      ap (stepped true held) (take-add size more bytes)
      ∙ record_alone held front (drop more (drop size bytes)) true (ap (record_at (context_of held true)) front_rest ∙ is) front_long true
      ∙ ap (stepped true held) front_rest

  -- behind its record the same bytes are left
  front_drop : drop (3 + length_of bytes) (take (3 + length_of bytes + more) bytes) ≡ take more (drop (3 + length_of bytes) bytes)
  front_drop = ap (drop size) (take-add size more bytes) ∙ drop_at (take size bytes) (take more (drop size bytes)) size record_long

-- by what the first step came to
within_by : (count : ℕ) → EndsWithin count → (held : Held) (bytes : List ℕ) → Stepped true held bytes → ends_from (suc count) held bytes ≡ true
    → ends_from (suc count) held (take (taken_from (suc count) held bytes) bytes) ≡ true
within_by count next held bytes (lists {after = after} is counts s) e =
    rw (s, front_step held bytes is (taken_from count after (drop (3 + length_of bytes) bytes)), s, front_drop held bytes is (taken_from count after (drop (3 + length_of bytes) bytes)))
    (next after (drop (3 + length_of bytes) bytes) (rw s at e))
within_by count next held bytes (ends is s) e = rw (s, front_step held bytes is 0, s)
within_by count next held bytes (lacks is s) e = impossible (cc (rw s at e))
within_by count next held bytes (stops is s) e = impossible (cc (rw s at e))

-- a run of any number of records ends within the bytes that it takes
ends_within : (count : ℕ) → EndsWithin count
ends_within zero held bytes e = impossible cc
ends_within (suc count) held bytes e = within_by count (ends_within count) held bytes (step true held bytes) e

module _ (file : List ℕ) (e : reaches_end file ≡ true) where
  -- the run over the bytes of a file up to its end record, with it, reaches it
  pub end_within : reaches_end (take (to_end file) file) ≡ true
  unfolding reaches_end to_end
  end_within = ends_within 1000001 nothing_held file e

  -- files that have the same bytes up to the end record have the same listing
  pub same_to_end : (other : List ℕ) → take (to_end file) other ≡ take (to_end file) file → listing other ≡ listing file
  same_to_end other same =
      let front = take (to_end file) file in
      let whole : (bytes : List ℕ) → take (to_end file) bytes ≡ front → listing bytes ≡ listing front =
      λ bytes is. ap listing (sym (take-append-drop (to_end file) bytes) ∙ ap (λ (begun : List ℕ). begun ++ drop (to_end file) bytes) is) ∙ after_end front (drop (to_end file) bytes) end_within in
      whole other same ∙ sym (whole file refl)
