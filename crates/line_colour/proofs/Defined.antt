-- What holds of every defined entry: its depth is listed, its sample starts at a half of the pixel and lies within it, and it shows no map entry past the last. Assumes nothing.
use Prim.Native.Nat.{ℕ, ◌+◌, ◌/◌, ◌≤◌, ◌<◌}
use mathlib.Core.Path.{◌≡◌, refl}
use mathlib.Core.Bool.{Bool, true, false, cond}
use mathlib.Core.Logic.{◌⊎◌, inl, inr, ⊎_elim}
use native.Mathlib.Omega.{arith}
use native.Mathlib.Nat.{mod-lt}
use borrow.Author.Tests.{leb-true}
use lib.Dec.{eqb, leb, lit<}
use Rattle.rules.proofs.Cases.{impossible}
use Rattle.words.specs.Field.{field}
use Rattle.line_formats.specs.Table.{widths_of, part_at, has_buffer, has_bank, value_of, entry_in_bank}
use Rattle.line_formats.specs.declared.Format.{Format}
use Rattle.line_formats.specs.declared.Format.TheVariants.{Index8, Index12, Rgb332, Rgb444, Rgb555, Rgb888}
use Rattle.line_formats.specs.declared.Part.TheVariants.{Half, Whole, Unlisted}
use Rattle.line_formats.proofs.Fitting.{part_fitting}
use Rattle.line_formats.proofs.FormatListed.{depths}
use Rattle.line_colour.specs.Entry.{low_of, decoded}
use Rattle.line_colour.specs.Shown.{shown_as, shown_of}
use Rattle.line_colour.specs.declared.entry.WindowEntry.{WindowEntry}
use Rattle.std.specs.Prelude.{Some}
use Rattle.line_colour.specs.declared.entry.Shown.TheVariants.{MapEntry}
use Rattle.line_colour.proofs.Decode.{defined_passed}

-- what a defined entry says fits its depth
pub record Says (depth : ℕ) (entry : WindowEntry) : Type 0 where
  pub at_depth : (depth ≡ 16) ⊎ (depth ≡ 32)
  pub low_lt : entry.low < 32
  pub low_is : (entry.low ≡ 0) ⊎ (entry.low ≡ depth / 2)
  pub within : entry.low + (widths_of entry.format).bits ≤ depth
  pub in_bank : has_bank entry.format entry.bank ≡ true

module _ (depth buffer : ℕ) where
  -- bit 0 or the bit at half the depth, by a test
  low_by : (test : Bool) → (cond test 0 (depth / 2) ≡ 0) ⊎ (cond test 0 (depth / 2) ≡ depth / 2)
  low_by true = inl refl
  low_by false = inr refl

  -- the lowest bit of a buffer is bit 0 or the bit at half the depth
  low_of_either : (low_of depth buffer ≡ 0) ⊎ (low_of depth buffer ≡ depth / 2)
  low_of_either = low_by (eqb buffer 0)

  -- neither is above half the depth
  low_le : low_of depth buffer ≤ depth / 2
  low_le = ⊎_elim (λ e. omega arith) (λ e. omega arith) low_of_either

  -- at depth 16 or 32 the lowest bit of a buffer is below 32
  low_lt_32 : (depth ≡ 16) ⊎ (depth ≡ 32) → low_of depth buffer < 32
  low_lt_32 at = ⊎_elim (λ e. omega (arith, low_le)) (λ e. omega (arith, low_le)) at

  -- the lowest bit of buffer 0 is bit 0
  low_of_0 : eqb buffer 0 ≡ true → low_of depth buffer ≡ 0
  low_of_0 e = rw e

  -- bits that fit a part of a pixel, from the lowest bit of a buffer that the part has, lie within the pixel
  within_by : (bits : ℕ) (half whole : Bool) → leb bits (depth / 2) ≡ half → leb bits depth ≡ whole
      → has_buffer (cond half Half (cond whole Whole Unlisted)) buffer ≡ true → low_of depth buffer + bits ≤ depth
  within_by bits true whole h w e = omega (arith, low_le, leb-true bits (depth / 2) h)
  within_by bits false true h w e = omega (arith, low_of_0 e, leb-true bits depth w)
  within_by bits false false h w e = impossible (cc)

  -- from the lowest bit of a buffer that a format has, its bits lie within the pixel
  lies_within : (format : Format) → (depth ≡ 16) ⊎ (depth ≡ 32) → has_buffer (part_at format depth) buffer ≡ true
      → low_of depth buffer + (widths_of format).bits ≤ depth
  lies_within format at e =
      let bits = (widths_of format).bits in
      within_by bits (leb bits (depth / 2)) (leb bits depth) refl refl (rw (part_fitting format depth at) at e)

-- what the decoder answers as a defined entry fits its depth
pub defined_says : (number depth : ℕ) {entry : WindowEntry} → decoded number depth ≡ Some entry → Says depth entry
defined_says number depth e =
    let passed = defined_passed number depth e in
    let format = passed.has.format in
    let at = depths format depth passed.has.at_depth in
    rw (← passed.is)
    (record {
      at_depth = at;
      low_lt = low_lt_32 depth (field number 0 0) at;
      low_is = low_of_either depth (field number 0 0);
      within = lies_within depth (field number 0 0) format at passed.has.in_buffer;
      in_bank = passed.has.in_bank;
    })

module _ (bank sample : ℕ) {shown : ℕ} where
  -- under a bank that the format has, a sample shows no map entry past 4,607
  entry_below : (format : Format) → has_bank format bank ≡ true → shown_as format bank sample ≡ MapEntry shown → shown < 4608
  entry_below Index8 b e =
      let same : entry_in_bank bank (value_of Index8 sample) ≡ shown = cc in
      omega (arith, leb-true bank 17 b, mod-lt (sample / 1) {m = 256} (lit< tt))
  entry_below Index12 b e = let same : value_of Index12 sample ≡ shown = cc in omega (arith, mod-lt (sample / 1) {m = 4096} (lit< tt))
  entry_below Rgb332 b e = impossible (cc)
  entry_below Rgb444 b e = impossible (cc)
  entry_below Rgb555 b e = impossible (cc)
  entry_below Rgb888 b e = impossible (cc)

-- a defined entry shows no map entry past 4,607
pub map_entry_below : (depth : ℕ) (entry : WindowEntry) (sample : ℕ) {shown : ℕ} → Says depth entry → shown_of entry sample ≡ MapEntry shown → shown < 4608
map_entry_below depth entry sample says e = entry_below entry.bank sample entry.format says.in_bank e
