-- Which format, depth, buffer and bank the table lists, in plain numbers. Assumes nothing.
use Prim.Native.Nat.{ℕ, zero, suc, ◌≤◌}
use mathlib.Core.Path.{◌≡◌, refl, ap}
use mathlib.Core.Bool.{Bool, true, false, cond}
use mathlib.Core.Logic.{◌⊎◌, inl, inr}
use lib.Dec.{eqb}
use borrow.Author.Tests.{eqb-true, leb-true, eq-eqb, le-leb}
use Rattle.rules.proofs.Cases.{impossible}
use Rattle.line_formats.specs.Table.{format_of_number, format_row, part_at, has_depth, has_buffer, has_bank}
use Rattle.line_formats.specs.declared.Format.{Format}
use Rattle.line_formats.specs.declared.Format.TheVariants.{Index8, Index12, Rgb332, Rgb444, Rgb555, Rgb888}
use Rattle.std.specs.Prelude.{Some}
use Rattle.line_formats.specs.declared.Part.TheVariants.{Half, Whole, Unlisted}

-- the table lists this number of a format at this depth with this buffer and, for format 0, this bank
pub data FormatListed (number depth buffer bank : ℕ) : Type 0 where
  format_0 : number ≡ 0 → (depth ≡ 16) ⊎ (depth ≡ 32) → bank ≤ 17 → FormatListed number depth buffer bank
  format_1 : number ≡ 1 → ((depth ≡ 16) × (buffer ≡ 0)) ⊎ (depth ≡ 32) → FormatListed number depth buffer bank
  format_2 : number ≡ 2 → (depth ≡ 16) ⊎ (depth ≡ 32) → FormatListed number depth buffer bank
  format_3 : number ≡ 3 → ((depth ≡ 16) × (buffer ≡ 0)) ⊎ (depth ≡ 32) → FormatListed number depth buffer bank
  format_4 : number ≡ 4 → ((depth ≡ 16) × (buffer ≡ 0)) ⊎ (depth ≡ 32) → FormatListed number depth buffer bank
  format_5 : number ≡ 5 → depth ≡ 32 → buffer ≡ 0 → FormatListed number depth buffer bank

-- a number names a format, and the format has the depth, the buffer and the bank
pub record FormatHas (number depth buffer bank : ℕ) : Type 0 where
  pub format : Format
  pub named : format_of_number number ≡ Some format
  pub at_depth : has_depth (part_at format depth) ≡ true
  pub in_buffer : has_buffer (part_at format depth) buffer ≡ true
  pub in_bank : has_bank format bank ≡ true

-- the number of a format
abbrev pub number_of : Format → ℕ
number_of Index8 = 0
number_of Index12 = 1
number_of Rgb332 = 2
number_of Rgb444 = 3
number_of Rgb555 = 4
number_of Rgb888 = 5

-- a number that names a format is the format's
pub named_number : (number : ℕ) {format : Format} → format_of_number number ≡ Some format → number ≡ number_of format
named_number zero {format} e = let same : Index8 ≡ format = cc in ap number_of same
named_number (suc zero) {format} e = let same : Index12 ≡ format = cc in ap number_of same
named_number (suc (suc zero)) {format} e = let same : Rgb332 ≡ format = cc in ap number_of same
named_number (suc (suc (suc zero))) {format} e = let same : Rgb444 ≡ format = cc in ap number_of same
named_number (suc (suc (suc (suc zero)))) {format} e = let same : Rgb555 ≡ format = cc in ap number_of same
named_number (suc (suc (suc (suc (suc zero))))) {format} e = let same : Rgb888 ≡ format = cc in ap number_of same
named_number (suc (suc (suc (suc (suc (suc number)))))) {format} e = impossible (cc)

module _ (format : Format) (depth : ℕ) where
  -- the part at depth 16 is the row's
  part_at_16 : depth ≡ 16 → part_at format depth ≡ (format_row format).at16
  unfolding part_at
  part_at_16 is = rw is

  -- the part at depth 32 is the row's
  part_at_32 : depth ≡ 32 → part_at format depth ≡ (format_row format).at32
  unfolding part_at
  part_at_32 is = rw is

  -- a depth that a format has is 16 or 32
  pub depths : has_depth (part_at format depth) ≡ true → (depth ≡ 16) ⊎ (depth ≡ 32)
  unfolding part_at
  depths e = by (eqb depth 16) (eqb depth 32) refl refl e
    where
      -- one of the two tests passes
      by : (is16 is32 : Bool) → eqb depth 16 ≡ is16 → eqb depth 32 ≡ is32
          → has_depth (cond is16 (format_row format).at16 (cond is32 (format_row format).at32 Unlisted)) ≡ true → (depth ≡ 16) ⊎ (depth ≡ 32)
      by true is32 h w e = inl (eqb-true depth 16 h)
      by false true h w e = inr (eqb-true depth 32 w)
      by false false h w e = impossible (cc)

module _ (format : Format) (depth buffer : ℕ) where
  -- the format has the depth and the buffer
  abbrev HasBoth : Type 0
  HasBoth = (has_depth (part_at format depth) ≡ true) × (has_buffer (part_at format depth) buffer ≡ true)

  -- a half at both depths has both buffers
  halves_have : (format_row format).at16 ≡ Half → (format_row format).at32 ≡ Half → (depth ≡ 16) ⊎ (depth ≡ 32) → HasBoth
  halves_have at16 at32 (inl is) = rw (part_at_16 format depth is, at16) (refl, refl)
  halves_have at16 at32 (inr is) = rw (part_at_32 format depth is, at32) (refl, refl)

  -- the whole at depth 16 has buffer 0, a half at depth 32 both
  whole_has : (format_row format).at16 ≡ Whole → (format_row format).at32 ≡ Half → ((depth ≡ 16) × (buffer ≡ 0)) ⊎ (depth ≡ 32) → HasBoth
  whole_has at16 at32 (inl is) = rw (part_at_16 format depth is.0, at16) (refl, eq-eqb buffer 0 is.1)
  whole_has at16 at32 (inr is) = rw (part_at_32 format depth is, at32) (refl, refl)

  -- the whole at depth 16 has buffer 0 alone
  has_whole : (format_row format).at16 ≡ Whole → (depth ≡ 16) ⊎ (depth ≡ 32) → has_buffer (part_at format depth) buffer ≡ true → ((depth ≡ 16) × (buffer ≡ 0)) ⊎ (depth ≡ 32)
  has_whole at16 (inl is) e = inl (is, eqb-true buffer 0 (rw (part_at_16 format depth is, at16) at e))
  has_whole at16 (inr is) e = inr is

module _ {number depth buffer bank : ℕ} where
  -- what the table lists a format has
  pub listed_has : FormatListed number depth buffer bank → FormatHas number depth buffer bank
  listed_has (format_0 is at in_bank) =
      let both = halves_have Index8 depth buffer refl refl at in
      record { format = Index8; named = ap format_of_number is; at_depth = both.0; in_buffer = both.1; in_bank = le-leb bank 17 in_bank }
  listed_has (format_1 is at) =
      let both = whole_has Index12 depth buffer refl refl at in
      record { format = Index12; named = ap format_of_number is; at_depth = both.0; in_buffer = both.1; in_bank = refl }
  listed_has (format_2 is at) =
      let both = halves_have Rgb332 depth buffer refl refl at in
      record { format = Rgb332; named = ap format_of_number is; at_depth = both.0; in_buffer = both.1; in_bank = refl }
  listed_has (format_3 is at) =
      let both = whole_has Rgb444 depth buffer refl refl at in
      record { format = Rgb444; named = ap format_of_number is; at_depth = both.0; in_buffer = both.1; in_bank = refl }
  listed_has (format_4 is at) =
      let both = whole_has Rgb555 depth buffer refl refl at in
      record { format = Rgb555; named = ap format_of_number is; at_depth = both.0; in_buffer = both.1; in_bank = refl }
  listed_has (format_5 is at whole) =
      let part : part_at Rgb888 depth ≡ Whole = part_at_32 Rgb888 depth at in
      record { format = Rgb888; named = ap format_of_number is; at_depth = rw part; in_buffer = rw part (eq-eqb buffer 0 whole); in_bank = refl }

  -- what a format has the table lists
  pub has_listed : FormatHas number depth buffer bank → FormatListed number depth buffer bank
  has_listed has = by has.format (named_number number has.named) (depths has.format depth has.at_depth) has.in_buffer has.in_bank
    where
      -- row by row
      by : (format : Format) → number ≡ number_of format → (depth ≡ 16) ⊎ (depth ≡ 32) → has_buffer (part_at format depth) buffer ≡ true → has_bank format bank ≡ true
          → FormatListed number depth buffer bank
      by Index8 is at b k = format_0 is at (leb-true bank 17 k)
      by Index12 is at b k = format_1 is (has_whole Index12 depth buffer refl at b)
      by Rgb332 is at b k = format_2 is at
      by Rgb444 is at b k = format_3 is (has_whole Rgb444 depth buffer refl at b)
      by Rgb555 is at b k = format_4 is (has_whole Rgb555 depth buffer refl at b)
      by Rgb888 is (inl at) b k = let none : ◌≡◌ {A = Bool} false true = rw (part_at_16 Rgb888 depth at) at b in impossible (cc)
      by Rgb888 is (inr at) b k = format_5 is at (eqb-true buffer 0 (rw (part_at_32 Rgb888 depth at) at b))
