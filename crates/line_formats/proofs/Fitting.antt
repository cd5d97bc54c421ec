-- How much of a pixel a format uses follows from its bits: a half where they fit one, else the whole where they fit that. Assumes nothing.
use Prim.Native.Nat.{ℕ, ◌/◌, ◌≤◌, ◌<◌}
use mathlib.Core.Path.{◌≡◌, refl, sym}
use mathlib.Core.Bool.{cond}
use mathlib.Core.Logic.{◌⊎◌, inl, inr, ⊎_elim}
use borrow.Author.Tests.{le-leb, lt-leb, ne_eqb}
use lib.Dec.{leb}
use Rattle.line_formats.specs.Table.{format_row, widths_of, part_at}
use Rattle.line_formats.specs.declared.Format.{Format}
use Rattle.line_formats.specs.declared.Format.TheVariants.{Index8, Index12, Rgb332, Rgb444, Rgb555, Rgb888}
use Rattle.line_formats.specs.declared.Part.{Part}
use Rattle.line_formats.specs.declared.Part.TheVariants.{Half, Whole, Unlisted}

-- the part of a pixel that these bits fit
abbrev pub fitting : ℕ → ℕ → Part
fitting bits depth = cond (leb bits (depth / 2)) Half (cond (leb bits depth) Whole Unlisted)

-- a format's row lists at depth 16 and at depth 32 the part that its bits fit
row_fitting : (format : Format) → ((format_row format).at16 ≡ fitting (widths_of format).bits 16) × ((format_row format).at32 ≡ fitting (widths_of format).bits 32)
row_fitting Index8 = (refl, refl)
row_fitting Index12 = (refl, refl)
row_fitting Rgb332 = (refl, refl)
row_fitting Rgb444 = (refl, refl)
row_fitting Rgb555 = (refl, refl)
row_fitting Rgb888 = (refl, refl)

module _ (format : Format) (depth : ℕ) where
  -- at depth 16 and depth 32 a format uses the part that its bits fit
  pub part_fitting : (depth ≡ 16) ⊎ (depth ≡ 32) → part_at format depth ≡ fitting (widths_of format).bits depth
  unfolding part_at
  part_fitting depths = ⊎_elim (λ e. rw e (row_fitting format).0) (λ e. rw e (row_fitting format).1) depths

  module _ (depths : (depth ≡ 16) ⊎ (depth ≡ 32)) {bits : ℕ} (same : bits ≡ (widths_of format).bits) where
    -- bits that fit a half use a half
    pub part_half : bits ≤ depth / 2 → Half ≡ part_at format depth
    part_half h = sym (rw (part_fitting depths, ← same, le-leb bits (depth / 2) h))

    -- bits that fit the whole and no half use the whole
    pub part_whole : depth / 2 < bits → bits ≤ depth → Whole ≡ part_at format depth
    part_whole above h = sym (rw (part_fitting depths, ← same, lt-leb bits (depth / 2) above, le-leb bits depth h))

    -- bits that do not fit the whole are not listed
    pub part_unlisted : depth / 2 < bits → depth < bits → Unlisted ≡ part_at format depth
    part_unlisted above h = sym (rw (part_fitting depths, ← same, lt-leb bits (depth / 2) above, lt-leb bits depth h))

  -- at a depth other than 16 or 32 no format is listed
  pub part_no_depth : ((depth ≡ 16) ⊎ (depth ≡ 32) → ⊥) → Unlisted ≡ part_at format depth
  unfolding part_at
  part_no_depth other = sym (simp (ne_eqb depth 16 (λ e. other (inl e)), ne_eqb depth 32 (λ e. other (inr e))))
