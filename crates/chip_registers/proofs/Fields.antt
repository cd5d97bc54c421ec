-- The bits that registers keep, in the paper's own numbers: so many of each block, and the fields of each stored control word. Assumes nothing.
use Prim.Native.Nat.{ℕ, ◌+◌, ◌/◌, ◌%◌, ◌^◌, ◌<◌}
use mathlib.Core.Path.{◌≡◌}
use mathlib.Core.Bool.{true}
use native.Mathlib.Omega.{arith}
use borrow.Author.Tests.{eqb-true, eq-eqb, ne_eqb}
use Rattle.chip_registers.specs.Kept.{only, kept_of_control, kept_of, fits}
use Rattle.chip_registers.specs.declared.Block.TheVariants.{Control, WindowEntries, ColourMap, GammaMap, CursorGlyph, CursorColours}
use Rattle.chip_registers.proofs.Map.{register_in}

-- a window entry keeps 13 bits, a word of the glyph 32, and a word of the colour map, of the gamma map and a cursor colour 24
pub kept_widths : (word value : ℕ)
    → (kept_of (register_in WindowEntries word) value ≡ value % 2 ^ 13)
    × (kept_of (register_in ColourMap word) value ≡ value % 2 ^ 24)
    × (kept_of (register_in GammaMap word) value ≡ value % 2 ^ 24)
    × (kept_of (register_in CursorGlyph word) value ≡ value % 2 ^ 32)
    × (kept_of (register_in CursorColours word) value ≡ value % 2 ^ 24)
kept_widths word value = omega arith

-- a word of two fields, each below this size: one from bit 0 up, one from bit 16 up, and no bit besides
abbrev pub TwoFields : ℕ → ℕ → Type 0
TwoFields size value = (value % 65536 < size) × (value / 65536 < size)

module _ (value : ℕ) where
  -- what fits control word 0 has no bit above its five switches
  pub fits_switches : fits (register_in Control 0) value ≡ true → value < 32
  unfolding fits kept_of_control
  fits_switches fine = let whole : kept_of_control 0 value ≡ value = eqb-true _ _ fine in omega arith

  -- a value of those five bits fits control word 0
  pub switches_fit : value < 32 → fits (register_in Control 0) value ≡ true
  unfolding fits kept_of_control
  switches_fit small = eq-eqb (kept_of_control 0 value) value (omega arith)

  -- what fits control word 7, the active size, has no bits but 10..0 and 26..16
  pub fits_size : fits (register_in Control 7) value ≡ true → TwoFields 2048 value
  unfolding fits kept_of_control
  fits_size fine = let whole : kept_of_control 7 value ≡ value = eqb-true _ _ fine in omega arith

  -- a value of those bits fits control word 7
  pub size_fits : TwoFields 2048 value → fits (register_in Control 7) value ≡ true
  unfolding fits kept_of_control
  size_fits small = eq-eqb (kept_of_control 7 value) value (omega arith)

  module _ (word : ℕ) (not0 : word ≡ 0 → ⊥) (not7 : word ≡ 7 → ⊥) where
    -- what fits any other control word has no bits but 11..0 and 27..16
    pub fits_pair : fits (register_in Control word) value ≡ true → TwoFields 4096 value
    unfolding fits kept_of_control
    fits_pair fine =
        let whole : kept_of_control word value ≡ value = eqb-true _ _ fine in
        omega (arith, rw (ne_eqb word 0 not0, ne_eqb word 7 not7) at whole)

    -- a value of those bits fits any other control word
    pub pair_fits : TwoFields 4096 value → fits (register_in Control word) value ≡ true
    unfolding fits kept_of_control
    pair_fits small = rw (ne_eqb word 0 not0, ne_eqb word 7 not7) (eq-eqb (only value 27 16 + only value 11 0) value (omega arith))
