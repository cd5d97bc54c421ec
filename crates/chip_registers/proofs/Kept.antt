-- The bits that a register keeps: kept bits fit, and what fits is kept whole. Assumes nothing.
use Prim.Native.Nat.{ℕ, ◌+◌, ◌^◌, ◌≤◌}
use mathlib.Core.Path.{◌≡◌, sym, ◌∙◌}
use mathlib.Core.Bool.{Bool, true, false, cond}
use mathlib.Core.Logic.{⊎_elim}
use native.Mathlib.Omega.{arith}
use borrow.Author.Tests.{eqb-true, lt-ltb, le-ltb, eq-eqb, ne_eqb}
use lib.Dec.{ltb, eqb}
use Rattle.rules.proofs.Cases.{impossible, le_or_lt}
use Rattle.chip_registers.specs.Kept.{only, kept_of_control, kept_by, kept_of, fits}
use Rattle.words.specs.Field.{bits}
use Rattle.chip_registers.specs.Blocks.{row_of}
use Rattle.chip_registers.specs.declared.Block.{Block}
use Rattle.chip_registers.specs.declared.Block.TheVariants.{Control, WindowEntries, ColourMap, GammaMap, CursorGlyph, CursorColours}
use Rattle.chip_registers.specs.declared.KeptBits.TheVariants.{Lowest}
use Rattle.chip_registers.specs.declared.Register.{Register}

module _ (word value : ℕ) where
  -- word 0 keeps its switches
  pub kept_switches : word ≡ 0 → kept_of_control word value ≡ only value 4 0
  unfolding kept_of_control
  kept_switches is = rw (eq-eqb word 0 is)

  module _ (not0 : word ≡ 0 → ⊥) where
    -- word 7 keeps two fields of 11 bits
    pub kept_size : word ≡ 7 → kept_of_control word value ≡ only value 26 16 + only value 10 0
    unfolding kept_of_control
    kept_size is = rw (ne_eqb word 0 not0, eq-eqb word 7 is)

    -- the other words keep two fields of 12 bits
    pub kept_pair : (word ≡ 7 → ⊥) → kept_of_control word value ≡ only value 27 16 + only value 11 0
    unfolding kept_of_control
    kept_pair not7 = rw (ne_eqb word 0 not0, ne_eqb word 7 not7)

-- the fields of a control word by the two tests of its number
abbrev fields_of : Bool → Bool → ℕ → ℕ
fields_of is0 is7 value = cond is0 (only value 4 0) (cond is7 (only value 26 16 + only value 10 0) (only value 27 16 + only value 11 0))

-- fields of fields are those fields
fields_again : (is0 is7 : Bool) (value : ℕ) → fields_of is0 is7 (fields_of is0 is7 value) ≡ fields_of is0 is7 value
fields_again true is7 value = omega arith
fields_again false true value = omega arith
fields_again false false value = omega arith

-- no word keeps more than 32 bits
pub kept_width : (block : Block) (width : ℕ) → (row_of block).kept ≡ Lowest width → width ≤ 32
kept_width Control width is = impossible (cc)
kept_width WindowEntries width is = let same : 13 ≡ width = cc in omega arith
kept_width ColourMap width is = let same : 24 ≡ width = cc in omega arith
kept_width GammaMap width is = let same : 24 ≡ width = cc in omega arith
kept_width CursorGlyph width is = let same : 32 ≡ width = cc in omega arith
kept_width CursorColours width is = let same : 24 ≡ width = cc in omega arith

-- block by block, what is kept is kept again
kept_in_again : (block : Block) (word value : ℕ) → let kept = (row_of block).kept in kept_by kept word (kept_by kept word value) ≡ kept_by kept word value
unfolding kept_of_control
kept_in_again Control word value = fields_again (eqb word 0) (eqb word 7) value
kept_in_again WindowEntries word value = omega arith
kept_in_again ColourMap word value = omega arith
kept_in_again GammaMap word value = omega arith
kept_in_again CursorGlyph word value = omega arith
kept_in_again CursorColours word value = omega arith

module _ (register : Register) (value : ℕ) where
  -- to keep twice is to keep once
  pub kept_fits : fits register (kept_of register value) ≡ true
  unfolding fits
  kept_fits = eq-eqb (kept_of register (kept_of register value)) (kept_of register value) (kept_in_again register.block register.word value)

  -- a value that fits is kept whole
  pub fits_kept : fits register value ≡ true → kept_of register value ≡ value
  unfolding fits
  fits_kept whole = eqb-true (kept_of register value) value whole

-- a value is its 24 low bits where it is below 2 ^ 24: of a colour, a gamma word and a cursor colour
pub fits_24 : (value : ℕ) → eqb (bits value 0 24) value ≡ ltb value (2 ^ 24)
fits_24 value =
    ⊎_elim
    (λ above. ne_eqb (bits value 0 24) value (omega arith) ∙ sym (le-ltb value (2 ^ 24) above))
    (λ below. eq-eqb (bits value 0 24) value (omega arith) ∙ sym (lt-ltb value (2 ^ 24) below))
    (le_or_lt (2 ^ 24) value)

module _ (word value : ℕ) where
  -- a colour is a value of 24 bits
  pub colour_fits : fits (record { block = ColourMap; word = word }) value ≡ ltb value (2 ^ 24)
  unfolding fits
  colour_fits = fits_24 value
