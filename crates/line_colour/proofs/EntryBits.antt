-- Window entries in plain numbers: which are defined at a depth, what a defined one says, and what a sample shows under it. Assumes nothing.
use Prim.Native.Nat.{ℕ, ◌+◌, ◌*◌, ◌/◌, ◌%◌}
use mathlib.Core.Path.{◌≡◌, refl, sym, ap, subst, ◌∙◌}
use mathlib.Core.Bool.{true, false}
use native.Mathlib.Omega.{arith}
use borrow.Author.Tests.{eq-eqb, ne_eqb}
use Rattle.rules.proofs.Cases.{impossible}
use Rattle.words.specs.Field.{field}
use Rattle.line_formats.specs.declared.Format.TheVariants.{Index8, Index12, Rgb332, Rgb444, Rgb555, Rgb888}
use Rattle.line_formats.proofs.FormatListed.{FormatListed, number_of, named_number, listed_has, has_listed}
use Rattle.line_formats.proofs.Samples.{index_8_in_numbers, index_12_in_numbers, rgb_332_in_numbers, rgb_444_in_numbers, rgb_555_in_numbers, rgb_888_in_numbers}
use Rattle.line_colour.specs.Entry.{decoded, is_defined}
use Rattle.line_colour.specs.Shown.{shown_of}
use Rattle.line_colour.specs.declared.entry.WindowEntry.{WindowEntry}
use Rattle.std.specs.Prelude.{Option, Some, None}
use Rattle.line_colour.specs.declared.entry.Shown.TheVariants.{MapEntry, Colour}
use Rattle.line_colour.proofs.Decode.{decoded_defined, defined_passed}

-- the bits of an entry that is defined at a depth: 12 and 11 are clear, and the table lists format 3..1 with buffer 0 and bank 8..4
pub record DefinedBits (word depth : ℕ) : Type 0 where
  pub spare : word / 2048 % 4 ≡ 0
  pub listed : FormatListed (word / 2 % 8) depth (word % 2) (word / 16 % 32)

-- what an entry that is defined at a depth says: its format and bank, bypass by bit 9, overlay by bit 10, and where its samples start: at bit 0 where bit 0 is clear, else at half the depth
pub record SaysBits (word depth : ℕ) (entry : WindowEntry) : Type 0 where
  pub format : number_of entry.format ≡ word / 2 % 8
  pub bank : entry.bank ≡ word / 16 % 32
  pub bypass_set : word / 512 % 2 ≡ 1 → entry.bypass ≡ true
  pub bypass_clear : word / 512 % 2 ≡ 0 → entry.bypass ≡ false
  pub overlay_set : word / 1024 % 2 ≡ 1 → entry.overlay ≡ true
  pub overlay_clear : word / 1024 % 2 ≡ 0 → entry.overlay ≡ false
  pub low_half : word % 2 ≡ 0 → entry.low ≡ 0
  pub high_half : word % 2 ≡ 1 → entry.low ≡ depth / 2

module _ (word depth : ℕ) where
  -- the lowest bit of a word
  bit_0 : field word 0 0 ≡ word % 2
  bit_0 = omega arith

  -- an entry with these bits is defined
  pub bits_defined : DefinedBits word depth → is_defined (decoded word depth) ≡ true
  unfolding is_defined
  bits_defined bits =
      let has = listed_has (subst (λ (buffer : ℕ). FormatListed (word / 2 % 8) depth buffer (word / 16 % 32)) (sym bit_0) bits.listed) in
      ap is_defined (sym (decoded_defined word depth bits.spare has.named (sym has.at_depth) (sym has.in_buffer) (sym has.in_bank)))

  module _ {entry : WindowEntry} (defined : decoded word depth ≡ Some entry) where
    -- what the decoder answers as defined has these bits
    pub entry_bits : DefinedBits word depth
    entry_bits =
        let passed = defined_passed word depth defined in
        record {
          spare = passed.clear;
          listed = subst (λ (buffer : ℕ). FormatListed (word / 2 % 8) depth buffer (word / 16 % 32)) bit_0 (has_listed passed.has);
        }

    -- what the decoder answers says what the bits say
    pub entry_says_bits : SaysBits word depth entry
    entry_says_bits =
        let passed = defined_passed word depth defined in
        rw (← passed.is)
        (record {
          format = sym (named_number (word / 2 % 8) passed.has.named);
          bank = refl;
          bypass_set = λ set. eq-eqb (field word 9 9) 1 set;
          bypass_clear = λ clear. ne_eqb (field word 9 9) 1 (λ set. omega arith);
          overlay_set = λ set. eq-eqb (field word 10 10) 1 set;
          overlay_clear = λ clear. ne_eqb (field word 10 10) 1 (λ set. omega arith);
          low_half = λ clear. rw (eq-eqb (field word 0 0) 0 (bit_0 ∙ clear));
          high_half = λ set. rw (ne_eqb (field word 0 0) 0 (λ clear. omega (arith, bit_0)));
        })

  -- a defined entry has these bits
  pub defined_bits : is_defined (decoded word depth) ≡ true → DefinedBits word depth
  unfolding is_defined
  defined_bits is = by (decoded word depth) refl is
    where
      -- an undefined entry is not defined
      by : (answer : Option WindowEntry) → decoded word depth ≡ answer → is_defined answer ≡ true → DefinedBits word depth
      by (Some entry) e is = entry_bits e
      by None e is = impossible (cc)

-- ---- what a sample shows

module _ (entry : WindowEntry) (sample : ℕ) where
  -- format 0 shows map entry 256·bank + value
  pub shows_index_8 : entry.format ≡ Index8 → shown_of entry sample ≡ MapEntry (256 * entry.bank + sample % 256)
  shows_index_8 is = rw is (ap MapEntry (index_8_in_numbers entry.bank sample))

  -- format 1 shows the map entry of the value, whatever the bank
  pub shows_index_12 : entry.format ≡ Index12 → shown_of entry sample ≡ MapEntry (sample % 4096)
  shows_index_12 is = rw is (ap MapEntry (index_12_in_numbers sample))

  -- RGB 3-3-2 shows its own colour
  pub shows_332 : entry.format ≡ Rgb332 → let r = sample % 8 in
      let g = sample / 8 % 8 in
      shown_of entry sample ≡ Colour (record { red = 32 * r + 4 * r + r / 2; green = 32 * g + 4 * g + g / 2; blue = sample / 64 % 4 * 85 })
  shows_332 is = rw is (ap Colour (rgb_332_in_numbers sample))

  -- RGB 4-4-4 shows its own colour
  pub shows_444 : entry.format ≡ Rgb444
      → shown_of entry sample ≡ Colour (record { red = 17 * (sample % 16); green = 17 * (sample / 16 % 16); blue = 17 * (sample / 256 % 16) })
  shows_444 is = rw is (ap Colour (rgb_444_in_numbers sample))

  -- RGB 5-5-5 shows its own colour
  pub shows_555 : entry.format ≡ Rgb555 → let r = sample % 32 in
      let g = sample / 32 % 32 in
      let b = sample / 1024 % 32 in
      shown_of entry sample ≡ Colour (record { red = 8 * r + r / 4; green = 8 * g + g / 4; blue = 8 * b + b / 4 })
  shows_555 is = rw is (ap Colour (rgb_555_in_numbers sample))

  -- RGB 8-8-8 shows its own colour
  pub shows_888 : entry.format ≡ Rgb888
      → shown_of entry sample ≡ Colour (record { red = sample % 256; green = sample / 256 % 256; blue = sample / 65536 % 256 })
  shows_888 is = rw is (ap Colour (rgb_888_in_numbers sample))
