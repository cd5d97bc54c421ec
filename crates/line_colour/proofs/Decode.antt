-- The tests of the decoder, one after another: what each says of what an entry is, and that a defined entry passes all. Assumes nothing.
use Prim.Native.Nat.{ℕ}
use mathlib.Core.Path.{◌≡◌, refl, sym, ap, ◌∙◌}
use mathlib.Core.Bool.{Bool, true, false, cond, not}
use borrow.Author.Tests.{eqb-true, eq-eqb, ne_eqb}
use lib.Dec.{eqb}
use Rattle.rules.proofs.Cases.{impossible}
use Rattle.words.specs.Field.{field}
use Rattle.line_formats.specs.Table.{format_of_number, part_at, has_depth, has_buffer, has_bank}
use Rattle.line_formats.specs.declared.Format.{Format}
use Rattle.std.specs.Prelude.{Option, Some, None}
use Rattle.line_formats.proofs.FormatListed.{FormatHas}
use Rattle.line_colour.specs.Entry.{defined_as, with_format, decoded}
use Rattle.line_colour.specs.declared.entry.WindowEntry.{WindowEntry}

module _ (entry depth : ℕ) where
  -- an entry with a spare bit set is undefined
  pub spare_bits : (field entry 12 11 ≡ 0 → ⊥) → None ≡ decoded entry depth
  unfolding decoded
  spare_bits set = sym (rw (ne_eqb (field entry 12 11) 0 set))

  module _ (clear : field entry 12 11 ≡ 0) where
    -- an entry whose number names no format is undefined
    pub no_format : format_of_number (field entry 3 1) ≡ None → None ≡ decoded entry depth
    unfolding decoded
    no_format none = sym (rw (eq-eqb (field entry 12 11) 0 clear, none))

    module _ {format : Format} (named : format_of_number (field entry 3 1) ≡ Some format) where
      -- an entry whose format is not listed at the depth is undefined
      pub no_depth : false ≡ has_depth (part_at format depth) → None ≡ decoded entry depth
      unfolding decoded
      no_depth none = sym (rw (eq-eqb (field entry 12 11) 0 clear, named, ← none))

      module _ (at_depth : true ≡ has_depth (part_at format depth)) where
        -- an entry whose format has the depth and not the buffer is undefined
        pub no_buffer : false ≡ has_buffer (part_at format depth) (field entry 0 0) → None ≡ decoded entry depth
        unfolding decoded
        no_buffer none = sym (rw (eq-eqb (field entry 12 11) 0 clear, named, ← at_depth, ← none))

        -- an entry whose format has the depth and the buffer and not the bank is undefined
        pub no_bank : true ≡ has_buffer (part_at format depth) (field entry 0 0) → false ≡ has_bank format (field entry 8 4) → None ≡ decoded entry depth
        unfolding decoded
        no_bank in_buffer none = sym (rw (eq-eqb (field entry 12 11) 0 clear, named, ← at_depth, ← in_buffer, ← none))

-- an entry that passes every test is defined
pub decoded_defined : (entry depth : ℕ) {format : Format} → field entry 12 11 ≡ 0 → format_of_number (field entry 3 1) ≡ Some format
    → true ≡ has_depth (part_at format depth) → true ≡ has_buffer (part_at format depth) (field entry 0 0) → true ≡ has_bank format (field entry 8 4)
    → Some (defined_as entry depth format) ≡ decoded entry depth
unfolding decoded
decoded_defined entry depth clear named at_depth in_buffer in_bank =
    sym (rw (eq-eqb (field entry 12 11) 0 clear, named, ← at_depth, ← in_buffer, ← in_bank))

-- an entry passes every test, and this is what it says
pub record Passed (number depth : ℕ) (entry : WindowEntry) : Type 0 where
  pub clear : field number 12 11 ≡ 0
  pub has : FormatHas (field number 3 1) depth (field number 0 0) (field number 8 4)
  pub is : defined_as number depth has.format ≡ entry

-- the tests that follow the format
abbrev tested : ℕ → ℕ → Format → Option WindowEntry
tested number depth format =
    cond (not (has_depth (part_at format depth))) None
    (cond (not (has_buffer (part_at format depth) (field number 0 0))) None
    (cond (not (has_bank format (field number 8 4))) None (Some (defined_as number depth format))))

module _ (number depth : ℕ) {entry : WindowEntry} where
  module _ (clear : field number 12 11 ≡ 0) where
    -- where an entry is defined by the tests of depth, buffer and bank, all three pass
    passed_by : (format : Format) → format_of_number (field number 3 1) ≡ Some format → (a b c : Bool)
        → has_depth (part_at format depth) ≡ a → has_buffer (part_at format depth) (field number 0 0) ≡ b → has_bank format (field number 8 4) ≡ c
        → cond (not a) None (cond (not b) None (cond (not c) None (Some (defined_as number depth format)))) ≡ Some entry → Passed number depth entry
    passed_by format named true true true a b c e =
        record { clear = clear; has = record { format = format; named = named; at_depth = a; in_buffer = b; in_bank = c }; is = cc }
    passed_by format named true true false a b c e = impossible (cc)
    passed_by format named true false c a b h e = impossible (cc)
    passed_by format named false b c a h g e = impossible (cc)

    -- where an entry is defined, its number names a format
    passed_as : (name : Option Format) → format_of_number (field number 3 1) ≡ name → with_format name (tested number depth) ≡ Some entry → Passed number depth entry
    passed_as None named e = impossible (cc)
    passed_as (Some format) named e =
        passed_by format named (has_depth (part_at format depth)) (has_buffer (part_at format depth) (field number 0 0)) (has_bank format (field number 8 4)) refl refl refl e

  -- a defined entry passes every test
  pub defined_passed : decoded number depth ≡ Some entry → Passed number depth entry
  unfolding decoded
  defined_passed e = by (eqb (field number 12 11) 0) refl e
    where
      -- its spare bits are clear
      by : (clear : Bool) → eqb (field number 12 11) 0 ≡ clear → cond (not clear) None (with_format (format_of_number (field number 3 1)) (tested number depth)) ≡ Some entry
          → Passed number depth entry
      by true clear e = passed_as (eqb-true (field number 12 11) 0 clear) (format_of_number (field number 3 1)) refl e
      by false clear e = impossible (cc)

module _ (number depth : ℕ) (defined : decoded number depth ≡ None → ⊥) where
  -- an entry that is not undefined passes every test, and says something
  some_entry : (entry : WindowEntry) × (decoded number depth ≡ Some entry)
  some_entry = by (decoded number depth) refl
    where
      -- by what the decoder answers
      by : (answer : Option WindowEntry) → decoded number depth ≡ answer → (entry : WindowEntry) × (decoded number depth ≡ Some entry)
      by (Some entry) is = (entry, is)
      by None is = absurd (defined is)

  -- it names a format
  pub names_format : format_of_number (field number 3 1) ≡ None → ⊥
  names_format none =
      let names = (defined_passed number depth some_entry.1).has.named in
      impossible (cc)

  -- it says what the format that it names says
  pub says_by_format : {format : Format} → format_of_number (field number 3 1) ≡ Some format → decoded number depth ≡ Some (defined_as number depth format)
  says_by_format {format} names =
      let passed = defined_passed number depth some_entry.1 in
      let both : Some format ≡ Some passed.has.format = sym names ∙ passed.has.named in
      let same : format ≡ passed.has.format = cc in
      some_entry.1 ∙ ap Some (sym passed.is ∙ ap (defined_as number depth) (sym same))
