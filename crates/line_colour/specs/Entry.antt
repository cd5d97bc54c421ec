-- What a window entry says at a depth: buffer in bit 0, format in 3..1, bank in 8..4, gamma bypass in 9, overlay allowed in 10, zero in 12..11.
use Rattle.std.specs.Prelude.{ℕ, ◌/◌, Bool, true, false, cond, not, eqb}
use Rattle.words.specs.Field.{field}
use Rattle.line_formats.specs.Table.{format_of_number, part_at, has_depth, has_buffer, has_bank}
use Rattle.line_formats.specs.declared.Format.{Format}
use Rattle.std.specs.Prelude.{Option, Some, None}
use Rattle.line_colour.specs.declared.entry.WindowEntry.{WindowEntry}

-- the buffer of an entry (CHIP 5.1)
abbrev pub buffer_of : ℕ → ℕ
buffer_of entry = field entry 0 0

-- the number of an entry's format (CHIP 5.1)
abbrev pub format_of : ℕ → ℕ
format_of entry = field entry 3 1

-- the bank of an entry (CHIP 5.1)
abbrev pub bank_of : ℕ → ℕ
bank_of entry = field entry 8 4

-- the bits that are zero in a defined entry (CHIP 5.1)
abbrev pub spare_of : ℕ → ℕ
spare_of entry = field entry 12 11

-- the lowest bit of a buffer: buffer 0 is the low half, 1 the high (CHIP 5.3)
abbrev pub low_of : ℕ → ℕ → ℕ
low_of depth buffer = cond (eqb buffer 0) 0 (depth / 2)

-- what a defined entry of this format says; of its buffer the lowest bit (CHIP 5.1)
abbrev pub defined_as : ℕ → ℕ → Format → WindowEntry
defined_as entry depth format =
    record {
      format = format;
      low = low_of depth (buffer_of entry);
      bank = bank_of entry;
      bypass = eqb (field entry 9 9) 1;
      overlay = eqb (field entry 10 10) 1;
    }

-- what follows from the format that a number names (CHIP 5.4)
abbrev pub with_format : Option Format → (Format → Option WindowEntry) → Option WindowEntry
with_format None next = None
with_format (Some format) next = next format

-- an entry is tested for its spare bits, its format, its depth, its buffer and its bank, in this order (CHIP 5.2, 5.4)
unfoldable pub decoded : ℕ → ℕ → Option WindowEntry
decoded entry depth =
    cond (not (eqb (spare_of entry) 0)) None
    (with_format (format_of_number (format_of entry)) (λ format.
    cond (not (has_depth (part_at format depth))) None
    (cond (not (has_buffer (part_at format depth) (buffer_of entry))) None
    (cond (not (has_bank format (bank_of entry))) None
    (Some (defined_as entry depth format))))))

-- whether what the decoder answers is a defined entry (CHIP 5.4)
unfoldable pub is_defined : Option WindowEntry → Bool
is_defined (Some entry) = true
is_defined None = false
