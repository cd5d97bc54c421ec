-- The fields of an entry in its bytes, each by its own sum. Assumes nothing.
use Prim.Native.Nat.{ℕ, ◌+◌, ◌*◌, ◌/◌, ◌%◌, ◌<◌}
use mathlib.Core.Path.{◌≡◌, ap, ◌∙◌}
use mathlib.Core.List.{List}
use native.Mathlib.Omega.{arith}
use lib.ListN.{get_or}
use Rattle.words.specs.Field.{field}
use Rattle.words.proofs.Bytes.{big_endian_2, big_endian_4}
use Rattle.line_windows.specs.Table.{yend, line_table, xend, window_id, table_view}

module _ (table : List ℕ) (byte : (at : ℕ) → get_or table at 0 < 256) where
  -- a frame entry ends at the line that the low three bits of its first byte and its second byte say
  pub yend_in_bytes : (number : ℕ) → table_view table (yend number) ≡ get_or table (4 * number) 0 % 8 * 256 + get_or table (4 * number + 1) 0
  yend_in_bytes number =
      ap (λ (word : ℕ). field word 26 16) (big_endian_4 table (4 * number))
      ∙ (omega (arith, byte (4 * number), byte (4 * number + 1), byte (4 * number + 2), byte (4 * number + 3)))

  -- its line table starts in the block that the low seven bits of its third byte say, and there at the pair of bytes that the fourth says
  pub line_table_in_bytes : (number : ℕ)
      → table_view table (line_table number) ≡ 512 * (get_or table (4 * number + 2) 0 % 128) + 2 * get_or table (4 * number + 3) 0
  line_table_in_bytes number =
      ap (λ (word : ℕ). 512 * field word 14 8 + 2 * field word 7 0) (big_endian_4 table (4 * number))
      ∙ (omega (arith, byte (4 * number), byte (4 * number + 1), byte (4 * number + 2), byte (4 * number + 3)))

  -- a line entry ends at the pixel that its first byte and the top three bits of its second say
  pub xend_in_bytes : (at : ℕ) → table_view table (xend at) ≡ get_or table at 0 * 8 + get_or table (at + 1) 0 / 32
  xend_in_bytes at = ap (λ (word : ℕ). field word 15 5) (big_endian_2 table at) ∙ (omega (arith, byte at, byte (at + 1)))

-- the ID of a line entry is in the low five bits of its second byte
pub id_in_bytes : (table : List ℕ) (at : ℕ) → table_view table (window_id at) ≡ get_or table (at + 1) 0 % 32
id_in_bytes table at = ap (λ (word : ℕ). field word 4 0) (big_endian_2 table at) ∙ (omega arith)
