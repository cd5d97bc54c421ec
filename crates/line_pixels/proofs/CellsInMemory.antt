-- What cells hold in lent memory, by the number of a word in the store or of a byte in a row. Assumes nothing.
use Prim.Native.Nat.{ℕ, zero, suc, ◌+◌, ◌-◌, ◌*◌, ◌/◌, ◌%◌, ◌^◌, ◌≤◌}
use mathlib.Core.Path.{◌≡◌, refl, sym, ap, ◌∙◌}
use mathlib.Core.List.{List}
use native.Mathlib.Nat.{pow-suc}
use native.Mathlib.Omega.{arith}
use lib.ListN.{get_or}
use Rattle.words.specs.Field.{bits}
use Rattle.words.proofs.Bytes.{big_endian_2, big_endian_4}
use Rattle.words.proofs.LowBits.{bits_of_low}
use Rattle.line_pixels.specs.Cells.{overlay_byte, in_red, in_green, in_blue, glyph, cursor_colour, sample, map_entry, gamma, pixel_view}

-- four, and two times two
four_pow : (n : ℕ) → 4 ^ n ≡ 2 ^ (2 * n)
four_pow zero = refl
four_pow (suc n) = rw (pow-suc 4 n, four_pow n) (sym (ap (λ (k : ℕ). 2 ^ k) (two_more n) ∙ (pow-suc 2 (suc (2 * n)) ∙ rw (pow-suc 2 (2 * n)) (omega arith))))
  where
    -- twice one more is two more
    two_more : (n : ℕ) → 2 * suc n ≡ suc (suc (2 * n))
    two_more n = omega arith

-- a row of the glyph is two words of the store, from word 4,896 on; the leftmost of the 16 cells of a word is its top digit in fours
pub glyph_in_store : (store normal overlay : List ℕ) (row column : ℕ)
    → pixel_view store normal overlay (glyph row column) ≡ get_or store (4896 + (2 * row + column / 16)) 0 / 4 ^ (15 - column % 16) % 4
glyph_in_store store normal overlay row column =
    let word = get_or store (4896 + (2 * row + column / 16)) 0 in
    let low : 30 - 2 * (column % 16) ≡ 2 * (15 - column % 16) = omega arith in
    let fits : 30 - 2 * (column % 16) + 2 ≤ 32 = omega arith in
    let kept : word / 2 ^ 0 % 2 ^ 32 ≡ word % 2 ^ 32 = omega arith in
    ap (λ (z : ℕ). bits z (30 - 2 * (column % 16)) 2) kept
    ∙ bits_of_low word 32 (30 - 2 * (column % 16)) 2 fits
    ∙ rw (low, four_pow (15 - column % 16))

module _ (store normal overlay : List ℕ) where
  -- map entries are the 24 low bits of the words from word 32 on
  pub map_entry_in_store : (entry : ℕ) → pixel_view store normal overlay (map_entry entry) ≡ get_or store (32 + entry) 0 % 2 ^ 24
  map_entry_in_store entry = omega arith

  -- a gamma word stands from word 4,640 on: its red is the third byte from the end
  pub gamma_red_in_store : (entry : ℕ) → pixel_view store normal overlay (gamma in_red entry) ≡ get_or store (4640 + entry) 0 / 65536 % 256
  gamma_red_in_store entry = omega arith

  -- its green is the second byte from the end
  pub gamma_green_in_store : (entry : ℕ) → pixel_view store normal overlay (gamma in_green entry) ≡ get_or store (4640 + entry) 0 / 256 % 256
  gamma_green_in_store entry = omega arith

  -- its blue is the last byte
  pub gamma_blue_in_store : (entry : ℕ) → pixel_view store normal overlay (gamma in_blue entry) ≡ get_or store (4640 + entry) 0 % 256
  gamma_blue_in_store entry = omega arith

  -- cursor colours 1 to 3 are the 24 low bits of words 4,960 to 4,962
  pub cursor_colour_in_store : (number : ℕ) → pixel_view store normal overlay (cursor_colour (suc number)) ≡ get_or store (4960 + number) 0 % 2 ^ 24
  cursor_colour_in_store number = rw (suc_sub_one number) (omega arith)
    where
      -- one more, less one
      suc_sub_one : (n : ℕ) → suc n - 1 ≡ n
      suc_sub_one n = omega arith

  -- the overlay byte of a pixel is the byte of the overlay row with its number
  pub overlay_byte_in_row : (x : ℕ) → pixel_view store normal overlay (overlay_byte x) ≡ get_or overlay x 0
  overlay_byte_in_row x = refl

  -- at depth 16 a pixel is two bytes of the normal row, the first the higher; of them the bits asked for are taken
  pub sample_of_16 : (x low count : ℕ)
      → pixel_view store normal overlay (sample 16 x low count) ≡ (get_or normal (x * 2) 0 * 256 + get_or normal (x * 2 + 1) 0) / 2 ^ low % 2 ^ count
  sample_of_16 x low count = ap (λ (w : ℕ). w / 2 ^ low % 2 ^ count) (big_endian_2 normal (x * 2))

  -- at depth 32 it is four bytes
  pub sample_of_32 : (x low count : ℕ)
      → pixel_view store normal overlay (sample 32 x low count)
      ≡ (get_or normal (x * 4) 0 * 16777216 + get_or normal (x * 4 + 1) 0 * 65536 + get_or normal (x * 4 + 2) 0 * 256 + get_or normal (x * 4 + 3) 0) / 2 ^ low % 2 ^ count
  sample_of_32 x low count = ap (λ (w : ℕ). w / 2 ^ low % 2 ^ count) (big_endian_4 normal (x * 4))
