-- Which bytes of the normal row a sample stands in: as many of the pixel's as hold its bits, those that end above the sample's lowest bit. Assumes nothing.
use Prim.Native.Nat.{ℕ, zero, suc, ◌+◌, ◌-◌, ◌*◌, ◌/◌, ◌%◌, ◌^◌, ◌≤◌, ◌<◌}
use mathlib.Core.Path.{◌≡◌, refl, sym, ap, ◌∙◌}
use mathlib.Core.Bool.{Bool, true, false, cond}
use mathlib.Core.Logic.{⊎_elim}
use mathlib.Core.List.{List}
use native.Mathlib.Nat.{add-zero, add-suc, div-one, mod-one, add-mul, mul_comm, one-mul}
use native.Mathlib.Omega.{arith}
use borrow.Author.Tests.{leb-true, leb-false}
use lib.Dec.{leb}
use lib.ListN.{length, get_or}
use lib.Pow.{shr-shr, mod-pow-add, mod-mod-pow}
use Rattle.words.specs.Field.{bits}
use Rattle.words.specs.Bytes.{big_endian}
use Rattle.line_formats.specs.Table.{widths_of}
use Rattle.line_colour.specs.Shown.{sample_of}
use Rattle.line_colour.specs.declared.entry.WindowEntry.{WindowEntry}
use Rattle.line_colour.proofs.Defined.{Says}
use Rattle.line_pixels.specs.Cells.{pixel_word}
use Rattle.line_pixels.specs.Inner.{RowLent}
use Rattle.line_pixels.specs.SamplePlace.{held_by, place_at}
use Rattle.line_pixels.proofs.Rows.{row_before}

-- each element of a list is a byte
abbrev pub AllBytes : List ℕ → Type 0
AllBytes bytes = (place : ℕ) → get_or bytes place 0 < 256

module _ (bytes : List ℕ) (all : AllBytes bytes) where
  -- one more byte behind a number, and that byte's bits dropped
  one_off : (front place : ℕ) → (front * 256 + get_or bytes place 0) / 2 ^ 8 ≡ front
  one_off front place = omega (arith, all place)

  -- without the bits of its last k bytes a number is that in the bytes before them
  without_last : (at n k : ℕ) → big_endian bytes at (n + k) / 2 ^ (8 * k) ≡ big_endian bytes at n
  without_last at n zero = rw (add-zero n) (div-one (big_endian bytes at n))
  without_last at n (suc k) =
      let more : 8 * suc k ≡ 8 + 8 * k = omega arith in
      rw (add-suc n k, more, ← shr-shr (big_endian bytes at (n + k) * 256 + get_or bytes (at + (n + k)) 0) 8 (8 * k), one_off (big_endian bytes at (n + k)) (at + (n + k)))
      (without_last at n k)

  -- the low bits of a number, as many as m bytes have, are the number in its last m bytes
  last_bytes : (at a m : ℕ) → big_endian bytes at (a + m) % 2 ^ (8 * m) ≡ big_endian bytes (at + a) m
  last_bytes at a zero = mod-one (big_endian bytes at (a + zero))
  last_bytes at a (suc m) =
      let more : 8 * suc m ≡ 8 * m + 8 = omega arith in
      let front = big_endian bytes at (a + m) in
      let byte = get_or bytes (at + (a + m)) 0 in
      let last : (front * 256 + byte) % 2 ^ 8 ≡ byte = omega (arith, all (at + (a + m))) in
      let place : at + (a + m) ≡ at + a + m = omega arith in
      rw (add-suc a m, more, mod-pow-add (front * 256 + byte) (8 * m) 8, one_off front (at + (a + m)), last_bytes at a m, last, place)

  -- bits that stand in m bytes of a number with k behind them are those of the m bytes
  pub bits_in_bytes : (at a m k count : ℕ) → count ≤ 8 * m → bits (big_endian bytes at (a + m + k)) (8 * k) count ≡ bits (big_endian bytes (at + a) m) 0 count
  bits_in_bytes at a m k count fits =
      let room : 8 * m ≡ 8 * m - count + count = omega arith in
      let whole = big_endian bytes at (a + m) in
      let low : whole % 2 ^ (8 * m) % 2 ^ count ≡ whole % 2 ^ count =
      ap (λ (z : ℕ). whole % 2 ^ z % 2 ^ count) room ∙ mod-mod-pow whole (8 * m - count) count in
      rw (without_last at (a + m) k, div-one) (sym low ∙ ap (λ (z : ℕ). z % 2 ^ count) (last_bytes at a m))

-- one byte is its 8 bits
one_byte : (bytes : List ℕ) (place : ℕ) → get_or bytes place 0 < 256 → bits (big_endian bytes place 1) 0 8 ≡ get_or bytes place 0
one_byte bytes place below = rw add-zero (omega arith)

-- a sample starts at a byte's lowest bit
whole_bytes : {depth : ℕ} {entry : WindowEntry} → Says depth entry → entry.low ≡ 8 * (entry.low / 8)
whole_bytes says =
    ⊎_elim (λ zero. omega arith) (λ half. ⊎_elim (λ is. omega arith) (λ is. omega arith) says.at_depth) says.low_is

-- of the pixels from x on, which take n bytes each, pixel i has its byte b so far behind that of the first
bytes_apart : (n b x i : ℕ) → (x + i) * n + b ≡ n * x + b + n * i
bytes_apart n b x i = rw (mul_comm n x, mul_comm n i, add-mul x i n) (omega arith)

-- a sample is held by so many bytes of its pixel
pub record HeldBy (depth : ℕ) (entry : WindowEntry) (m : ℕ) : Type 0 where
  pub some : 1 ≤ m
  pub holds : (widths_of entry.format).bits ≤ 8 * m
  pub within : entry.low + 8 * m ≤ depth

-- at depth 32 pixels stand four bytes apart, and else two
pub apart_two : {depth : ℕ} {entry : WindowEntry} → Says depth entry → (depth / 8 ≡ 4 → ⊥) → depth / 8 ≡ 2
apart_two says not = ⊎_elim (λ at. omega arith) (λ at. absurd (not (omega arith))) says.at_depth

module _ {depth : ℕ} {entry : WindowEntry} (says : Says depth entry) where
  -- the bits of a sample
  abbrev bits_used : ℕ
  bits_used = (widths_of entry.format).bits

  -- by whether they fit one byte or two
  held_as : {m : ℕ} (one two : Bool) → leb bits_used 8 ≡ one → leb bits_used 16 ≡ two → cond one 1 (cond two 2 4) ≡ m → HeldBy depth entry m
  held_as true two in_one in_two is =
      record {
        some = omega arith;
        holds = omega (arith, leb-true bits_used 8 in_one);
        within = ⊎_elim (λ at. ⊎_elim (λ zero. omega arith) (λ half. omega arith) says.low_is) (λ at. ⊎_elim (λ zero. omega arith) (λ half. omega arith) says.low_is) says.at_depth;
      }
  held_as false true in_one in_two is =
      let above = leb-false bits_used 8 in_one in
      record {
        some = omega arith;
        holds = omega (arith, leb-true bits_used 16 in_two);
        within =
            ⊎_elim
            (λ at. ⊎_elim (λ zero. omega arith) (λ half. omega (arith, above, says.within)) says.low_is)
            (λ at. ⊎_elim (λ zero. omega arith) (λ half. omega arith) says.low_is)
            says.at_depth;
      }
  held_as false false in_one in_two is =
      let above = leb-false bits_used 16 in_two in
      record {
        some = omega arith;
        holds = ⊎_elim (λ at. omega (arith, says.within)) (λ at. omega (arith, says.within)) says.at_depth;
        within =
            ⊎_elim
            (λ at. omega (arith, above, says.within))
            (λ at. ⊎_elim (λ zero. omega arith) (λ half. omega (arith, above, says.within)) says.low_is)
            says.at_depth;
      }

  -- a sample is held by as many bytes, of one, two and four, as its bits need
  pub held_of : {m : ℕ} → held_by entry ≡ m → HeldBy depth entry m
  held_of is = held_as (leb bits_used 8) (leb bits_used 16) refl refl is

-- the normal row has the bytes that hold the samples of a run
pub held_in_row : {depth : ℕ} {entry : WindowEntry} {m : ℕ} (normal : List ℕ) (x count : ℕ) → HeldBy depth entry m → RowLent depth entry normal (x + count)
    → (i : ℕ) → i < count → place_at depth entry.low m x i + m ≤ length normal
held_in_row {depth} {entry} normal x count held lent i more =
    let n = depth / 8 in
    let ends : (x + i + 1) * n ≤ length normal = row_before depth entry normal lent {before = x + i + 1} (omega (arith, more)) in
    let parts : (x + i + 1) * n ≡ n * x + n * i + n = rw (add-mul (x + i) 1 n, add-mul x i n, mul_comm x n, mul_comm i n, one-mul n) in
    omega (arith, held.within)

module _ (depth : ℕ) (entry : WindowEntry) (normal : List ℕ) (says : Says depth entry) (all : AllBytes normal) where
  -- the bits of a sample in its format
  abbrev used : ℕ
  used = (widths_of entry.format).bits

  -- the sample of a pixel is the low bits of the m bytes that end above its lowest bit, where they hold it
  sample_in_pixel : (m p : ℕ) → used ≤ 8 * m → entry.low + 8 * m ≤ depth
      → sample_of entry (pixel_word depth normal p) ≡ bits (big_endian normal (p * (depth / 8) + (depth / 8 - m - entry.low / 8)) m) 0 used
  sample_in_pixel m p fits within =
      let k = entry.low / 8 in
      let a = depth / 8 - m - k in
      let at = p * (depth / 8) in
      let low : entry.low ≡ 8 * k = whole_bytes says in
      let whole : depth / 8 ≡ a + m + k = omega arith in
      ap (λ (z : ℕ). bits (big_endian normal at z) entry.low used) whole
      ∙ (ap (λ (z : ℕ). bits (big_endian normal at (a + m + k)) z used) low ∙ bits_in_bytes normal all at a m k used fits)

  -- each sample of a run is the low bits of the bytes that hold it
  pub sample_in_bytes : {m : ℕ} → HeldBy depth entry m → (x i : ℕ)
      → sample_of entry (pixel_word depth normal (x + i)) ≡ bits (big_endian normal (place_at depth entry.low m x i) m) 0 used
  sample_in_bytes {m} held x i =
      let n = depth / 8 in
      let place : (x + i) * n + (n - m - entry.low / 8) ≡ place_at depth entry.low m x i =
      rw (bytes_apart n (n - m - entry.low / 8) x i) (omega (arith, held.within)) in
      sample_in_pixel m (x + i) held.holds held.within ∙ ap (λ (z : ℕ). bits (big_endian normal z m) 0 used) place

  -- a sample of 8 bits is a byte
  pub sample_is_byte : (x i : ℕ) → used ≡ 8 → sample_of entry (pixel_word depth normal (x + i)) ≡ get_or normal (place_at depth entry.low 1 x i) 0
  sample_is_byte x i eight =
      let place = place_at depth entry.low 1 x i in
      let held : HeldBy depth entry 1 = held_of says (rw eight) in
      sample_in_bytes held x i ∙ rw eight (one_byte normal place (all place))
