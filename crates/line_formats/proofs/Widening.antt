-- Widening, over any channel width.
--     widened-top   bit i from the top of the result is bit i mod width from the top of the value
--     widened_is    and no second number of 8 bits has that
--     widened-lt    the result has 8 bits
--     by-shifts     one, two, four and eight copies by shifts, and the first 8 bits of them: the code
--     by-table      a look-up among the eight numbers of 3 bits, widened: the code for that width
-- and the closed forms for the widths in use. Assumes nothing.
use Prim.Native.Nat.{ℕ, zero, suc, ◌+◌, ◌-◌, ◌*◌, ◌/◌, ◌%◌, ◌^◌, ◌≤◌, ◌<◌}
use mathlib.Core.Path.{◌≡◌, refl, sym, ap, ◌∙◌}
use mathlib.Core.Logic.{⊎_elim}
use native.Mathlib.Nat.{zero-mul, suc-mul, mul-one, add-zero, add-suc, add_assoc, mul_assoc, add-mul, not-suc-le-zero, mul-add-div_right, div-one, pow-suc, one-mul, mul-add-mod_self_right}
use native.Mathlib.Numerals.{one-add}
use native.Mathlib.Omega.{arith}
use lib.Bits.{bit_or, or_shifted}
use lib.Dec.{lit<}
use lib.Pow.{pow-add, pow_pos, shr_lt, shl_exact, shr-shr, high}
use lib.Arith.{digits_lt, digits_mod}
use Rattle.rules.specs.Lists.{values}
use Rattle.rules.proofs.Cases.{le_or_lt}
use Rattle.rules.proofs.Lists.{same_values}
use Rattle.line_formats.specs.Channel.{repeated, widened}

-- bit i from the top of a number of `width` bits, the top one being bit 0
abbrev pub from_top : ℕ → ℕ → ℕ → ℕ
from_top value width i = value / 2 ^ (width - 1 - i) % 2

-- so many copies of `width` bits have no more bits than their widths together
repeated_lt : (value width count : ℕ) → value < 2 ^ width → repeated value width count < 2 ^ (count * width)
repeated_lt value width zero h = rw zero-mul (lit< tt)
repeated_lt value width (suc count) h = rw (suc-mul, pow-add) (digits_lt (repeated_lt value width count h) h)

-- copies in two parts: the first part stands above the second
repeated_add : (value width m n : ℕ) → repeated value width (m + n) ≡ repeated value width m * 2 ^ (n * width) + repeated value width n
repeated_add value width m zero = simp (zero-mul, mul-one, add-zero)
repeated_add value width m (suc n) =
    rw (add-suc, suc-mul, pow-add, repeated_add value width m n) (simp (add-mul, mul_assoc, add_assoc))

-- the result has 8 bits
pub widened_lt : (value width : ℕ) → 1 ≤ width → value < 2 ^ width → widened value width < 2 ^ 8
unfolding widened
widened_lt value width some h =
    let all : 8 * width ≡ 8 + (8 * width - 8) = omega arith in
    shr_lt 8 (8 * width - 8) (rw all at (repeated_lt value width 8 h))

-- what stands above bit d of a number does not change that bit
low_bit : (above j d value : ℕ) → (above * 2 ^ (suc j + d) + value) / 2 ^ d % 2 ≡ value / 2 ^ d % 2
low_bit above j d value =
    rw (pow-add 2 (suc j) d, ← mul_assoc above (2 ^ suc j) (2 ^ d), mul-add-div_right (pow_pos d) (above * 2 ^ suc j) value, pow-suc 2 j, ← mul_assoc above (2 ^ j) 2)
    (mul-add-mod_self_right (above * 2 ^ j) 2 (value / 2 ^ d))

-- bit i from the top of the copies is bit i mod width from the top of the one
repeated_top : (value width count i : ℕ) → value < 2 ^ width → i < count * width
    → from_top (repeated value width count) (count * width) i ≡ from_top value width (i % width)
repeated_top value width zero i h l = absurd (not-suc-le-zero (rw zero-mul at l))
repeated_top value width (suc count) i h l =
    let all : suc count * width ≡ count * width + width = suc-mul count width in
    ⊎_elim
    (λ in_last.
    let j : i ≡ count * width + (i - count * width) = omega arith in
    let small : i - count * width < width = omega arith in
    let here : i % width ≡ i - count * width = ap (λ (z : ℕ). z % width) j ∙ digits_mod count small in
    let deep : suc count * width - 1 - i ≡ width - 1 - (i - count * width) = omega arith in
    let whole : width ≡ suc (i - count * width) + (width - 1 - (i - count * width)) = omega arith in
    rw (here, deep)
    (ap (λ (z : ℕ). (repeated value width count * 2 ^ z + value) / 2 ^ (width - 1 - (i - count * width)) % 2) whole
    ∙ low_bit (repeated value width count) (i - count * width) (width - 1 - (i - count * width)) value))
    (λ before.
    let deep : suc count * width - 1 - i ≡ width + (count * width - 1 - i) = omega arith in
    rw (deep, ← shr-shr (repeated value width count * 2 ^ width + value) width (count * width - 1 - i), high (repeated value width count) width h)
    (repeated_top value width count i h before))
    (le_or_lt (count * width) i)

-- bit i from the top of the result is bit i mod width from the top of the value
pub widened_top : (value width i : ℕ) → 1 ≤ width → value < 2 ^ width → i < 8
    → from_top (widened value width) 8 i ≡ from_top value width (i % width)
unfolding widened
widened_top value width i some h l =
    let deep : 8 * width - 8 + (8 - 1 - i) ≡ 8 * width - 1 - i = omega arith in
    rw (shr-shr (repeated value width 8) (8 * width - 8) (8 - 1 - i), deep) (repeated_top value width 8 i h (omega arith))

-- two numbers with the same bits are one
same_bits : (count a b : ℕ) → a < 2 ^ count → b < 2 ^ count → ((j : ℕ) → j < count → a / 2 ^ j % 2 ≡ b / 2 ^ j % 2) → a ≡ b
same_bits zero a b ha hb h = omega arith
same_bits (suc count) a b ha hb h =
    let la : a < 2 ^ count * 2 = rw pow-suc at ha in
    let lb : b < 2 ^ count * 2 = rw pow-suc at hb in
    let half : a / 2 ≡ b / 2 =
    same_bits count (a / 2) (b / 2) (omega arith) (omega arith) (λ j l. rw (shr-shr a 1 j, shr-shr b 1 j, one-add j) (h (suc j) (omega arith))) in
    let low : a % 2 ≡ b % 2 = simp div-one at (h 0 (omega arith)) in
    omega arith

-- of numbers of 8 bits only the result has bit i mod width of the value as its bit i from the top
pub widened_is : (value width result : ℕ) → 1 ≤ width → value < 2 ^ width → result < 2 ^ 8
    → ((i : ℕ) → i < 8 → from_top result 8 i ≡ from_top value width (i % width)) → result ≡ widened value width
widened_is value width result some h small law =
    same_bits 8 result (widened value width) small (widened_lt value width some h) (λ j l.
    let deep : 8 - 1 - (8 - 1 - j) ≡ j = omega arith in
    rw deep at (law (8 - 1 - j) (omega arith) ∙ sym (widened_top value width (8 - 1 - j) some h (omega arith))))

-- n copies behind themselves, by a shift and an or
abbrev pub twice : ℕ → ℕ → ℕ
twice x shift = bit_or (x * 2 ^ shift % 2 ^ 64) x

-- n copies doubled by a shift and an or are 2n copies
twice_repeated : (value width n x shift : ℕ) → value < 2 ^ width → x ≡ repeated value width n → shift ≡ n * width → shift + shift ≤ 64
    → twice x shift ≡ repeated value width (n + n)
twice_repeated value width n x shift h e d fits =
    let small : x < 2 ^ shift = rw (e, d) (repeated_lt value width n h) in
    rw (shl_exact shift shift 64 small fits, or_shifted x shift x small, e, d) (sym (repeated_add value width n n))

-- doubled three times by shifts, the first 8 bits are the result
pub by_shifts : (value width : ℕ) → width ≤ 8 → value < 2 ^ width
    → twice (twice (twice value width) (2 * width)) (4 * width) / 2 ^ (8 * width - 8) ≡ widened value width
unfolding widened
by_shifts value width fits h =
    let one : value ≡ repeated value width 1 = omega arith in
    let two : twice value width ≡ repeated value width 2 = twice_repeated value width 1 value width h one (sym (one-mul width)) (omega arith) in
    let four : twice (twice value width) (2 * width) ≡ repeated value width 4 =
    twice_repeated value width 2 (twice value width) (2 * width) h two refl (omega arith) in
    ap (λ (x : ℕ). x / 2 ^ (8 * width - 8))
    (twice_repeated value width 4 (twice (twice value width) (2 * width)) (4 * width) h four refl (omega arith))

-- byte i of a word, the lowest being byte 0
abbrev pub byte_of : ℕ → ℕ → ℕ
byte_of word i = word / 2 ^ (8 * i) % 256

-- of a word whose bytes are the numbers of 3 bits, widened, byte `value` is that number, widened
pub by_table : (table value : ℕ) → values (byte_of table) 8 0 ≡ values (λ v. widened v 3) 8 0 → value < 8 → byte_of table value ≡ widened value 3
by_table table value computed h = same_values (byte_of table) (λ v. widened v 3) 8 computed value h

-- ---- the closed forms of the five widths in use

-- 2 bits: four times over
pub widened_2 : (v : ℕ) → v < 2 ^ 2 → widened v 2 ≡ v * 85
unfolding widened
widened_2 v h = omega arith

-- 3 bits: twice over, and the two top bits again
pub widened_3 : (v : ℕ) → v < 2 ^ 3 → widened v 3 ≡ 32 * v + 4 * v + v / 2
unfolding widened
widened_3 v h = omega arith

-- 4 bits: twice over
pub widened_4 : (v : ℕ) → v < 2 ^ 4 → widened v 4 ≡ 17 * v
unfolding widened
widened_4 v h = omega arith

-- 5 bits: once, and the three top bits again
pub widened_5 : (v : ℕ) → v < 2 ^ 5 → widened v 5 ≡ 8 * v + v / 4
unfolding widened
widened_5 v h = omega arith

-- 8 bits: as they are
pub widened_8 : (v : ℕ) → v < 2 ^ 8 → widened v 8 ≡ v
unfolding widened
widened_8 v h = omega arith
