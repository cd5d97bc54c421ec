-- Big-endian numbers, one in front of another, and in plain sums. Assumes nothing.
use Prim.Native.Nat.{ℕ, zero, suc, ◌+◌, ◌*◌, ◌^◌}
use mathlib.Core.Path.{◌≡◌}
use mathlib.Core.List.{List}
use native.Mathlib.Omega.{arith}
use lib.ListN.{get_or}
use native.Mathlib.Nat.{add-zero, mul-one, add-suc, add_assoc, mul_assoc, add-mul, pow-suc}
use Rattle.words.specs.Bytes.{big_endian}

-- the number in m + n bytes is that in the first m, moved up by n bytes, plus that in the n behind them
pub big_endian_add : (bytes : List ℕ) (at m n : ℕ) → big_endian bytes at (m + n) ≡ big_endian bytes at m * 256 ^ n + big_endian bytes (at + m) n
big_endian_add bytes at m zero = simp (mul-one, add-zero)
big_endian_add bytes at m (suc n) =
    rw (add-suc, pow-suc, big_endian_add bytes at m n) (simp (add-mul, mul_assoc, add_assoc))

-- the first byte of a number stands at the number's own place
first_byte : (bytes : List ℕ) (at : ℕ) → get_or bytes (at + 0) 0 ≡ get_or bytes at 0
first_byte bytes at = rw add-zero

-- of two bytes the first counts 256
pub big_endian_2 : (bytes : List ℕ) (at : ℕ) → big_endian bytes at 2 ≡ get_or bytes at 0 * 256 + get_or bytes (at + 1) 0
big_endian_2 bytes at = omega (arith, first_byte bytes at)

-- of four bytes the first counts 16,777,216, the second 65,536, the third 256
pub big_endian_4 : (bytes : List ℕ) (at : ℕ)
    → big_endian bytes at 4 ≡ get_or bytes at 0 * 16777216 + get_or bytes (at + 1) 0 * 65536 + get_or bytes (at + 2) 0 * 256 + get_or bytes (at + 3) 0
big_endian_4 bytes at = omega (arith, first_byte bytes at)
