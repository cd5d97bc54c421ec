-- Numbers in bytes: big-endian, the first byte is the highest.
use Rattle.std.specs.Prelude.{ℕ, zero, suc, ◌+◌, ◌*◌, List, get_or}

-- the number in `count` bytes from the place `at` on (CHIP 1.4)
abbrev pub big_endian : List ℕ → ℕ → ℕ → ℕ
big_endian bytes at zero = 0
big_endian bytes at (suc count) = big_endian bytes at count * 256 + get_or bytes (at + count) 0
