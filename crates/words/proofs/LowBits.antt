-- Bits of a word rest on its low part alone, where they lie in it. Assumes nothing.
use Prim.Native.Nat.{ℕ, ◌+◌, ◌-◌, ◌/◌, ◌%◌, ◌^◌, ◌≤◌}
use mathlib.Core.Path.{◌≡◌, ap, ◌∙◌}
use native.Mathlib.Omega.{arith}
use lib.Pow.{field, mod-mod-pow}
use Rattle.words.specs.Field.{bits}

-- bits below bit k are the same in the word's low k bits
pub bits_of_low : (word k low count : ℕ) → low + count ≤ k → bits (word % 2 ^ k) low count ≡ bits word low count
bits_of_low word k low count h =
    let whole : k ≡ k - low + low = omega arith in
    let part : k - low ≡ k - low - count + count = omega arith in
    let shifted : word % 2 ^ k / 2 ^ low ≡ word / 2 ^ low % 2 ^ (k - low) =
    ap (λ (z : ℕ). word % 2 ^ z / 2 ^ low) whole ∙ field word (k - low) low in
    ap (λ (z : ℕ). z % 2 ^ count) shifted
    ∙ (ap (λ (z : ℕ). word / 2 ^ low % 2 ^ z % 2 ^ count) part ∙ mod-mod-pow (word / 2 ^ low) (k - low - count) count)
