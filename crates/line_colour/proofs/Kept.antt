-- What an entry says rests on its 13 kept bits alone. Assumes nothing.
use Prim.Native.Nat.{ℕ, ◌%◌, ◌^◌}
use mathlib.Core.Path.{◌≡◌}
use lib.Dec.{lit≤}
use Rattle.words.proofs.LowBits.{bits_of_low}
use Rattle.line_colour.specs.Entry.{decoded}

-- an entry says the same without its bits above bit 12
pub decoded_kept : (entry depth : ℕ) → decoded (entry % 2 ^ 13) depth ≡ decoded entry depth
unfolding decoded
decoded_kept entry depth =
    simp
    (bits_of_low entry 13 0 1 (lit≤ tt), bits_of_low entry 13 1 3 (lit≤ tt), bits_of_low entry 13 4 5 (lit≤ tt), bits_of_low entry 13 9 1 (lit≤ tt), bits_of_low entry 13 10 1 (lit≤ tt), bits_of_low entry 13 11 2 (lit≤ tt))
