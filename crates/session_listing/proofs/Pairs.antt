-- What the table of pairs holds for each byte. Assumes nothing.
use Prim.Native.Nat.{ℕ, zero, suc, ◌+◌, ◌*◌, ◌/◌, ◌%◌, ◌<◌}
use mathlib.Core.Path.{◌≡◌, refl, ap, ◌∙◌}
use mathlib.Core.List.{List, [], ◌∷◌, ◌++◌}
use native.Mathlib.Nat.{add-zero, zero-add}
use native.Mathlib.Omega.{arith}
use lib.ListN.{get_or}
use Rattle.session_listing.specs.Digits.{digit, hex}
use Rattle.session_listing.specs.Text.{ended}
use Rattle.session_listing.specs.Inner.{pairs_from, pair_table}
use Rattle.session_listing.specs.declared.pixel_lines.TheConstants.{PAIRS}
use Rattle.session_listing.proofs.Texts.{six_digits}

-- at a place of a table stand the two digits of a byte, and two line feeds
pub record Pair (table : List ℕ) (place byte : ℕ) : Type 0 where
  pub high : get_or table place 0 ≡ digit (byte / 16)
  pub low : get_or table (place + 1) 0 ≡ digit (byte % 16)
  pub end : get_or table (place + 2) 0 ≡ 10
  pub ahead : get_or table (place + 3) 0 ≡ 10

-- what stands at a place behind four others
behind_four : (a b c d : ℕ) (rest : List ℕ) (place behind : ℕ) → behind ≡ place + 4 → get_or (a ∷ b ∷ c ∷ d ∷ rest) behind 0 ≡ get_or rest place 0
behind_four a b c d rest place behind is = let four : behind ≡ suc (suc (suc (suc place))) = omega arith in rw four

-- a pair behind another
pair_behind : (a b c d : ℕ) (rest : List ℕ) (place behind byte : ℕ) → behind ≡ place + 4 → Pair rest place byte → Pair (a ∷ b ∷ c ∷ d ∷ rest) behind byte
pair_behind a b c d rest place behind byte is pair = record {
  high = behind_four a b c d rest place behind is ∙ pair.high;
  low = behind_four a b c d rest (place + 1) (behind + 1) (omega arith) ∙ pair.low;
  end = behind_four a b c d rest (place + 2) (behind + 2) (omega arith) ∙ pair.end;
  ahead = behind_four a b c d rest (place + 3) (behind + 3) (omega arith) ∙ pair.ahead;
}

-- of so many bytes from one on, the pair of each stands at four times its number among them
pair_from : (count first byte : ℕ) → byte < count → Pair (pairs_from first count) (4 * byte) (first + byte)
pair_from zero first byte below = absurd (omega arith)
pair_from (suc count) first zero below = rw add-zero (record { high = refl; low = refl; end = refl; ahead = refl })
pair_from (suc count) first (suc byte) below =
    let same : first + suc byte ≡ suc first + byte = omega arith in
    rw same
    (pair_behind (digit (first / 16)) (digit (first % 16)) 10 10 (pairs_from (suc first) count) (4 * byte) (4 * suc byte) (suc first + byte) (omega arith)
    (pair_from count (suc first) byte (omega arith)))

-- of the first so many bytes, the pair of each stands at four times it
pair_in : (count byte : ℕ) → byte < count → Pair (pairs_from 0 count) (4 * byte) byte
pair_in count byte below = rw zero-add at (pair_from count 0 byte below)

-- the literal is the table
pub table_is : PAIRS ≡ pair_table
unfolding pair_table
table_is = refl

-- the pair of each byte stands at four times it
pair_at : (byte : ℕ) → byte < 256 → Pair pair_table (4 * byte) byte
unfolding pair_table
pair_at byte below = pair_in 256 byte below

-- the pairs of a colour's bytes, the last with its line feeds, are its digits, its line's end and a line feed more
pub colour_pairs : (colour : ℕ)
    → get_or PAIRS (4 * (colour / 65536 % 256)) 0 ∷ get_or PAIRS (4 * (colour / 65536 % 256) + 1) 0 ∷ get_or PAIRS (4 * (colour / 256 % 256)) 0
    ∷ get_or PAIRS (4 * (colour / 256 % 256) + 1) 0 ∷ get_or PAIRS (4 * (colour % 256)) 0 ∷ get_or PAIRS (4 * (colour % 256) + 1) 0
    ∷ get_or PAIRS (4 * (colour % 256) + 2) 0 ∷ get_or PAIRS (4 * (colour % 256) + 3) 0 ∷ []
    ≡ ended (hex colour) ++ 10 ∷ []
colour_pairs colour =
    let red = pair_at (colour / 65536 % 256) (omega arith) in
    let green = pair_at (colour / 256 % 256) (omega arith) in
    let blue = pair_at (colour % 256) (omega arith) in
    let five : colour / 65536 % 256 / 16 ≡ colour / 1048576 % 16 = omega arith in
    let four : colour / 65536 % 256 % 16 ≡ colour / 65536 % 16 = omega arith in
    let three : colour / 256 % 256 / 16 ≡ colour / 4096 % 16 = omega arith in
    let two : colour / 256 % 256 % 16 ≡ colour / 256 % 16 = omega arith in
    let one : colour % 256 / 16 ≡ colour / 16 % 16 = omega arith in
    let zero : colour % 256 % 16 ≡ colour % 16 = omega arith in
    rw (table_is, blue.end, blue.ahead)
    (ap (λ (line : List ℕ). line ++ 10 ∷ [])
    (six_digits colour (red.high ∙ ap digit five) (red.low ∙ ap digit four) (green.high ∙ ap digit three) (green.low ∙ ap digit two) (blue.high ∙ ap digit one) (blue.low ∙ ap digit zero)))
