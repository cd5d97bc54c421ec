-- Numbers as text, in ASCII: decimal without leading zeros, and a colour as six lower-case hex digits.
use Rattle.std.specs.Prelude.{ℕ, zero, suc, ◌+◌, ◌/◌, ◌%◌, ◌^◌, cond, List, [], ◌∷◌, ◌++◌, ltb}

-- a digit: 0 to 9, then a to f (CHIP 9.7)
abbrev pub digit : ℕ → ℕ
digit number = cond (ltb number 10) (48 + number) (87 + number)

-- a number of at most so many decimal digits (CHIP 9.7)
abbrev pub decimal_in : ℕ → ℕ → List ℕ
decimal_in zero number = []
decimal_in (suc count) number = cond (ltb number 10) (digit number ∷ []) (decimal_in count (number / 10) ++ digit (number % 10) ∷ [])

-- a number in decimal: one digit more than the number itself counts is always enough (CHIP 9.7)
unfoldable pub decimal : ℕ → List ℕ
decimal number = decimal_in (suc number) number

-- the lowest so many hex digits of a number (CHIP 9.7)
abbrev pub hex_in : ℕ → ℕ → List ℕ
hex_in zero number = []
hex_in (suc count) number = digit (number / 16 ^ count % 16) ∷ hex_in count number

-- a colour in hex (CHIP 9.7)
unfoldable pub hex : ℕ → List ℕ
hex colour = hex_in 6 colour
