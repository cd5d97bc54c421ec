-- The room that an entry is granted, and what rendering it leaves and answers.
use Rattle.std.specs.Prelude.{ℕ, ◌+◌, ◌*◌, ◌^◌, ◌<◌, ◌≡◌, cond, Option, Some, None, List, [], ◌∷◌, ◌++◌, leb, length, take, drop}
use Rattle.rules.specs.Faults.{place_in}
use Rattle.session_listing.specs.Text.{EntrySays, says_ok, says_at, says_line, says_refused, colours_shown, text}

-- 32 bytes, and 7 more for each of so many colours
abbrev pub room_of : ℕ → ℕ
room_of colours = 32 + 7 * colours

-- the room of an entry: that of the colours which it shows (CHIP 9.7)
abbrev pub room_for : EntrySays → List ℕ → ℕ
room_for listed output = room_of (length (colours_shown listed output))

-- lent bytes with some of them replaced, from a place on
abbrev pub placed : List ℕ → ℕ → List ℕ → List ℕ
placed lent place bytes = take place lent ++ bytes ++ drop (place + length bytes) lent

-- where the room is there from a place on, the place after the entry's text, which then stands there; else none, and the bytes as they were (CHIP 9.7)
abbrev pub rendered : EntrySays → List ℕ → List ℕ → ℕ → Option ℕ × List ℕ
rendered listed output lent place =
    cond (leb (place + room_for listed output) (length lent))
    (Some (place + length (text listed output)), placed lent place (text listed output))
    (None, lent)

-- an entry whose numbers have 32 bits, and a refusal one value
abbrev pub Small : EntrySays → Type 0
Small says_ok = Unit {0}
Small (says_at x y) = (x < 2 ^ 32) × (y < 2 ^ 32)
Small (says_line y width) = y < 2 ^ 32
Small (says_refused refusal) = (refusal.number < 2 ^ 32) × (place_in refusal < 2 ^ 32) × (refusal.values ≡ place_in refusal ∷ [])
