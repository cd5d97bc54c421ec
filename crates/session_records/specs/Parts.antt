-- The parts of a record, whose first byte is the first of some bytes: a tag of one byte, a length of two, a body.
use Rattle.std.specs.Prelude.{ℕ, ◌+◌, Bool, List, [], ◌∷◌, leb, length, get_or, take, drop}
use Rattle.words.specs.Bytes.{big_endian}
use Rattle.session_records.specs.declared.record.Record.{Record}
use Rattle.session_records.specs.declared.record.Record.TheVariants.{End, Write, Dots, Table, Normal, Overlay, Line}

-- so many bytes are there (CHIP 9.4)
abbrev pub there : List ℕ → ℕ → Bool
there bytes count = leb count (length bytes)

-- the tag, where the first byte is there (CHIP 9.1)
abbrev pub tag_of : List ℕ → ℕ
tag_of bytes = get_or bytes 0 0

-- the body's length, where the first three bytes are there (CHIP 9.1)
abbrev pub length_of : List ℕ → ℕ
length_of bytes = big_endian bytes 1 2

-- the bytes of the body (CHIP 9.1)
abbrev pub body_of : List ℕ → List ℕ
body_of bytes = take (length_of bytes) (drop 3 bytes)

-- a number in the body, of so many bytes from a place of it on (CHIP 1.4)
abbrev pub in_body : List ℕ → ℕ → ℕ → ℕ
in_body bytes at count = big_endian bytes (3 + at) count

-- the records of all tags, in order: a write is an address and a value, dots are a count, a line is its y (CHIP 9.1)
abbrev pub records_of : List ℕ → List Record
records_of bytes =
    End
    ∷ Write (in_body bytes 0 4) (in_body bytes 4 4)
    ∷ Dots (in_body bytes 0 4)
    ∷ Table
    ∷ Normal
    ∷ Overlay
    ∷ Line (in_body bytes 0 2)
    ∷ []

-- the record, where all of it is there (CHIP 9.1)
abbrev pub record_of : List ℕ → Record
record_of bytes = get_or (records_of bytes) (tag_of bytes) End
