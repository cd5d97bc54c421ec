-- The tags, and the lengths of a body that each allows.
use Rattle.std.specs.Prelude.{ℕ, ◌≡◌, Bool, false, ◌&&◌, Option, Some, None, List, [], ◌∷◌, leb, ltb, length, get_or}
use Rattle.session_records.specs.declared.tags.BodyLengths.{BodyLengths}
use Rattle.session_records.specs.declared.tags.Tag.{Tag}
use Rattle.session_records.specs.declared.tags.Tag.TheVariants.{End, Write, Dots, Table, Normal, Overlay, Line}

-- one length alone
abbrev pub just : ℕ → BodyLengths
just count = record { least = count; most = count }

-- every length up to one
abbrev pub up_to : ℕ → BodyLengths
up_to count = record { least = 0; most = count }

-- the bytes of the longest normal row (CHIP 9.1)
abbrev pub longest_normal : ℕ
longest_normal = 8192

-- the bytes of the longest overlay row (CHIP 9.1)
abbrev pub longest_overlay : ℕ
longest_overlay = 2048

-- the bytes of the longest table, all records of it together (CHIP 9.2)
abbrev pub longest_table : ℕ
longest_table = 65536

-- the most dots of a record (CHIP 9.1)
abbrev pub most_dots : ℕ
most_dots = 16777216

-- the most records of a file (CHIP 9.3)
abbrev pub most_records : ℕ
most_records = 1000000

-- by tag: 0 end, 1 write, 2 dots, 3 table bytes, 4 normal row, 5 overlay row, 6 line; table bytes have any length that two bytes can say (CHIP 9.1)
abbrev pub allowed : List BodyLengths
allowed = just 0 ∷ just 8 ∷ just 4 ∷ up_to 65535 ∷ up_to longest_normal ∷ up_to longest_overlay ∷ just 2 ∷ []

-- there is a record with this tag (CHIP 9.1)
abbrev pub known : ℕ → Bool
known tag = ltb tag (length allowed)

-- the number of a tag (CHIP 9.1)
abbrev pub number_of : Tag → ℕ
number_of End = 0
number_of Write = 1
number_of Dots = 2
number_of Table = 3
number_of Normal = 4
number_of Overlay = 5
number_of Line = 6

-- the tag of a byte: the byte is its number, or there is no record with this tag
abbrev pub IsTagOf : ℕ → Option Tag → Type 0
IsTagOf byte None = known byte ≡ false
IsTagOf byte (Some tag) = byte ≡ number_of tag

-- the lengths of a tag (CHIP 9.1)
abbrev pub lengths_of : ℕ → BodyLengths
lengths_of tag = get_or allowed tag (just 0)

-- a tag allows a length (CHIP 9.1)
unfoldable pub allows : ℕ → ℕ → Bool
allows tag count = leb (lengths_of tag).least count && leb count (lengths_of tag).most
