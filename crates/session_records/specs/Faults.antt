-- The three faults of a record, apart: it is wrong (12), too much (14), or bytes are missing (13). The first two look at no byte that hasn't come.
use Rattle.std.specs.Prelude.{ℕ, ◌+◌, Bool, not, ◌&&◌, ◌||◌, List, eqb, leb, ltb}
use Rattle.session_records.specs.Tags.{longest_table, most_dots, most_records, known, allows}
use Rattle.session_records.specs.Parts.{there, tag_of, length_of, in_body}
use Rattle.session_records.specs.declared.record.Context.{Context}

-- the tag is there, and there is no such tag (CHIP 9.4)
abbrev pub unknown_tag : List ℕ → Bool
unknown_tag bytes = there bytes 1 && not (known (tag_of bytes))

-- tag and length are there, and the tag doesn't allow the length (CHIP 9.4)
abbrev pub wrong_length : List ℕ → Bool
wrong_length bytes = there bytes 3 && not (allows (tag_of bytes) (length_of bytes))

-- all of a count of dots is there, and it is above 16,777,216 (CHIP 9.1)
abbrev pub too_many_dots : List ℕ → Bool
too_many_dots bytes = there bytes 7 && eqb (tag_of bytes) 2 && ltb most_dots (in_body bytes 0 4)

-- 12: the tag, the length or a count of dots is wrong (CHIP 9.4)
unfoldable pub wrong : List ℕ → Bool
wrong bytes = unknown_tag bytes || wrong_length bytes || too_many_dots bytes

-- the tag is there, and 1,000,000 records stand before it (CHIP 9.4)
abbrev pub too_many_records : ℕ → List ℕ → Bool
too_many_records number bytes = there bytes 1 && leb most_records number

-- table bytes whose length is there, and with which the table has more than 65,536 (CHIP 9.4)
abbrev pub too_long_table : ℕ → List ℕ → Bool
too_long_table table bytes = there bytes 3 && eqb (tag_of bytes) 3 && ltb longest_table (table + length_of bytes)

-- 14: one record too many, or a table too long (CHIP 9.4)
unfoldable pub too_much : Context → List ℕ → Bool
too_much context bytes = too_many_records context.number bytes || too_long_table context.table bytes

-- 13: the tag, a byte of the length or one of the body isn't there (CHIP 9.4)
unfoldable pub missing : List ℕ → Bool
missing bytes = not (there bytes 3 && there bytes (3 + length_of bytes))
