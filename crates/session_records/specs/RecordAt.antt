-- What stands at the front of some bytes of a file.
use Rattle.std.specs.Prelude.{ℕ, Bool, cond, not, ◌&&◌, List}
use Rattle.refusals.specs.declared.Refusal.TheVariants.{WrongRecord, FileEnds, TooMuch}
use Rattle.session_records.specs.Parts.{record_of, length_of}
use Rattle.session_records.specs.Faults.{wrong, too_much, missing}
use Rattle.session_records.specs.declared.record.Context.{Context}
use Rattle.session_records.specs.declared.record.RecordAt.{RecordAt}
use Rattle.session_records.specs.declared.record.RecordAt.TheVariants.{Is, More, Refused}

-- bytes are missing, and there are more in the file
abbrev pub cut_short : Context → List ℕ → Bool
cut_short context bytes = not context.last && missing bytes

-- 12, 14, 13, or the record. Where the file goes on past the bytes that are lent, what isn't wrong already waits for the rest of the record first (CHIP 9.5)
unfoldable pub record_at : Context → List ℕ → RecordAt
record_at context bytes =
    cond (wrong bytes) (Refused (WrongRecord context.number))
    (cond (cut_short context bytes) More
    (cond (too_much context bytes) (Refused (TooMuch context.number))
    (cond (missing bytes) (Refused (FileEnds context.number))
    (Is (record_of bytes) (length_of bytes)))))
