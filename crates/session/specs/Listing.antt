-- The listing of a file.
use Rattle.std.specs.Prelude.{ℕ, zero, suc, ◌+◌, true, cond, List, [], ◌++◌, drop}
use Rattle.session_records.specs.Tags.{most_records}
use Rattle.session_answers.specs.Status.{text_of, goes_on}
use Rattle.session.specs.Held.{Held, nothing_held}
use Rattle.session.specs.Record.{stepped}

-- the text of at most so many further records
abbrev pub listing_from : ℕ → Held → List ℕ → List ℕ
listing_from zero held bytes = []
listing_from (suc count) held bytes =
    let step = stepped true held bytes in
    text_of step.0.0.output step.1
    ++ cond (goes_on step.1) (listing_from count step.0.0 (drop step.0.1 bytes)) []

-- the listing: there are at most 1,000,000 records, and one that is too much (CHIP 9.3, 9.8)
unfoldable pub listing : List ℕ → List ℕ
listing file = listing_from (most_records + 1) nothing_held file
