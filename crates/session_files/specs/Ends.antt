-- Runs that reach their end record.
use Rattle.std.specs.Prelude.{ℕ, zero, suc, ◌+◌, Bool, true, false, cond, List, drop}
use Rattle.session_records.specs.Tags.{most_records}
use Rattle.session_answers.specs.Status.{Status, listed, ended, needs_more, stopped, goes_on}
use Rattle.session.specs.Held.{Held, nothing_held}
use Rattle.session.specs.Record.{stepped}
use Rattle.session.specs.Lent.{Rooms}
use Rattle.session.specs.declared.session.Session.{Session}
use Rattle.session_files.specs.Calls.{Calls, adds, moves, waits, lists, ends, stops}

-- a step found the end record
abbrev pub is_end : Status → Bool
is_end (listed entry) = false
is_end ended = true
is_end needs_more = false
is_end (stopped refusal) = false

-- one of at most so many further records is the end record
abbrev pub ends_from : ℕ → Held → List ℕ → Bool
ends_from zero held bytes = false
ends_from (suc count) held bytes =
    let step = stepped true held bytes in
    cond (goes_on step.1) (ends_from count step.0.0 (drop step.0.1 bytes)) (is_end step.1)

-- how many bytes at most so many further records take
abbrev pub taken_from : ℕ → Held → List ℕ → ℕ
taken_from zero held bytes = 0
taken_from (suc count) held bytes =
    let step = stepped true held bytes in
    step.0.1 + cond (goes_on step.1) (taken_from count step.0.0 (drop step.0.1 bytes)) 0

-- the run over these bytes reaches its end record (CHIP 9.6)
unfoldable pub reaches_end : List ℕ → Bool
reaches_end file = ends_from (most_records + 1) nothing_held file

-- the bytes of a file up to its end record, with it (CHIP 9.6)
unfoldable pub to_end : List ℕ → ℕ
to_end file = taken_from (most_records + 1) nothing_held file

-- the last of some calls finds the end record, and no fault of the file
abbrev pub finds_end : {session : Session} {rooms : Rooms} {bytes : List ℕ} {place : ℕ} {pieces : List (List ℕ)} {written : List ℕ}
    → Calls session rooms bytes place pieces written → Bool
finds_end (adds behind others) = finds_end others
finds_end (moves same others) = finds_end others
finds_end (waits is others) = finds_end others
finds_end (lists is others) = finds_end others
finds_end (ends is) = true
finds_end (stops is) = false
