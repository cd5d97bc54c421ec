-- What keeps its rule, and what is not refused by 11.
use Rattle.std.specs.Prelude.{◌≡◌, true}
use Rattle.chip.specs.State.{good_state}
use Rattle.session_listing.specs.Text.{EntrySays, says_ok, says_at, says_line, says_refused}
use Rattle.session_answers.specs.Status.{Status, listed, ended, needs_more, stopped}
use Rattle.session.specs.Held.{Held}

-- the chip's state that is held keeps its rule
abbrev pub GoodHeld : Held → Type 0
GoodHeld held = good_state held.chip.0 ≡ true

-- an entry is no refusal by 11 (CHIP 8.4)
abbrev pub EntryNot11 : EntrySays → Type 0
EntryNot11 says_ok = Unit {0}
EntryNot11 (says_at x y) = Unit {0}
EntryNot11 (says_line y width) = Unit {0}
EntryNot11 (says_refused refusal) = refusal.number ≡ 11 → ⊥

-- what a step comes to lists no refusal by 11 (CHIP 8.4)
abbrev pub StatusNot11 : Status → Type 0
StatusNot11 (listed entry) = EntryNot11 entry
StatusNot11 ended = Unit {0}
StatusNot11 needs_more = Unit {0}
StatusNot11 (stopped refusal) = refusal.number ≡ 11 → ⊥
