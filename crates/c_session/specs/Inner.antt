-- What the functions inside say.
use Rattle.std.specs.Prelude.{ℕ, List, unwrap_or}
use Rattle.rules.specs.Rule.{Outcome, ok, refused}
use Rattle.rules.specs.Faults.{Numbered}
use Rattle.c_numbers.specs.Numbers.{refused_by}
use Rattle.c_numbers.specs.declared.Refused.{Refused}
use Rattle.session_listing.specs.Text.{EntrySays}
use Rattle.session_listing.specs.Text as entry
use Rattle.session_listing.specs.Room.{rendered}
use Rattle.session_answers.specs.Status.{Status, listed, ended, needs_more, stopped}
use Rattle.c_session.specs.Steps.{short_text}

-- an entry rendered to the front: how many bytes were put, and the lent bytes after it
abbrev pub put_entry : EntrySays → List ℕ → List ℕ → ℕ × List ℕ
put_entry entry output lent = let after = rendered entry output lent 0 in (unwrap_or after.0 0, after.1)

-- the text of what a call comes to, put at the front: how many bytes, and the lent bytes after it
abbrev pub put_text : Outcome Numbered Status → List ℕ → List ℕ → ℕ × List ℕ
put_text (ok (listed entry)) output lent = put_entry entry output lent
put_text (ok ended) output lent = (0, lent)
put_text (ok needs_more) output lent = (0, lent)
put_text (ok (stopped refusal)) output lent = put_entry (entry.says_refused refusal) output lent
put_text (refused refusal) output lent = (0, lent)

-- the refusal by the rooms, or else that by the text
abbrev pub or_text : Outcome Numbered (Unit {0}) → Refused
or_text (ok answer) = refused_by short_text
or_text (refused refusal) = refused_by refusal
