-- What a record does, and what comes of the record at the front of some bytes.
use Rattle.std.specs.Prelude.{ℕ, ◌+◌, Bool, List, ◌++◌, length, Option}
use Rattle.rules.specs.Rule.{Outcome, ok, refused}
use Rattle.rules.specs.Faults.{Numbered}
use Rattle.refusals.specs.Refusal.{numbered}
use Rattle.chip_timing.specs.declared.Position.{Position}
use Rattle.chip.specs.Call.{Chip}
use Rattle.chip.specs.Write.{written}
use Rattle.chip.specs.Dots.{ran}
use Rattle.chip.specs.declared.state.State.{State}
use Rattle.chip_timing.specs.declared.Signals.{Signals}
use Rattle.session_records.specs.Parts.{body_of}
use Rattle.session_records.specs.RecordAt.{record_at}
use Rattle.session_records.specs.declared.record.Record.{Record}
use Rattle.session_records.specs.declared.record.Record.TheVariants.{End, Write, Dots, Table, Normal, Overlay, Line}
use Rattle.session_records.specs.declared.record.Context.{Context}
use Rattle.session_records.specs.declared.record.RecordAt.{RecordAt}
use Rattle.session_records.specs.declared.record.RecordAt.TheVariants.{Is, More, Refused}
use Rattle.session_listing.specs.Text.{EntrySays, says_at, says_line}
use Rattle.session_listing.specs.Text as text
use Rattle.session_answers.specs.Status.{Status, listed, ended, needs_more, stopped}
use Rattle.line_setup.specs.Controls.{controls_of}
use Rattle.line.specs.Cells.{lent_of}
use Rattle.line.specs.Request.{request_of}
use Rattle.line.specs.Drawn.{drawn}
use Rattle.session.specs.Held.{Held, with_chip, with_table, with_normal, with_overlay, with_line}

-- the entry of a call: this one where it is done, else its refusal (CHIP 9.5)
abbrev pub entry_of : {A : Type 0} → EntrySays → Outcome Numbered A → EntrySays
entry_of entry (ok answer) = entry
entry_of entry (refused refusal) = text.says_refused refusal

-- the entry of dots: the position after them (CHIP 9.7)
abbrev pub at_position : Position → EntrySays
at_position position = says_at position.x position.y

-- a write (CHIP 9.7)
abbrev pub wrote : Held → Chip × Outcome Numbered (Unit {0}) → Held × Status
wrote held after = (with_chip held after.0, listed (entry_of text.says_ok after.1))

-- some dots (CHIP 9.7)
abbrev pub ran_dots : Held → Chip × Outcome Numbered (Option Signals) → Held × Status
ran_dots held after = (with_chip held after.0, listed (entry_of (at_position after.0.0.at) after.1))

-- a line
abbrev pub drew : Held → ℕ → (State × List ℕ) × Outcome Numbered (Unit {0}) → Held × Status
drew held y after = (
  with_line held (after.0.0, held.chip.1) after.0.1,
  listed (entry_of (says_line y (controls_of held.chip.0.control).width) after.1),
)

-- what a record with this body leaves, and what it comes to. Table bytes are appended, a row is replaced; the end record lists nothing and ends the run (CHIP 9.2, 9.5)
abbrev pub acted : Held → Record → List ℕ → Held × Status
acted held End body = (held, ended)
acted held (Write address value) body = wrote held (written held.chip address value)
acted held (Dots count) body = ran_dots held (ran held.chip count)
acted held Table body = (with_table held (held.table ++ body), listed text.says_ok)
acted held Normal body = (with_normal held body, listed text.says_ok)
acted held Overlay body = (with_overlay held body, listed text.says_ok)
acted held (Line y) body =
    drew held y
    (drawn (request_of held.chip.0 y) (lent_of held.chip.1 held.table held.normal held.overlay) held.output)

-- what comes of what was found: what is held, how many bytes were taken, and what it comes to. Without a record all is as it was (CHIP 8.1, 9.1)
abbrev pub status_by : Held → List ℕ → RecordAt → (Held × ℕ) × Status
status_by held bytes (Is which count) =
    let after = acted held which (body_of bytes) in ((after.0, 3 + count), after.1)
status_by held bytes More = ((held, 0), needs_more)
status_by held bytes (Refused refusal) = ((held, 0), stopped (numbered refusal))

-- what a record is judged by
abbrev pub context_of : Held → Bool → Context
context_of held last = record { number = held.records; table = length held.table; last = last }

-- one step, at bytes with which the file ends or not (CHIP 9.5, 9.8)
unfoldable pub stepped : Bool → Held → List ℕ → (Held × ℕ) × Status
stepped last held bytes = status_by held bytes (record_at (context_of held last) bytes)
