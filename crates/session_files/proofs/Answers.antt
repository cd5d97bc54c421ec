-- What a step's answer asks of whoever called it is what the listing says of it. Assumes nothing.
use Prim.Native.Nat.{ℕ}
use mathlib.Core.Path.{◌≡◌, refl, ap}
use mathlib.Core.List.{List, [], ◌∷◌}
use Rattle.std.specs.Prelude.{Option}
use Rattle.rules.specs.Rule.{Outcome, refused}
use Rattle.rules.specs.Faults.{Numbered, Fault}
use Rattle.refusals.specs.Refusal.{numbered}
use Rattle.refusals.specs.declared.Refusal.TheVariants.{StoreLength, TableLength, NormalLength, OverlayLength, OutputLength, BadState}
use Rattle.chip.specs.Write.{written}
use Rattle.chip.specs.Dots.{ran}
use Rattle.chip_timing.specs.declared.Signals.{Signals}
use Rattle.session_records.specs.declared.record.Record.TheVariants.{Write, Dots, Line}
use Rattle.session_listing.specs.Text as entry
use Rattle.session_answers.specs.Status.{listed}
use Rattle.session_rooms.specs.Rooms.{room_faults}
use Rattle.line_setup.specs.Controls.{controls_of}
use Rattle.line.specs.Cells.{lent_of}
use Rattle.line.specs.Request.{request_of}
use Rattle.line.specs.Drawn.{drawn}
use Rattle.session.specs.Held.{Held}
use Rattle.session.specs.Record.{entry_of, at_position, acted}
use Rattle.session.specs.Lent.{Rooms}
use Rattle.session.specs.Step.{step_faults}
use Rattle.session.specs.declared.session.Session.{Session}

-- the refusals of some faults
abbrev refusals_of : List Fault → List Numbered
refusals_of [] = []
refusals_of (fault ∷ faults) = fault.refusal ∷ refusals_of faults

-- the refusals of a step as a call, in order: 11, then 5 at store, table, normal row, overlay row, output
pub call_order : (session : Session) (rooms : Rooms)
    → refusals_of (step_faults session rooms)
    ≡ numbered BadState ∷ numbered StoreLength ∷ numbered TableLength ∷ numbered NormalLength ∷ numbered OverlayLength ∷ numbered OutputLength ∷ []
unfolding room_faults
call_order session rooms = refl

-- where the chip refuses, the refusal is listed
module _ (held : Held) (body : List ℕ) {refusal : Numbered} where
  -- the refusal of a write
  pub write_refused : (address value : ℕ) → (written held.chip address value).1 ≡ refused refusal
      → (acted held (Write address value) body).1 ≡ listed (entry.says_refused refusal)
  write_refused address value is = ap (λ (outcome : Outcome Numbered (Unit {0})). listed (entry_of entry.says_ok outcome)) is

  -- the refusal of dots
  pub dots_refused : (count : ℕ) → (ran held.chip count).1 ≡ refused refusal → (acted held (Dots count) body).1 ≡ listed (entry.says_refused refusal)
  dots_refused count is = ap (λ (outcome : Outcome Numbered (Option Signals)). listed (entry_of (at_position (ran held.chip count).0.0.at) outcome)) is

  -- the refusal of a line
  pub line_refused : (y : ℕ)
      → (drawn (request_of held.chip.0 y) (lent_of held.chip.1 held.table held.normal held.overlay) held.output).1 ≡ refused refusal
      → (acted held (Line y) body).1 ≡ listed (entry.says_refused refusal)
  line_refused y is = ap (λ (outcome : Outcome Numbered (Unit {0})). listed (entry_of (entry.says_line y (controls_of held.chip.0.control).width) outcome)) is
