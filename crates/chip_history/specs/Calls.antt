-- A sequence of calls, each lent the state and the store that the one before left.
use Rattle.std.specs.Prelude.{ℕ, ◌≡◌, List, [], ◌∷◌, length}
use Rattle.rules.specs.Rule.{refused}
use Rattle.rules.specs.Faults.{Numbered, Fault}
use Rattle.chip.specs.Call.{Chip, call_faults}
use Rattle.chip.specs.Write.{write_faults, written}
use Rattle.chip.specs.Read.{read_faults, read_back}
use Rattle.chip.specs.Dot.{dotted}
use Rattle.chip.specs.Dots.{ran}

-- a call on the chip
pub data Call : Type 0 where
  -- a register write, of an address and a value
  write : ℕ → ℕ → Call
  -- a register read, of an address
  read : ℕ → Call
  -- one dot
  dot : Call
  -- a run of so many dots
  dots : ℕ → Call
  -- a line, which changes neither state nor store
  line : Call

-- what a call leaves, refused or not (CHIP 3.8)
unfoldable pub left_by : Chip → Call → Chip
left_by chip (write address value) = (written chip address value).0
left_by chip (read address) = (read_back chip address).0
left_by chip dot = (dotted chip).0
left_by chip (dots count) = (ran chip count).0
left_by chip line = chip

-- the faults that a call looks for, in order; a line's are not said here
abbrev pub faults_of : Chip → Call → List Fault
faults_of chip (write address value) = write_faults chip address value
faults_of chip (read address) = read_faults chip address
faults_of chip dot = call_faults chip.0 (length chip.1)
faults_of chip (dots count) = call_faults chip.0 (length chip.1)
faults_of chip line = []

-- a call is refused so; of a line nothing is said here
abbrev pub RefusedBy : Chip → Call → Numbered → Type 0
RefusedBy chip (write address value) refusal = (written chip address value).1 ≡ refused refusal
RefusedBy chip (read address) refusal = (read_back chip address).1 ≡ refused refusal
RefusedBy chip dot refusal = (dotted chip).1 ≡ refused refusal
RefusedBy chip (dots count) refusal = (ran chip count).1 ≡ refused refusal
RefusedBy chip line refusal = ⊥

-- what some calls leave (CHIP 3.8)
unfoldable pub end : Chip → List Call → Chip
end chip [] = chip
end chip (call ∷ calls) = end (left_by chip call) calls
