-- Two calls of the line that go by the same besides the cells that they read, and what is then the same of what they leave and answer.
use Rattle.std.specs.Prelude.{ℕ, ◌≡◌, true, List, length, take, drop}
use Rattle.rules.specs.Rule.{ok, refused, reads, Agree}
use Rattle.rules.specs.Faults.{Numbered}
use Rattle.chip.specs.State.{good_state}
use Rattle.line_setup.specs.Controls.{controls_of}
use Rattle.line_setup.specs.declared.controls.Controls.{Controls}
use Rattle.line_setup.specs.declared.setup.Setup.{Setup}
use Rattle.line.specs.Cells.{Lent, view}
use Rattle.line.specs.Line.{line_rule}
use Rattle.line.specs.Drawn.{drawn}
use Rattle.line.specs.declared.request.Request.{Request}

-- ---- what both go by

-- what the control words of a call say
abbrev pub controls_in : Request → Controls
controls_in request = controls_of request.state.control

-- the same is asked for: the line's number, the control words, and whether the state keeps its rule; position and queue may be others (CHIP 7.1)
pub record SameAsked (request again : Request) : Type 0 where
  pub y : request.y ≡ again.y
  pub control : request.state.control ≡ again.state.control
  pub good : good_state request.state ≡ good_state again.state

-- the lengths of what is lent are the same; those of table and overlay row only where they are on (CHIP 7.1)
pub record SameLengths (controls : Controls) (lent other : Lent) : Type 0 where
  pub store : length lent.store ≡ length other.store
  pub table : controls.ids ≡ true → length lent.table ≡ length other.table
  pub normal : length lent.normal ≡ length other.normal
  pub overlay : controls.overlay ≡ true → length lent.overlay ≡ length other.overlay

-- both: the second call may have another state, other memory, and an output that held other words (CHIP 7.3)
pub record SameCall (request again : Request) (lent other : Lent) (output old : List ℕ) : Type 0 where
  pub asked : SameAsked request again
  pub lengths : SameLengths (controls_in request) lent other
  pub outputs : length output ≡ length old

-- two lents agree on the cells that the line reads of the first (CHIP 7.3)
abbrev pub AgreeOnReads : Setup → Lent → Lent → Type 0
AgreeOnReads setup lent other = Agree (view lent) (view other) (reads (view lent) (line_rule setup))

-- ---- what is then the same

-- what a call keeps: the state, the words past the active width, and of a refused line every word
pub record Keeps (request : Request) (lent : Lent) (output : List ℕ) : Type 0 where
  pub state : (drawn request lent output).0.0 ≡ request.state
  pub past : drop (controls_in request).width (drawn request lent output).0.1 ≡ drop (controls_in request).width output
  pub every_word : {refusal : Numbered} → (drawn request lent output).1 ≡ refused refusal → (drawn request lent output).0.1 ≡ output

-- two calls answer the same, drawn or refused by the same number at the same place; where the line is drawn they put the same words into the active width; and each keeps the rest of its own (CHIP 7.3)
pub record DrawnAlike (request again : Request) (lent other : Lent) (output old : List ℕ) : Type 0 where
  pub answers : (drawn request lent output).1 ≡ (drawn again other old).1
  pub colours :
      (drawn request lent output).1 ≡ ok tt
      → take (controls_in request).width (drawn request lent output).0.1 ≡ take (controls_in request).width (drawn again other old).0.1
  pub first_keeps : Keeps request lent output
  pub second_keeps : Keeps again other old
