-- What each record leaves in the rooms. Assumes nothing.
use Prim.Native.Nat.{ℕ, ◌+◌}
use mathlib.Core.Path.{◌≡◌, sym, ap, ◌∙◌}
use mathlib.Core.List.{List}
use lib.ListN.{length}
use lib.Seq.{paste}
use Rattle.rules.specs.Rule.{Outcome, ok}
use Rattle.rules.specs.Faults.{Numbered}
use Rattle.chip.specs.Write.{written}
use Rattle.chip.specs.Dots.{ran}
use Rattle.session_records.specs.declared.record.Record.TheVariants.{End, Write, Dots, Table, Normal, Overlay, Line}
use Rattle.session_listing.specs.Text.{says_line}
use Rattle.session_listing.specs.Text.{says_ok}
use Rattle.session_answers.specs.Status.{Status, listed, ended}
use Rattle.line_setup.specs.Controls.{controls_of}
use Rattle.line.specs.Cells.{lent_of}
use Rattle.line.specs.Request.{request_of}
use Rattle.line.specs.Drawn.{drawn}
use Rattle.session.specs.Record.{entry_of, at_position}
use Rattle.session.specs.Lent.{Rooms, rooms_of, counts_of, held_in}
use Rattle.session.specs.Inner.{counted, asked_in, HeldWithin, acted_in}
use Rattle.session.specs.declared.session.Session.{Session}
use Rattle.session.proofs.Rooms.{with_counts, back, back_chip, back_line, back_table, back_normal, back_overlay}

-- what is left, and what it comes to
abbrev Result : Type 0
Result = (Session × Rooms) × Outcome Numbered Status

module _ (session : Session) (rooms : Rooms) (body : List ℕ) (within : HeldWithin session rooms) where
  -- left so, and come to this
  abbrev come_to : Status → Session × Rooms → Result
  come_to status left = (left, ok status)

  -- the end record leaves all as it was
  pub acts_end : come_to ended (session, rooms) ≡ acted_in session rooms End body
  unfolding acted_in
  acts_end = ap (come_to ended) (sym (back session rooms within))

  -- what a call on the chip left in the store is in the rooms
  abbrev stored : (Session × List ℕ) × Outcome Numbered Status → Result
  stored left = ((left.0.0, rooms_of left.0.1 rooms.table rooms.normal rooms.overlay rooms.output), left.1)

  -- a write leaves the state and the store of the chip
  pub acts_write : (address value : ℕ) {left : (Session × List ℕ) × Outcome Numbered Status}
      → left ≡ asked_in session says_ok (written (session.state, rooms.store) address value)
      → stored left ≡ acted_in session rooms (Write address value) body
  unfolding acted_in
  acts_write address value is =
      let after = written (session.state, rooms.store) address value in
      ap stored is ∙ ap (come_to (listed (entry_of says_ok after.1))) (sym (back_chip session rooms within after.0))

  -- dots leave the state and the store of the chip
  pub acts_dots : (count : ℕ) {left : (Session × List ℕ) × Outcome Numbered Status}
      → left ≡ asked_in session (at_position (ran (session.state, rooms.store) count).0.0.at) (ran (session.state, rooms.store) count)
      → stored left ≡ acted_in session rooms (Dots count) body
  unfolding acted_in
  acts_dots count is =
      let after = ran (session.state, rooms.store) count in
      ap stored is ∙ ap (come_to (listed (entry_of (at_position after.0.0.at) after.1))) (sym (back_chip session rooms within after.0))

  -- table bytes stand behind those that were there
  pub acts_table :
      come_to (listed says_ok) (
        counted (with_counts session (counts_of (session.counts.table + length body) session.counts.normal session.counts.overlay)),
        rooms_of rooms.store (paste rooms.table session.counts.table body (length body)) rooms.normal rooms.overlay rooms.output,
      )
      ≡ acted_in session rooms Table body
  unfolding acted_in
  acts_table = ap (come_to (listed says_ok)) (sym (back_table session rooms within body))

  -- a normal row stands at the front of its room
  pub acts_normal :
      come_to (listed says_ok) (
        counted (with_counts session (counts_of session.counts.table (length body) session.counts.overlay)),
        rooms_of rooms.store rooms.table (paste rooms.normal 0 body (length body)) rooms.overlay rooms.output,
      )
      ≡ acted_in session rooms Normal body
  unfolding acted_in
  acts_normal = ap (come_to (listed says_ok)) (sym (back_normal session rooms within body))

  -- an overlay row stands at the front of its room
  pub acts_overlay :
      come_to (listed says_ok) (
        counted (with_counts session (counts_of session.counts.table session.counts.normal (length body))),
        rooms_of rooms.store rooms.table rooms.normal (paste rooms.overlay 0 body (length body)) rooms.output,
      )
      ≡ acted_in session rooms Overlay body
  unfolding acted_in
  acts_overlay = ap (come_to (listed says_ok)) (sym (back_overlay session rooms within body))

  -- what a line left in the output is in the rooms
  abbrev shown : (Session × List ℕ) × Outcome Numbered Status → Result
  shown left = ((left.0.0, rooms_of rooms.store rooms.table rooms.normal rooms.overlay left.0.1), left.1)

  -- a line leaves the state and the output
  pub acts_line : (y : ℕ) {left : (Session × List ℕ) × Outcome Numbered Status}
      → let held = held_in session rooms in
      let after = drawn (request_of session.state y) (lent_of rooms.store held.table held.normal held.overlay) rooms.output in
      left ≡ asked_in session (says_line y (controls_of session.state.control).width) after
      → shown left ≡ acted_in session rooms (Line y) body
  unfolding acted_in
  acts_line y is =
      let held = held_in session rooms in
      let after = drawn (request_of session.state y) (lent_of rooms.store held.table held.normal held.overlay) rooms.output in
      ap shown is
      ∙ ap (come_to (listed (entry_of (says_line y (controls_of session.state.control).width) after.1)))
      (sym (back_line session rooms within (after.0.0, rooms.store) after.0.1))
