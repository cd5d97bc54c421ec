-- What reads answer after an accepted write: its own address its value at once, or the room one less where it waits; every other read what it did. Assumes nothing.
use Prim.Native.Nat.{ℕ, ◌+◌, ◌-◌, ◌%◌, ◌^◌, ◌≤◌, ◌<◌}
use mathlib.Core.Path.{◌≡◌, refl, ap, sym, ◌∙◌}
use mathlib.Core.Bool.{Bool, true, false, ◌&&◌}
use native.Mathlib.Omega.{arith}
use lib.ListN.{length}
use Rattle.std.specs.Prelude.{Option, Some, None}
use Rattle.rules.specs.Rule.{ok}
use Rattle.chip_registers.specs.Blocks.{count}
use Rattle.chip_registers.specs.Named.{named}
use Rattle.chip_registers.specs.Access.{waits_in, waits}
use Rattle.chip_registers.specs.declared.Block.{Block}
use Rattle.chip_registers.specs.declared.Block.TheVariants.{Control, WindowEntries, ColourMap, GammaMap, CursorGlyph, CursorColours}
use Rattle.chip_registers.specs.declared.Register.{Register}
use Rattle.chip_registers.proofs.Naming.{named_word}
use Rattle.chip_registers.proofs.Map.{register_in, named_listed, listed_named}
use Rattle.chip_queue.specs.Queue.{full}
use Rattle.chip_queue.specs.Waiting.{write_to}
use Rattle.chip_queue.specs.declared.Queue.{Queue}
use Rattle.chip_queue.proofs.Order.{pushed_is}
use Rattle.chip.specs.State.{HasArrays}
use Rattle.chip.specs.Call.{Chip}
use Rattle.chip.specs.Write.{put, written}
use Rattle.chip.specs.Read.{control_shows_by, register_shows, read_back}
use Rattle.chip.proofs.Places.{put_waits}
use Rattle.chip.proofs.Good.{not_full, put_length, put_good}
use Rattle.chip.proofs.CallCheck.{GoesOn, says_allowed}
use Rattle.chip.proofs.Readings.{read_nowhere, read_shown}
use Rattle.chip.proofs.Accepted.{AcceptedWrite, accepted_write}
use Rattle.chip.proofs.PutShown.{put_shown, put_elsewhere, wait_elsewhere}

-- an address of the colour map: one of its 4,608 words from 0x020000 on, whatever bits 31..24 are
abbrev pub InColourMap : ℕ → Type 0
InColourMap address = (0x020000 ≤ address % 2 ^ 24) × (address % 2 ^ 24 < 0x024800)

-- a write to an address of the colour map waits, block by block
in_map_waits : (block : Block) (word address : ℕ) → named address ≡ Some (register_in block word) → InColourMap address → waits_in block ≡ true
in_map_waits Control word address names in_map = let here = named_listed Control word address names in absurd (omega arith)
in_map_waits WindowEntries word address names in_map = let here = named_listed WindowEntries word address names in absurd (omega arith)
in_map_waits ColourMap word address names in_map = refl
in_map_waits GammaMap word address names in_map = let here = named_listed GammaMap word address names in absurd (omega arith)
in_map_waits CursorGlyph word address names in_map = let here = named_listed CursorGlyph word address names in absurd (omega arith)
in_map_waits CursorColours word address names in_map = let here = named_listed CursorColours word address names in absurd (omega arith)

-- a write to any other address acts at once, block by block
elsewhere_at_once : (block : Block) (word address : ℕ) → named address ≡ Some (register_in block word) → (InColourMap address → ⊥) → waits_in block ≡ false
elsewhere_at_once Control word address names elsewhere = refl
elsewhere_at_once WindowEntries word address names elsewhere = refl
elsewhere_at_once ColourMap word address names elsewhere = let here = named_listed ColourMap word address names in absurd (elsewhere (omega arith))
elsewhere_at_once GammaMap word address names elsewhere = refl
elsewhere_at_once CursorGlyph word address names elsewhere = refl
elsewhere_at_once CursorColours word address names elsewhere = refl

-- chips with which calls may go on answer a read alike where what it names shows the same
same_read : (chip after : Chip) (other : ℕ) → GoesOn chip → GoesOn after
    → ((register : Register) → named other ≡ Some register → register_shows after register ≡ register_shows chip register)
    → (read_back after other).1 ≡ (read_back chip other).1
same_read chip after other on on' shows = by (named other) refl
  where
    -- by what the address names
    by : (what : Option Register) → named other ≡ what → (read_back after other).1 ≡ (read_back chip other).1
    by (Some register) e =
        ap (λ all. all.1) (read_shown after other on' register e)
        ∙ ap ok (shows register e)
        ∙ sym (ap (λ all. all.1) (read_shown chip other on register e))
    by None e = ap (λ all. all.1) (read_nowhere after other on' e) ∙ sym (ap (λ all. all.1) (read_nowhere chip other on e))

-- a read of control word 9 shows 64 less waiting
room_shown : (chip : Chip) (other : ℕ) → GoesOn chip → other % 2 ^ 24 ≡ 0x24 → (read_back chip other).1 ≡ ok (64 - chip.0.queue.waiting)
unfolding control_shows_by
room_shown chip other on is = ap (λ all. all.1) (read_shown chip other on (register_in Control 9) (listed_named Control 9 other (omega arith)))

module _ (chip : Chip) (address value : ℕ) (whole : HasArrays chip.0) (done : (written chip address value).1 ≡ ok tt) where
  -- why the write was accepted
  accepted : AcceptedWrite chip address value
  accepted = accepted_write chip address value done

  -- the register that it went to
  abbrev to : Register
  to = accepted.register

  -- that register is a word of its block
  to_word : to.word < count to.block
  to_word = named_word address to accepted.names

  -- calls could go on before the write
  before_on : GoesOn chip
  before_on = says_allowed chip.0 (length chip.1) accepted.good accepted.size

  -- calls can go on after the write
  after_on : GoesOn (put chip to value)
  after_on =
      says_allowed (put chip to value).0 (length (put chip to value).1)
      (put_good chip to value whole accepted.free accepted.good to_word accepted.fine)
      (put_length chip to value ∙ accepted.size)

  module _ (elsewhere : InColourMap address → ⊥) where
    -- the write acts at once
    at_once : waits to ≡ false
    at_once = elsewhere_at_once to.block to.word address accepted.names elsewhere

    -- an accepted write to any address but the colour map's is what a read of that address shows afterwards
    pub write_shown : (read_back (written chip address value).0 address).1 ≡ ok value
    write_shown =
        ap (λ (after : Chip). (read_back after address).1) accepted.left
        ∙ ap (λ all. all.1) (read_shown (put chip to value) address after_on to accepted.names)
        ∙ ap ok (put_shown chip to value at_once whole.0 accepted.size to_word accepted.writable accepted.fine)

    -- every read of another address answers as before that write, its refusal too
    pub write_elsewhere : (other : ℕ) → (other % 2 ^ 24 ≡ address % 2 ^ 24 → ⊥) → (read_back (written chip address value).0 other).1 ≡ (read_back chip other).1
    write_elsewhere other differs =
        ap (λ (after : Chip). (read_back after other).1) accepted.left
        ∙ same_read chip (put chip to value) other before_on after_on
        (λ register names. put_elsewhere chip to value at_once address other register accepted.names names differs)

  module _ (in_map : InColourMap address) where
    -- the write waits
    waiting : waits to ≡ true
    waiting = in_map_waits to.block to.word address accepted.names in_map

    -- an accepted write to the colour map leaves every read as it was but that of the room at 0x24: a read of its own address too
    pub waiting_elsewhere : (other : ℕ) → (other % 2 ^ 24 ≡ 0x24 → ⊥) → (read_back (written chip address value).0 other).1 ≡ (read_back chip other).1
    waiting_elsewhere other differs =
        ap (λ (after : Chip). (read_back after other).1) accepted.left
        ∙ same_read chip (put chip to value) other before_on after_on (λ register names. wait_elsewhere chip to value waiting other register names differs)

    -- there was room for that write
    some_room : chip.0.queue.waiting < 64
    some_room = not_full chip.0.queue (ap (λ (waiting : Bool). waiting && full chip.0.queue) (sym waiting) ∙ accepted.free)

    -- one more waits after it
    one_more : (put chip to value).0.queue.waiting ≡ chip.0.queue.waiting + 1
    one_more =
        ap (λ (after : Chip). after.0.queue.waiting) (put_waits chip to value waiting)
        ∙ ap (λ (queue : Queue). queue.waiting) (pushed_is chip.0.queue (write_to to value) some_room)

    -- and the room shows one less: it showed some
    pub waiting_room : (other free : ℕ) → other % 2 ^ 24 ≡ 0x24 → (read_back chip other).1 ≡ ok free
        → (0 < free) × ((read_back (written chip address value).0 other).1 ≡ ok (free - 1))
    waiting_room other free is shown =
        let before = room_shown chip other before_on is in
        let showed : free ≡ 64 - chip.0.queue.waiting = cc in
        let less : 64 - (put chip to value).0.queue.waiting ≡ free - 1 = omega (arith, one_more, some_room) in (
          omega (arith, some_room),
          ap (λ (after : Chip). (read_back after other).1) accepted.left ∙ room_shown (put chip to value) other after_on is ∙ ap ok less,
        )
