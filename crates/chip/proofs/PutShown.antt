-- What registers show after a value was put: its own register the value, every other what it showed. Assumes nothing.
use Prim.Native.Nat.{ℕ, ◌+◌, ◌*◌, ◌<◌}
use mathlib.Core.Path.{◌≡◌, refl, ap, sym, ◌∙◌}
use mathlib.Core.Bool.{true, false}
use native.Mathlib.Omega.{arith}
use borrow.Author.Tests.{leb-false, ne_eqb}
use lib.ListN.{length}
use lib.Seq.{get_or-set_same, get_or-set_other}
use Rattle.std.specs.Prelude.{Option, Some, None}
use Rattle.chip_registers.specs.Blocks.{start, count}
use Rattle.chip_registers.specs.Named.{address_place, named}
use Rattle.chip_registers.specs.Kept.{kept_of, fits}
use Rattle.chip_registers.specs.Store.{store_length, store_place}
use Rattle.chip_registers.specs.Access.{read_only, waits}
use Rattle.chip_registers.specs.declared.Block.{Block}
use Rattle.chip_registers.specs.declared.Block.TheVariants.{Control}
use Rattle.chip_registers.specs.declared.Register.{Register}
use Rattle.chip_registers.proofs.Naming.{named_place}
use Rattle.chip_registers.proofs.Kept.{fits_kept}
use Rattle.chip_registers.proofs.Store.{place_below, nowhere_control}
use Rattle.chip_registers.proofs.Apart.{apart}
use Rattle.chip_queue.specs.Queue.{pushed}
use Rattle.chip_queue.specs.Waiting.{write_to}
use Rattle.chip.specs.State.{with_word, with_queue}
use Rattle.chip.specs.Call.{Chip}
use Rattle.chip.specs.Write.{put_at, put}
use Rattle.chip.specs.Read.{control_shows_by, control_shows, shows_at, register_shows}
use Rattle.chip.specs.declared.state.State.{State}
use Rattle.chip.proofs.Places.{put_waits, put_placed}

-- a control word that can be written is one of the first nine
writable_word : (block : Block) (word : ℕ) → block ≡ Control → read_only (record { block = block; word = word }) ≡ false → word < 9
writable_word block word control writable = leb-false 9 word (rw control at writable)

-- a control word of an address stands at four times its number
control_place : (address : ℕ) (register : Register) → named address ≡ Some register → register.block ≡ Control → address_place address ≡ 4 * register.word
control_place address register names control =
    let there : address_place address ≡ start Control + 4 * register.word = rw control at (named_place address register names) in
    omega arith

module _ (state : State) (word value : ℕ) where
  -- a control word that was written shows its value
  word_shown : length state.control ≡ 9 → word < 9 → control_shows (with_word state word value) word ≡ value
  unfolding control_shows_by
  word_shown nine small = rw (ne_eqb word 9 (omega arith), ne_eqb word 10 (omega arith)) (get_or-set_same state.control word value 0 (omega arith))

  -- every other control word shows what it did, and so do the room and the position
  word_elsewhere : (other : ℕ) → (other ≡ word → ⊥) → control_shows (with_word state word value) other ≡ control_shows state other
  unfolding control_shows_by
  word_elsewhere other apart = rw (get_or-set_other state.control word other value 0 apart)

module _ (chip : Chip) (register : Register) (value : ℕ) where
  module _ (at_once : waits register ≡ false) where
    -- a value that was put at once is what its register shows
    pub put_shown : length chip.0.control ≡ 9 → length chip.1 ≡ store_length → register.word < count register.block
        → read_only register ≡ false → fits register value ≡ true → register_shows (put chip register value) register ≡ value
    put_shown nine size here writable fine = by (store_place register) refl
      where
        -- by where the register stands
        by : (place : Option ℕ) → store_place register ≡ place → register_shows (put chip register value) register ≡ value
        by (Some index) at =
            ap (λ (after : Chip). register_shows after register) (put_placed chip register value at_once at)
            ∙ ap (shows_at (put_at chip register value (Some index)) register) at
            ∙ ap (kept_of register) (get_or-set_same chip.1 index value 0 (rw size (place_below register index at here)))
            ∙ fits_kept register value fine
        by None none =
            ap (λ (after : Chip). register_shows after register) (put_placed chip register value at_once none)
            ∙ ap (shows_at (put_at chip register value None) register) none
            ∙ word_shown chip.0 register.word value nine
            (writable_word register.block register.word (nowhere_control register.block register.word none) writable)

    -- what other addresses name shows what it did
    pub put_elsewhere : (address other : ℕ) (register' : Register) → named address ≡ Some register → named other ≡ Some register'
        → (address_place other ≡ address_place address → ⊥) → register_shows (put chip register value) register' ≡ register_shows chip register'
    put_elsewhere address other register' names names' differs = by (store_place register) (store_place register') refl refl
      where
        -- by where the two registers stand
        by : (place place' : Option ℕ) → store_place register ≡ place → store_place register' ≡ place'
            → register_shows (put chip register value) register' ≡ register_shows chip register'
        by (Some index) (Some index') at at' =
            ap (λ (after : Chip). register_shows after register') (put_placed chip register value at_once at)
            ∙ ap (shows_at (put_at chip register value (Some index)) register') at'
            ∙ ap (kept_of register')
            (get_or-set_other chip.1 index index' value 0 (λ same. differs (apart other address register' register names' names index (at' ∙ ap Some same) at).0))
            ∙ sym (ap (shows_at chip register') at')
        by (Some index) None at none' =
            ap (λ (after : Chip). register_shows after register') (put_placed chip register value at_once at)
            ∙ ap (shows_at (put_at chip register value (Some index)) register') none'
            ∙ sym (ap (shows_at chip register') none')
        by None (Some index') none at' =
            ap (λ (after : Chip). register_shows after register') (put_placed chip register value at_once none)
            ∙ ap (shows_at (put_at chip register value None) register') at'
            ∙ sym (ap (shows_at chip register') at')
        by None None none none' =
            let here = control_place address register names (nowhere_control register.block register.word none) in
            let there = control_place other register' names' (nowhere_control register'.block register'.word none') in
            ap (λ (after : Chip). register_shows after register') (put_placed chip register value at_once none)
            ∙ ap (shows_at (put_at chip register value None) register') none'
            ∙ word_elsewhere chip.0 register.word value register'.word (λ same. differs (omega arith))
            ∙ sym (ap (shows_at chip register') none')

  module _ (waiting : waits register ≡ true) where
    -- the chip with the write in its queue
    abbrev joined_queue : Chip
    joined_queue = (with_queue chip.0 (pushed chip.0.queue (write_to register value)), chip.1)

    -- no control word but the room goes by the queue
    room_apart : (word : ℕ) → (word ≡ 9 → ⊥) → control_shows joined_queue.0 word ≡ control_shows chip.0 word
    unfolding control_shows_by
    room_apart word other = rw (ne_eqb word 9 other)

    -- a write that joins the queue leaves what every register shows but the room
    pub wait_elsewhere : (other : ℕ) (register' : Register) → named other ≡ Some register' → (address_place other ≡ 0x24 → ⊥)
        → register_shows (put chip register value) register' ≡ register_shows chip register'
    wait_elsewhere other register' names' differs = by (store_place register') refl
      where
        -- by where the register stands
        by : (place : Option ℕ) → store_place register' ≡ place → register_shows (put chip register value) register' ≡ register_shows chip register'
        by (Some index) at =
            ap (λ (after : Chip). register_shows after register') (put_waits chip register value waiting)
            ∙ ap (shows_at joined_queue register') at
            ∙ sym (ap (shows_at chip register') at)
        by None none =
            let there = control_place other register' names' (nowhere_control register'.block register'.word none) in
            ap (λ (after : Chip). register_shows after register') (put_waits chip register value waiting)
            ∙ ap (shows_at joined_queue register') none
            ∙ room_apart register'.word (λ same. differs (omega arith))
            ∙ sym (ap (shows_at chip register') none)
