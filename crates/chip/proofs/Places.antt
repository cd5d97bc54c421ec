-- What a write and a read do by where their register stands. Assumes nothing.
use Prim.Native.Nat.{ℕ}
use mathlib.Core.Path.{◌≡◌, ap, sym, ◌∙◌}
use mathlib.Core.Bool.{Bool, true, false, cond}
use Rattle.std.specs.Prelude.{Option}
use Rattle.chip_registers.specs.Store.{in_store, store_place, stored_at, stored}
use Rattle.chip_registers.specs.Access.{waits}
use Rattle.chip_registers.specs.declared.Register.{Register}
use Rattle.chip_registers.proofs.Store.{stored_place}
use Rattle.chip_queue.specs.Queue.{pushed}
use Rattle.chip_queue.specs.Waiting.{write_to}
use Rattle.chip.specs.State.{with_queue}
use Rattle.chip.specs.Call.{Chip}
use Rattle.chip.specs.Write.{put_at, put}
use Rattle.chip.specs.Read.{shows_at, register_shows}

module _ (chip : Chip) (register : Register) where
  -- a register of a block in the store shows what is stored
  pub stored_shown : in_store register.block ≡ true → register_shows chip register ≡ stored chip.1 register
  stored_shown here =
      ap (shows_at chip register) (stored_place register here) ∙ sym (ap (stored_at chip.1 register) (stored_place register here))

  module _ (value : ℕ) where
    -- a write joins the queue if it waits, else it goes to its register's place
    put_by : {waiting : Bool} → waits register ≡ waiting
        → put chip register value
        ≡ cond waiting (with_queue chip.0 (pushed chip.0.queue (write_to register value)), chip.1) (put_at chip register value (store_place register))
    put_by =
        ap (λ (waiting : Bool). cond waiting (with_queue chip.0 (pushed chip.0.queue (write_to register value)), chip.1)
        (put_at chip register value (store_place register)))

    -- a write that waits joins the queue
    pub put_waits : waits register ≡ true → put chip register value ≡ (with_queue chip.0 (pushed chip.0.queue (write_to register value)), chip.1)
    put_waits waiting = put_by waiting

    -- a write that does not wait goes to its register's place
    pub put_placed : waits register ≡ false → {place : Option ℕ} → store_place register ≡ place → put chip register value ≡ put_at chip register value place
    put_placed at_once is = put_by at_once ∙ ap (put_at chip register value) is
