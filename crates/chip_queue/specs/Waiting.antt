-- A colour write that waits: when it may, and where it goes.
use Rattle.std.specs.Prelude.{ℕ, ◌+◌, Bool, ◌&&◌, ltb}
use Rattle.chip_registers.specs.Blocks.{count}
use Rattle.chip_registers.specs.Kept.{fits}
use Rattle.chip_registers.specs.Store.{store_start}
use Rattle.chip_registers.specs.declared.Block.TheVariants.{ColourMap}
use Rattle.chip_registers.specs.declared.Register.{Register}
use Rattle.chip_queue.specs.declared.Waiting.{Waiting}

-- the register that a write that waits is for: a colour entry (CHIP 3.6)
abbrev pub register_of : Waiting → Register
register_of write = record { block = ColourMap; word = write.word }

-- the write of a value that waits for a register (CHIP 3.6)
abbrev pub write_to : Register → ℕ → Waiting
write_to register value = record { word = register.word; value = value }

-- there is such a register, and the write has no bits but those that it keeps (CHIP 8.4)
unfoldable pub good_write : Waiting → Bool
good_write write = ltb write.word (count (register_of write).block) && fits (register_of write) write.value

-- where a write that waits goes in the store (CHIP 3.6)
abbrev pub target : Waiting → ℕ
target write = store_start (register_of write).block + (register_of write).word
