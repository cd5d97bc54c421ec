-- The store: it has room for every word of its blocks, and no other word stands on a map entry. Assumes nothing.
use Prim.Native.Nat.{ℕ, ◌+◌, ◌≤◌, ◌<◌}
use mathlib.Core.Path.{◌≡◌, refl, ap, sym}
use mathlib.Core.Bool.{Bool, true, cond}
use native.Mathlib.Omega.{arith}
use Rattle.std.specs.Prelude.{Some, None}
use Rattle.rules.proofs.Cases.{impossible}
use Rattle.chip_registers.specs.Blocks.{count}
use Rattle.chip_registers.specs.Store.{in_store, store_start, store_length, store_place}
use Rattle.chip_registers.specs.declared.Block.{Block}
use Rattle.chip_registers.specs.declared.Block.TheVariants.{Control, WindowEntries, ColourMap, GammaMap, CursorGlyph, CursorColours}
use Rattle.chip_registers.specs.declared.Register.{Register}

-- the store has 4,963 words
pub store_length_is : store_length ≡ 4963
store_length_is = refl

-- where each block starts: behind the words of those before it in the table, so that no two stand on one word
pub store_starts :
    (store_start WindowEntries ≡ 0) × (store_start ColourMap ≡ 32) × (store_start GammaMap ≡ 4640) × (store_start CursorGlyph ≡ 4896) × (store_start CursorColours ≡ 4960)
store_starts = (refl, refl, refl, refl, refl)

-- no block starts past the end of the store
pub start_le : (block : Block) → store_start block ≤ store_length
start_le Control = omega arith
start_le WindowEntries = omega arith
start_le ColourMap = omega arith
start_le GammaMap = omega arith
start_le CursorGlyph = omega arith
start_le CursorColours = omega arith

-- block by block, a word stands in the store
index_below : (block : Block) (word : ℕ) → in_store block ≡ true → word < count block → store_start block + word < store_length
index_below Control word stored h = impossible (cc)
index_below WindowEntries word stored h = omega arith
index_below ColourMap word stored h = omega arith
index_below GammaMap word stored h = omega arith
index_below CursorGlyph word stored h = omega arith
index_below CursorColours word stored h = omega arith

-- block by block, a register that has a place in the store is of a block that is in it, and stands so many words behind the block's start
place_of : (block : Block) (word index : ℕ) → store_place (record { block = block; word = word }) ≡ Some index → (in_store block ≡ true) × (store_start block + word ≡ index)
place_of Control word index at = impossible (cc)
place_of WindowEntries word index at = (refl, cc)
place_of ColourMap word index at = (refl, cc)
place_of GammaMap word index at = (refl, cc)
place_of CursorGlyph word index at = (refl, cc)
place_of CursorColours word index at = (refl, cc)

-- a register's place in the store is one of its words
pub place_below : (register : Register) (index : ℕ) → store_place register ≡ Some index → register.word < count register.block → index < store_length
place_below register index at here =
    let there = place_of register.block register.word index at in
    rw (sym there.1) (index_below register.block register.word there.0 here)

-- a register of a block in the store has a place there
pub stored_place : (register : Register) → in_store register.block ≡ true → store_place register ≡ Some (store_start register.block + register.word)
stored_place register here = ap (λ (stored : Bool). cond stored (Some (store_start register.block + register.word)) None) here

-- a register that stands nowhere in the store is a control word
pub nowhere_control : (block : Block) (word : ℕ) → store_place (record { block = block; word = word }) ≡ None → block ≡ Control
nowhere_control Control word none = refl
nowhere_control WindowEntries word none = impossible (cc)
nowhere_control ColourMap word none = impossible (cc)
nowhere_control GammaMap word none = impossible (cc)
nowhere_control CursorGlyph word none = impossible (cc)
nowhere_control CursorColours word none = impossible (cc)

-- block by block, no word stands on a map entry
index_apart : (block : Block) (word entry : ℕ) → in_store block ≡ true → (block ≡ ColourMap → ⊥) → word < count block → entry < count ColourMap → store_start block + word ≡ store_start ColourMap + entry → ⊥
index_apart Control word entry stored other h k e = impossible (cc)
index_apart WindowEntries word entry stored other h k e = omega arith
index_apart ColourMap word entry stored other h k e = other refl
index_apart GammaMap word entry stored other h k e = omega arith
index_apart CursorGlyph word entry stored other h k e = omega arith
index_apart CursorColours word entry stored other h k e = omega arith

module _ (register : Register) (entry : ℕ) (stored : in_store register.block ≡ true) (other : register.block ≡ ColourMap → ⊥) (h : register.word < count register.block) (k : entry < count ColourMap) where
  -- no word of another block stands on a map entry
  pub map_entry_apart : store_start register.block + register.word ≡ store_start ColourMap + entry → ⊥
  map_entry_apart = index_apart register.block register.word entry stored other h k
