-- The register map in the paper's own numbers, none of them taken from the table of blocks: which addresses name what, where each word stands in the store, what can only be read, and which writes wait. Assumes nothing.
use Prim.Native.Nat.{ℕ, ◌+◌, ◌*◌, ◌%◌, ◌^◌, ◌<◌}
use mathlib.Core.Path.{◌≡◌, refl, sym, ap, ◌∙◌}
use mathlib.Core.Bool.{true, false}
use native.Mathlib.Omega.{arith}
use borrow.Author.Tests.{lt-leb}
use Rattle.std.specs.Prelude.{Option, Some, None}
use Rattle.chip_registers.specs.Blocks.{start, count}
use Rattle.chip_registers.specs.Named.{named}
use Rattle.chip_registers.specs.Store.{store_place}
use Rattle.chip_registers.specs.Access.{read_only, waits}
use Rattle.chip_registers.specs.declared.Block.{Block}
use Rattle.chip_registers.specs.declared.Block.TheVariants.{Control, WindowEntries, ColourMap, GammaMap, CursorGlyph, CursorColours}
use Rattle.chip_registers.specs.declared.Register.{Register}
use Rattle.chip_registers.proofs.Naming.{named_top_byte, named_word, named_place, stored_at}

-- the register that is a word of a block
abbrev pub register_in : Block → ℕ → Register
register_in block word = record { block = block; word = word }

-- by the paper's table, a block has such a word, and it stands at this place
abbrev pub InTable : Block → ℕ → ℕ → Type 0
InTable Control word place = (place ≡ 4 * word) × (word < 11)
InTable WindowEntries word place = (place ≡ 0x010000 + 4 * word) × (word < 32)
InTable ColourMap word place = (place ≡ 0x020000 + 4 * word) × (word < 4608)
InTable GammaMap word place = (place ≡ 0x030000 + 4 * word) × (word < 256)
InTable CursorGlyph word place = (place ≡ 0x040000 + 4 * word) × (word < 64)
InTable CursorColours word place = (place ≡ 0x041000 + 4 * word) × (word < 3)

-- what an address names stands in the paper's table at the address's low 24 bits
pub named_listed : (block : Block) (word address : ℕ) → named address ≡ Some (register_in block word) → InTable block word (address % 2 ^ 24)
named_listed Control word address e = omega (arith, named_place address (register_in Control word) e, named_word address (register_in Control word) e)
named_listed WindowEntries word address e = omega (arith, named_place address (register_in WindowEntries word) e, named_word address (register_in WindowEntries word) e)
named_listed ColourMap word address e = omega (arith, named_place address (register_in ColourMap word) e, named_word address (register_in ColourMap word) e)
named_listed GammaMap word address e = omega (arith, named_place address (register_in GammaMap word) e, named_word address (register_in GammaMap word) e)
named_listed CursorGlyph word address e = omega (arith, named_place address (register_in CursorGlyph word) e, named_word address (register_in CursorGlyph word) e)
named_listed CursorColours word address e = omega (arith, named_place address (register_in CursorColours word) e, named_word address (register_in CursorColours word) e)

-- an address whose low 24 bits are a word's place names that word
at_place : (block : Block) (word address : ℕ) → address % 2 ^ 24 ≡ start block + 4 * word → word < count block → named address ≡ Some (register_in block word)
at_place block word address is h = sym (named_top_byte address) ∙ ap named is ∙ stored_at block word h

-- an address at whose low 24 bits a word stands in the paper's table names that word
pub listed_named : (block : Block) (word address : ℕ) → InTable block word (address % 2 ^ 24) → named address ≡ Some (register_in block word)
listed_named Control word address here = at_place Control word address (omega arith) (omega arith)
listed_named WindowEntries word address here = at_place WindowEntries word address (omega arith) (omega arith)
listed_named ColourMap word address here = at_place ColourMap word address (omega arith) (omega arith)
listed_named GammaMap word address here = at_place GammaMap word address (omega arith) (omega arith)
listed_named CursorGlyph word address here = at_place CursorGlyph word address (omega arith) (omega arith)
listed_named CursorColours word address here = at_place CursorColours word address (omega arith) (omega arith)

-- an address at whose low 24 bits the paper's table has no word names nothing
pub unlisted_nothing : (address : ℕ) → ((block : Block) (word : ℕ) → InTable block word (address % 2 ^ 24) → ⊥) → named address ≡ None
unlisted_nothing address none = by (named address) refl
  where
    -- by what it names: a register would be in the table
    by : (what : Option Register) → named address ≡ what → what ≡ None
    by (Some register) e = absurd (none register.block register.word (named_listed register.block register.word address e))
    by None e = refl

-- where each word stands in the store, in table order: the window entries first, then 32, 4,608, 256 and 64 words on; the control words nowhere
pub store_places : (word : ℕ)
    → (store_place (register_in Control word) ≡ None)
    × (store_place (register_in WindowEntries word) ≡ Some word)
    × (store_place (register_in ColourMap word) ≡ Some (32 + word))
    × (store_place (register_in GammaMap word) ≡ Some (4640 + word))
    × (store_place (register_in CursorGlyph word) ≡ Some (4896 + word))
    × (store_place (register_in CursorColours word) ≡ Some (4960 + word))
store_places word = let first : 0 + word ≡ word = omega arith in (refl, ap Some first, refl, refl, refl, refl)

-- control words 9 and 10 can only be read, and no other register
pub read_only_words :
    ((word : ℕ) → word < 9 → read_only (register_in Control word) ≡ false)
    × (read_only (register_in Control 9) ≡ true)
    × (read_only (register_in Control 10) ≡ true)
    × ((word : ℕ) → read_only (register_in WindowEntries word) ≡ false)
    × ((word : ℕ) → read_only (register_in ColourMap word) ≡ false)
    × ((word : ℕ) → read_only (register_in GammaMap word) ≡ false)
    × ((word : ℕ) → read_only (register_in CursorGlyph word) ≡ false)
    × ((word : ℕ) → read_only (register_in CursorColours word) ≡ false)
read_only_words = (λ word below. lt-leb 9 word below, refl, refl, λ word. refl, λ word. refl, λ word. refl, λ word. refl, λ word. refl)

-- writes to the colour map wait, and no others
pub map_writes_wait : (word : ℕ)
    → (waits (register_in Control word) ≡ false)
    × (waits (register_in WindowEntries word) ≡ false)
    × (waits (register_in ColourMap word) ≡ true)
    × (waits (register_in GammaMap word) ≡ false)
    × (waits (register_in CursorGlyph word) ≡ false)
    × (waits (register_in CursorColours word) ≡ false)
map_writes_wait word = (refl, refl, refl, refl, refl, refl)
