-- The words of the store and the registers, one for one: no two registers share a word, and no word is without a register. Assumes nothing.
use Prim.Native.Nat.{ℕ, ◌+◌, ◌-◌, ◌*◌, ◌%◌, ◌^◌, ◌<◌}
use mathlib.Core.Path.{◌≡◌, sym, ap, ◌∙◌}
use mathlib.Core.Bool.{cond}
use mathlib.Core.Logic.{⊎_elim}
use native.Mathlib.Omega.{arith}
use borrow.Author.Tests.{lt-ltb, le-ltb}
use lib.Dec.{ltb}
use Rattle.std.specs.Prelude.{Some}
use Rattle.rules.proofs.Cases.{impossible, le_or_lt}
use Rattle.chip_registers.specs.Named.{address_place, named}
use Rattle.chip_registers.specs.Store.{store_place}
use Rattle.chip_registers.specs.declared.Block.{Block}
use Rattle.chip_registers.specs.declared.Block.TheVariants.{Control, WindowEntries, ColourMap, GammaMap, CursorGlyph, CursorColours}
use Rattle.chip_registers.specs.declared.Register.{Register}
use Rattle.chip_registers.proofs.Naming.{named_top_byte}
use Rattle.chip_registers.proofs.Map.{register_in, InTable, named_listed, listed_named}

-- the address of a word of the store, in the paper's numbers: 32 window entries, 4,608 words of the colour map, 256 of the gamma map, 64 of the glyph, the cursor colours
unfoldable pub store_address : ℕ → ℕ
store_address index =
    cond (ltb index 32) (0x010000 + 4 * index)
    (cond (ltb index 4640) (0x020000 + 4 * (index - 32))
    (cond (ltb index 4896) (0x030000 + 4 * (index - 4640))
    (cond (ltb index 4960) (0x040000 + 4 * (index - 4896))
    (0x041000 + 4 * (index - 4960)))))

module _ (word : ℕ) where
  -- words 0 to 31 are the window entries'
  of_window_entries : word < 32 → store_address word ≡ 0x010000 + 4 * word
  unfolding store_address
  of_window_entries h = rw (lt-ltb word 32 h)

  -- words from 32 on are the colour map's
  of_colour_map : word < 4608 → store_address (32 + word) ≡ 0x020000 + 4 * word
  unfolding store_address
  of_colour_map h = rw (le-ltb (32 + word) 32 (omega arith), lt-ltb (32 + word) 4640 (omega arith)) (omega arith)

  -- words from 4,640 on are the gamma map's
  of_gamma_map : word < 256 → store_address (4640 + word) ≡ 0x030000 + 4 * word
  unfolding store_address
  of_gamma_map h = rw (le-ltb (4640 + word) 32 (omega arith), le-ltb (4640 + word) 4640 (omega arith), lt-ltb (4640 + word) 4896 (omega arith)) (omega arith)

  -- words from 4,896 on are the glyph's
  of_cursor_glyph : word < 64 → store_address (4896 + word) ≡ 0x040000 + 4 * word
  unfolding store_address
  of_cursor_glyph h =
      rw (le-ltb (4896 + word) 32 (omega arith), le-ltb (4896 + word) 4640 (omega arith), le-ltb (4896 + word) 4896 (omega arith), lt-ltb (4896 + word) 4960 (omega arith))
      (omega arith)

  -- words from 4,960 on are the cursor colours'
  of_cursor_colours : store_address (4960 + word) ≡ 0x041000 + 4 * word
  unfolding store_address
  of_cursor_colours =
      rw (le-ltb (4960 + word) 32 (omega arith), le-ltb (4960 + word) 4640 (omega arith), le-ltb (4960 + word) 4896 (omega arith), le-ltb (4960 + word) 4960 (omega arith))
      (omega arith)

-- a register of the store stands at the address of its word
pub at_store_address : (block : Block) (word address index : ℕ) → named address ≡ Some (register_in block word) → store_place (register_in block word) ≡ Some index
    → address_place address ≡ store_address index
at_store_address Control word address index names at = impossible (cc)
at_store_address WindowEntries word address index names at =
    let here = named_listed WindowEntries word address names in
    let is : index ≡ 0 + word = cc in
    let same : index ≡ word = omega arith in
    here.0 ∙ sym (of_window_entries word here.1) ∙ ap store_address (sym same)
at_store_address ColourMap word address index names at =
    let here = named_listed ColourMap word address names in
    let is : index ≡ 32 + word = cc in
    here.0 ∙ sym (of_colour_map word here.1) ∙ ap store_address (sym is)
at_store_address GammaMap word address index names at =
    let here = named_listed GammaMap word address names in
    let is : index ≡ 4640 + word = cc in
    here.0 ∙ sym (of_gamma_map word here.1) ∙ ap store_address (sym is)
at_store_address CursorGlyph word address index names at =
    let here = named_listed CursorGlyph word address names in
    let is : index ≡ 4896 + word = cc in
    here.0 ∙ sym (of_cursor_glyph word here.1) ∙ ap store_address (sym is)
at_store_address CursorColours word address index names at =
    let here = named_listed CursorColours word address names in
    let is : index ≡ 4960 + word = cc in
    here.0 ∙ sym (of_cursor_colours word) ∙ ap store_address (sym is)

module _ (a b : ℕ) (register other : Register) (names : named a ≡ Some register) (names' : named b ≡ Some other) where
  -- two addresses of one place name one register
  one_name : address_place a ≡ address_place b → register ≡ other
  one_name same =
      let one : named a ≡ named b = sym (named_top_byte a) ∙ ap named same ∙ named_top_byte b in
      cc

  -- no two registers share a word of the store: addresses that name registers on one word are one place, and name one register
  pub apart : (index : ℕ) → store_place register ≡ Some index → store_place other ≡ Some index → (address_place a ≡ address_place b) × (register ≡ other)
  apart index at at' =
      let same : address_place a ≡ address_place b =
      at_store_address register.block register.word a index names at
      ∙ sym (at_store_address other.block other.word b index names' at') in
      (same, one_name same)

-- an address without bits 31..24 names a register that stands on this word of the store
pub record HasRegister (index : ℕ) : Type 0 where
  pub address : ℕ
  pub register : Register
  pub low : address < 2 ^ 24
  pub names : named address ≡ Some register
  pub place : store_place register ≡ Some index

-- every word of the store is a register's: its 4,963 words have one each
pub every_word : (index : ℕ) → index < 4963 → HasRegister index
every_word index h =
    ⊎_elim
    (λ from32. ⊎_elim
    (λ from4640. ⊎_elim
    (λ from4896. ⊎_elim
    (λ from4960. has CursorColours (index - 4960) (0x041000 + 4 * (index - 4960)) (omega arith) (omega arith) (ap Some (omega arith)))
    (λ below4960. has CursorGlyph (index - 4896) (0x040000 + 4 * (index - 4896)) (omega arith) (omega arith) (ap Some (omega arith)))
    (le_or_lt 4960 index))
    (λ below4896. has GammaMap (index - 4640) (0x030000 + 4 * (index - 4640)) (omega arith) (omega arith) (ap Some (omega arith)))
    (le_or_lt 4896 index))
    (λ below4640. has ColourMap (index - 32) (0x020000 + 4 * (index - 32)) (omega arith) (omega arith) (ap Some (omega arith)))
    (le_or_lt 4640 index))
    (λ below32. has WindowEntries index (0x010000 + 4 * index) (omega arith) (omega arith) (ap Some (omega arith)))
    (le_or_lt 32 index)
  where
    -- the word of a block that stands there
    has : (block : Block) (word address : ℕ) → address < 2 ^ 24 → InTable block word (address % 2 ^ 24) → store_place (register_in block word) ≡ Some index → HasRegister index
    has block word address low here place =
        record { address = address; register = register_in block word; low = low; names = listed_named block word address here; place = place }
