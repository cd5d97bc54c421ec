-- What an address names: every word of every block has an address, and what an address names is a word of its block. Assumes nothing.
use Prim.Native.Nat.{ℕ, ◌+◌, ◌*◌, ◌%◌, ◌^◌, ◌≤◌, ◌<◌}
use mathlib.Core.Path.{◌≡◌, refl, ap}
use mathlib.Core.Bool.{Bool, true, false, cond}
use mathlib.Core.List.{List, [], ◌∷◌}
use mathlib.Core.Logic.{⊎_elim}
use native.Mathlib.Omega.{arith}
use borrow.Author.Tests.{eqb-true, eq-eqb, ne_eqb}
use lib.Dec.{eqb}
use Rattle.std.specs.Prelude.{Some, None}
use Rattle.rules.proofs.Cases.{impossible, le_or_lt}
use Rattle.chip_registers.specs.Blocks.{blocks, start, count}
use Rattle.chip_registers.specs.Named.{address_place, word_at, is_word_of, among, named}
use Rattle.chip_registers.specs.declared.Block.{Block}
use Rattle.chip_registers.specs.declared.Block.TheVariants.{Control, WindowEntries, ColourMap, GammaMap, CursorGlyph, CursorColours}
use Rattle.chip_registers.specs.declared.Register.{Register}
use Rattle.chip_registers.proofs.Blocks.{before_start, past_end, within, Until, alone}

module _ (address place : ℕ) (same : place ≡ address_place address) where
  -- an address that is no multiple of 4 names nothing
  pub named_unaligned : (place % 4 ≡ 0 → ⊥) → named address ≡ None
  unfolding named
  named_unaligned odd = rw (← same, ne_eqb (place % 4) 0 odd)

  module _ (block : Block) (aligned : place % 4 ≡ 0) (own : among blocks place ≡ among (block ∷ []) place) where
    -- a word of the one block that the place can be in
    pub named_within : start block ≤ place → word_at block place < count block → named address ≡ Some (record { block = block; word = word_at block place })
    unfolding named
    named_within from below = rw (← same, eq-eqb (place % 4) 0 aligned, own, within block place from below)

    -- past the last word of that block
    pub named_past : count block ≤ word_at block place → named address ≡ None
    unfolding named
    named_past past = rw (← same, eq-eqb (place % 4) 0 aligned, own, past_end block place past)

-- bits 31..24 of an address are ignored
pub named_top_byte : (address : ℕ) → named (address % 2 ^ 24) ≡ named address
unfolding named
named_top_byte address =
    let same : address_place (address % 2 ^ 24) ≡ address_place address = omega arith in
    ap (λ (place : ℕ). cond (eqb (place % 4) 0) (among blocks place) None) same

-- the place of a word: within its block's room, of 24 bits, a multiple of 4
word_stands : (block : Block) (word : ℕ) → word < count block
    → let place : ℕ = start block + 4 * word in Until block place × (place ≡ address_place place) × (place % 4 ≡ 0)
word_stands Control word h = omega arith
word_stands WindowEntries word h = omega arith
word_stands ColourMap word h = omega arith
word_stands GammaMap word h = omega arith
word_stands CursorGlyph word h = omega arith
word_stands CursorColours word h = omega arith

-- every word of every block is named by its address
pub stored_at : (block : Block) (word : ℕ) → word < count block → named (start block + 4 * word) ≡ Some (record { block = block; word = word })
stored_at block word h =
    let place : ℕ = start block + 4 * word in
    let stands = word_stands block word h in
    let is : word_at block place ≡ word = omega arith in
    rw is at (named_within place place stands.1 block stands.2 (alone block place (omega arith) stands.0) (omega arith) (omega arith))

-- control word 9, the room in the queue
pub named_room : named 0x24 ≡ Some (record { block = Control; word = 9 })
unfolding named is_word_of
named_room = refl

-- control word 10, the position
pub named_position : named 0x28 ≡ Some (record { block = Control; word = 10 })
unfolding named is_word_of
named_position = refl

-- a word that stands at a place is one of its block's
below_count : (block : Block) (place : ℕ) → is_word_of block place ≡ true → word_at block place < count block
below_count block place is =
    ⊎_elim (λ past. impossible (cc (past_end block place past))) (λ below. below) (le_or_lt (count block) (word_at block place))

module _ (place : ℕ) (register : Register) where
  -- the register that a place is in some blocks is a word of its block
  among_word : (some : List Block) → among some place ≡ Some register → register.word < count register.block
  among_word [] e = impossible (cc)
  among_word (block ∷ others) e = by (is_word_of block place) refl (among_word others)
    where
      -- by whether the place is a word of the first block, else of the others
      by : (test : Bool) → is_word_of block place ≡ test → (among others place ≡ Some register → register.word < count register.block) → register.word < count register.block
      by true is rest = let same : register ≡ record { block = block; word = word_at block place } = cc in rw same (below_count block place is)
      by false is rest = rest (rw is at e)

-- the register that an address names is a word of its block
pub named_word : (address : ℕ) (register : Register) → named address ≡ Some register → register.word < count register.block
unfolding named
named_word address register e = by (eqb (address_place address % 4) 0) refl
  where
    -- by whether the place is a multiple of 4
    by : (test : Bool) → eqb (address_place address % 4) 0 ≡ test → register.word < count register.block
    by true is = among_word (address_place address) register blocks (rw is at e)
    by false is = let wrong : None ≡ Some register = rw is at e in impossible (cc)

-- ---- where a register stands

-- a block starts at a multiple of 4
start_aligned : (block : Block) → start block % 4 ≡ 0
start_aligned Control = refl
start_aligned WindowEntries = refl
start_aligned ColourMap = refl
start_aligned GammaMap = refl
start_aligned CursorGlyph = refl
start_aligned CursorColours = refl

-- a word that stands at a place stands four times its number behind its block's start
stands_at : (block : Block) (place : ℕ) → place % 4 ≡ 0 → is_word_of block place ≡ true → place ≡ start block + 4 * word_at block place
stands_at block place aligned is =
    ⊎_elim (λ from. omega (arith, start_aligned block, from)) (λ before. impossible (cc (before_start block place before))) (le_or_lt (start block) place)

module _ (place : ℕ) (register : Register) (aligned : place % 4 ≡ 0) where
  -- the register that a place is in some blocks stands four times its number behind its block's start
  among_place : (some : List Block) → among some place ≡ Some register → place ≡ start register.block + 4 * register.word
  among_place [] e = impossible (cc)
  among_place (block ∷ others) e = by (is_word_of block place) refl (among_place others)
    where
      -- by whether the place is a word of the first block, else of the others
      by : (test : Bool) → is_word_of block place ≡ test → (among others place ≡ Some register → place ≡ start register.block + 4 * register.word)
          → place ≡ start register.block + 4 * register.word
      by true is rest = let same : register ≡ record { block = block; word = word_at block place } = cc in rw same (stands_at block place aligned is)
      by false is rest = rest (rw is at e)

-- the register that an address names stands at that address, so no two places name one register
pub named_place : (address : ℕ) (register : Register) → named address ≡ Some register → address_place address ≡ start register.block + 4 * register.word
unfolding named
named_place address register e = by (eqb (address_place address % 4) 0) refl
  where
    -- by whether the place is a multiple of 4
    by : (test : Bool) → eqb (address_place address % 4) 0 ≡ test → address_place address ≡ start register.block + 4 * register.word
    by true is = among_place (address_place address) register (eqb-true (address_place address % 4) 0 is) blocks (rw is at e)
    by false is = let wrong : None ≡ Some register = rw is at e in impossible (cc)
