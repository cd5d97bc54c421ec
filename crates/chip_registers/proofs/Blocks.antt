-- Where the blocks stand: no place is a word of two. Assumes nothing.
use Prim.Native.Nat.{ℕ, ◌+◌, ◌*◌, ◌≤◌, ◌<◌}
use mathlib.Core.Path.{◌≡◌, refl}
use mathlib.Core.Bool.{true, false, and-false}
use mathlib.Core.List.{List, [], ◌∷◌, ◌++◌}
use native.Mathlib.Omega.{arith}
use borrow.Author.Tests.{lt-ltb, le-ltb, le-leb, lt-leb}
use lib.Dec.{leb}
use Rattle.std.specs.Prelude.{None}
use Rattle.chip_registers.specs.Blocks.{blocks, start, count}
use Rattle.chip_registers.specs.Named.{word_at, is_word_of, among}
use Rattle.chip_registers.specs.declared.Block.{Block}
use Rattle.chip_registers.specs.declared.Block.TheVariants.{Control, WindowEntries, ColourMap, GammaMap, CursorGlyph, CursorColours}

module _ (block : Block) (place : ℕ) where
  -- no word of a block stands before its start
  pub before_start : place < start block → is_word_of block place ≡ false
  unfolding is_word_of
  before_start h = rw (lt-leb (start block) place h)

  -- no word of a block stands past its last
  pub past_end : count block ≤ word_at block place → is_word_of block place ≡ false
  unfolding is_word_of
  past_end h = rw (le-ltb (word_at block place) (count block) h) (and-false (leb (start block) place))

  -- the places from a block's start up to its last word are its words
  pub within : start block ≤ place → word_at block place < count block → is_word_of block place ≡ true
  unfolding is_word_of
  within h k = rw (le-leb (start block) place h, lt-ltb (word_at block place) (count block) k)

-- a place before some blocks
abbrev Before : ℕ → List Block → Type 0
Before place [] = Unit
Before place (block ∷ others) = (place < start block) × Before place others

-- a place past some blocks
abbrev Past : ℕ → List Block → Type 0
Past place [] = Unit
Past place (block ∷ others) = (start block + 4 * count block ≤ place) × Past place others

-- before all blocks nothing stands
before_all : (place : ℕ) (later : List Block) → Before place later → among later place ≡ None
before_all place [] h = refl
before_all place (block ∷ later) h = rw (before_start block place h.0) (before_all place later h.1)

-- between blocks that it is past and blocks that it is before, a place is in the one between them or in none
between : (place : ℕ) (past : List Block) (block : Block) (later : List Block) → Past place past → Before place later → among (past ++ (block ∷ later)) place ≡ among (block ∷ []) place
between place [] block later h k = rw (before_all place later k)
between place (other ∷ past) block later h k = rw (past_end other place (omega arith)) (between place past block later h.1 k)

-- a place before the next block
abbrev pub Until : Block → ℕ → Type 0
Until Control place = place < start WindowEntries
Until WindowEntries place = place < start ColourMap
Until ColourMap place = place < start GammaMap
Until GammaMap place = place < start CursorGlyph
Until CursorGlyph place = place < start CursorColours
Until CursorColours place = Unit

-- a place from the start of a block up to the next is in that block or in none
pub alone : (block : Block) (place : ℕ) → start block ≤ place → Until block place → among blocks place ≡ among (block ∷ []) place
alone Control place h k =
    between place [] Control (WindowEntries ∷ ColourMap ∷ GammaMap ∷ CursorGlyph ∷ CursorColours ∷ []) (omega arith) (omega arith)
alone WindowEntries place h k =
    between place (Control ∷ []) WindowEntries (ColourMap ∷ GammaMap ∷ CursorGlyph ∷ CursorColours ∷ []) (omega arith) (omega arith)
alone ColourMap place h k =
    between place (Control ∷ WindowEntries ∷ []) ColourMap (GammaMap ∷ CursorGlyph ∷ CursorColours ∷ []) (omega arith) (omega arith)
alone GammaMap place h k =
    between place (Control ∷ WindowEntries ∷ ColourMap ∷ []) GammaMap (CursorGlyph ∷ CursorColours ∷ []) (omega arith) (omega arith)
alone CursorGlyph place h k =
    between place (Control ∷ WindowEntries ∷ ColourMap ∷ GammaMap ∷ []) CursorGlyph (CursorColours ∷ []) (omega arith) (omega arith)
alone CursorColours place h k =
    between place (Control ∷ WindowEntries ∷ ColourMap ∷ GammaMap ∷ CursorGlyph ∷ []) CursorColours [] (omega arith) (omega arith)
