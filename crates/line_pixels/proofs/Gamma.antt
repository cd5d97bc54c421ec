-- Gamma: the 256 words of the store that are its map, and a colour through them. Assumes nothing.
use Prim.Native.Nat.{ℕ, ◌+◌, ◌/◌, ◌^◌, ◌<◌}
use mathlib.Core.Path.{◌≡◌, sym, ap, ◌∙◌}
use mathlib.Core.Bool.{Bool, true, false}
use mathlib.Core.List.{List}
use native.Mathlib.Nat.{mod-lt}
use native.Mathlib.Omega.{arith}
use lib.Dec.{lit<}
use lib.ListN.{length, get_or, take, drop}
use lib.Seq.{get_or-take, get_or-drop}
use Rattle.rules.specs.Rule.{value}
use Rattle.rules.proofs.Change.{changed_none}
use Rattle.words.specs.Field.{bits, field}
use Rattle.words.specs.Channels.{channels_of, word_of}
use Rattle.words.specs.declared.Rgb.{Rgb}
use Rattle.chip_registers.specs.Store.{stored}
use Rattle.chip_registers.specs.declared.Block.TheVariants.{GammaMap}
use Rattle.line_colour.specs.Gamma.{corrected}
use Rattle.line_pixels.specs.Cells.{PixelCell, pixel_view}
use Rattle.line_pixels.specs.Colour.{through_gamma}
use Rattle.line_pixels.specs.Inner.{Corrected}

-- the gamma words of a store
abbrev pub gamma_words : List ℕ → List ℕ
gamma_words store = take 256 (drop 4640 store)

-- the channels of a word are those of its 24 low bits
channels_kept : (word : ℕ) → channels_of (bits word 0 24) ≡ channels_of word
channels_kept word =
    let r : field (bits word 0 24) 23 16 ≡ field word 23 16 = omega arith in
    let g : field (bits word 0 24) 15 8 ≡ field word 15 8 = omega arith in
    let b : field (bits word 0 24) 7 0 ≡ field word 7 0 = omega arith in
    rw (r, g, b)

-- a gamma word has the same channels in the store and in the part of it that is the gamma map
channels_of_gamma : (store : List ℕ) (i : ℕ) → i < 256
    → channels_of (get_or (gamma_words store) i 0) ≡ channels_of (stored store (record { block = GammaMap; word = i }))
channels_of_gamma store i h =
    ap channels_of (get_or-take 256 (drop 4640 store) i 0 h ∙ get_or-drop 4640 store i 0) ∙ sym (channels_kept (get_or store (4640 + i) 0))

-- a colour that skips gamma is shown as it is
pub gamma_skipped : (memory : PixelCell → ℕ) (word : ℕ) {skips : Bool} → skips ≡ true → word ≡ value memory (through_gamma skips word)
unfolding through_gamma
gamma_skipped memory word e = rw e

-- words that skip gamma stay as they are
pub words_skipped : (store before : List ℕ) {skips : Bool} → skips ≡ true → Corrected store skips before before
words_skipped store before {skips} e =
    λ normal overlay.
    let memory = pixel_view store normal overlay in
    sym (changed_none (λ _ word. value memory (through_gamma skips word)) 0 (length before) 0 before (λ i below. sym (gamma_skipped memory (get_or before i 0) e)))

-- a colour that doesn't skip gamma is corrected by the gamma words of the store
pub gamma_applied : (store normal overlay : List ℕ) (word : ℕ) {skips : Bool} → skips ≡ false
    → word_of (corrected (gamma_words store) (channels_of word)) ≡ value (pixel_view store normal overlay) (through_gamma skips word)
unfolding through_gamma
gamma_applied store normal overlay word e =
    let colour = channels_of word in
    let r = ap (λ (c : Rgb). c.red) (channels_of_gamma store colour.red (mod-lt (word / 2 ^ 16) {m = 256} (lit< tt))) in
    let g = ap (λ (c : Rgb). c.green) (channels_of_gamma store colour.green (mod-lt (word / 2 ^ 8) {m = 256} (lit< tt))) in
    let b = ap (λ (c : Rgb). c.blue) (channels_of_gamma store colour.blue (mod-lt (word / 2 ^ 0) {m = 256} (lit< tt))) in
    rw (e, r, g, b)
