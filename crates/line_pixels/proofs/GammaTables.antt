-- A word through gamma as the sum of three channels, and the three tables into which the gamma map is split: their words fit, and a word through them is the word through gamma. Assumes nothing.
use Prim.Native.Nat.{ℕ, ◌+◌, ◌*◌, ◌/◌, ◌%◌, ◌<◌}
use mathlib.Core.Path.{◌≡◌, sym, ap, ◌∙◌}
use mathlib.Core.Bool.{false}
use mathlib.Core.List.{List}
use native.Mathlib.Nat.{div-one, mod-lt}
use native.Mathlib.Omega.{arith}
use lib.Dec.{lit<}
use Rattle.rules.specs.Rule.{value}
use Rattle.rules.specs.Lists.{filled}
use Rattle.rules.proofs.Fill.{looked_up}
use Rattle.line_pixels.specs.Cells.{in_red, in_green, in_blue, gamma, pixel_view}
use Rattle.line_pixels.specs.Colour.{through_gamma}
use Rattle.line_pixels.specs.Inner.{gamma_red, gamma_green, gamma_blue, SplitBy, TablesFit, by_tables}
use Rattle.line_pixels.proofs.CellsInMemory.{gamma_red_in_store, gamma_green_in_store, gamma_blue_in_store}

-- what is left of a division by 256 is the number of a word of a table
pub in_table : (n : ℕ) → n % 256 < 256
in_table n = mod-lt n {m = 256} (lit< tt)

-- a word through gamma is the sum of the channels of three gamma words, each of which a channel of it picks, whatever the rows hold
pub gamma_sum : (store normal overlay : List ℕ) (word : ℕ)
    → gamma_red store (word / 65536 % 256) + gamma_green store (word / 256 % 256) + gamma_blue store (word % 256) ≡ value (pixel_view store normal overlay) (through_gamma false word)
unfolding through_gamma
gamma_sum store normal overlay word =
    let memory = pixel_view store normal overlay in
    let r : gamma_red store (word / 65536 % 256) ≡ memory (gamma in_red (word / 65536 % 256)) * 65536
    = ap (λ (n : ℕ). n * 65536) (sym (gamma_red_in_store store normal overlay (word / 65536 % 256))) in
    let g : gamma_green store (word / 256 % 256) ≡ memory (gamma in_green (word / 256 % 256)) * 256
    = ap (λ (n : ℕ). n * 256) (sym (gamma_green_in_store store normal overlay (word / 256 % 256))) in
    let b : gamma_blue store (word % 256) ≡ memory (gamma in_blue (word / 1 % 256))
    = sym (gamma_blue_in_store store normal overlay (word % 256)) ∙ ap (λ (n : ℕ). memory (gamma in_blue (n % 256))) (sym (div-one word)) in
    rw (r, g, b)

-- tables that are filled with the channels of the gamma words are these split
pub split_made : (store : List ℕ) {red green blue : List ℕ} (red₀ green₀ blue₀ : List ℕ) → red ≡ filled (gamma_red store) 0 red₀ 256 → green ≡ filled (gamma_green store) 0 green₀ 256
    → blue ≡ filled (gamma_blue store) 0 blue₀ 256 → SplitBy store red green blue
split_made store red₀ green₀ blue₀ reds greens blues k below = record {
  in_red = looked_up (gamma_red store) red₀ 256 k 0 reds below;
  in_green = looked_up (gamma_green store) green₀ 256 k 0 greens below;
  in_blue = looked_up (gamma_blue store) blue₀ 256 k 0 blues below;
}

module _ {store red green blue : List ℕ} (split : SplitBy store red green blue) where
  -- no word of the tables is more than its channel
  pub tables_fit : TablesFit red green blue
  tables_fit k below = let at = split k below in omega arith

  -- a word through the tables is the word through gamma, whatever the rows hold
  pub tables_correct : (normal overlay : List ℕ) (word : ℕ) → by_tables red green blue word ≡ value (pixel_view store normal overlay) (through_gamma false word)
  tables_correct normal overlay word =
      rw ((split (word / 65536 % 256) (in_table (word / 65536))).in_red, (split (word / 256 % 256) (in_table (word / 256))).in_green, (split (word % 256) (in_table word)).in_blue)
      (gamma_sum store normal overlay word)
