-- The colours of all 256 bytes, made once and looked up: through gamma, under overlay bytes, and as the samples of a run. Assumes nothing.
use Prim.Native.Nat.{ℕ, ◌+◌, ◌<◌}
use mathlib.Core.Path.{◌≡◌, refl, sym, ap, ◌∙◌}
use mathlib.Core.Bool.{Bool, true, false}
use mathlib.Core.List.{List}
use native.Mathlib.Nat.{le_refl}
use lib.Dec.{eqb}
use lib.ListN.{length, get_or}
use Rattle.rules.specs.Rule.{Rule, value, ◌>>=◌}
use Rattle.rules.proofs.Value.{value_then}
use Rattle.rules.proofs.Change.{changed_at}
use Rattle.line_formats.specs.Table.{widths_of}
use Rattle.line_colour.specs.Shown.{shown_of}
use Rattle.line_colour.specs.declared.entry.WindowEntry.{WindowEntry}
use Rattle.line_colour.proofs.Defined.{Says}
use Rattle.line_pixels.specs.Cells.{PixelCell, pixel_view}
use Rattle.line_pixels.specs.Colour.{through_gamma, shown_colour, plain_at, overlaid}
use Rattle.line_pixels.specs.Inner.{OverStore, Corrected, overlaid_or, overlaid_by}
use Rattle.line_pixels.specs.SamplePlace.{place_at}
use Rattle.line_pixels.proofs.Halves.{AllBytes, sample_is_byte}
use Rattle.line_pixels.proofs.LayersCases.{plain_of_shown}

module _ (store : List ℕ) where
  -- colours that have gone through gamma
  pub colours_corrected : (bypass : Bool) (rule : ℕ → Rule ⊥ PixelCell ℕ) (made colours : List ℕ) → length made ≡ 256
      → ((k : ℕ) → k < 256 → OverStore store (rule k) (get_or made k 0)) → Corrected store bypass made colours
      → (k : ℕ) → k < 256 → OverStore store (rule k >>= through_gamma bypass) (get_or colours k 0)
  colours_corrected bypass rule made colours long is corrected k below normal overlay =
      let memory = pixel_view store normal overlay in
      ap (λ (list : List ℕ). get_or list k 0) (corrected normal overlay)
      ∙ (changed_at (λ _ word. value memory (through_gamma bypass word)) 0 (length made) 0 made k (rw long below) (le_refl (length made))
      ∙ (ap (λ (word : ℕ). value memory (through_gamma bypass word)) (is k below normal overlay) ∙ sym (value_then memory (rule k) (through_gamma bypass))))

-- the colour of an overlay byte is looked up among those of all bytes
pub overlay_by : (memory : PixelCell → ℕ) (entry : WindowEntry) (colours : List ℕ) → ((k : ℕ) → k < 256 → get_or colours k 0 ≡ value memory (overlaid entry k))
    → (byte under : ℕ) → byte < 256 → overlaid_by colours byte under ≡ value memory (overlaid_or entry byte under)
unfolding overlaid_or
overlay_by memory entry colours is byte under below = by (eqb byte 0) refl
  where
    -- by whether the byte is 0
    by : (clear : Bool) → eqb byte 0 ≡ clear → overlaid_by colours byte under ≡ value memory (overlaid_or entry byte under)
    by true clear = rw clear
    by false some = rw some (is byte below)

-- a colour that is looked up by the byte of a pixel is its plain colour, where the colours are those of the samples through gamma
pub byte_plain : (depth : ℕ) (entry : WindowEntry) (store normal overlay colours : List ℕ) → Says depth entry → AllBytes normal → (widths_of entry.format).bits ≡ 8
    → ((k : ℕ) → k < 256 → OverStore store (shown_colour (shown_of entry k) >>= through_gamma entry.bypass) (get_or colours k 0)) → (x i : ℕ)
    → get_or colours (get_or normal (place_at depth entry.low 1 x i) 0) 0 ≡ value (pixel_view store normal overlay) (plain_at depth entry (x + i))
byte_plain depth entry store normal overlay colours says all eight are x i =
    let place = place_at depth entry.low 1 x i in
    plain_of_shown (pixel_view store normal overlay) depth entry (x + i) (sym (sample_is_byte depth entry normal says all x i eight)) refl
    (are (get_or normal place 0) (all place) normal overlay)
