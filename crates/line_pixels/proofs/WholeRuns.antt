-- Runs as wholes: where each word is worked out of the bytes that hold a pixel's sample, the run is that of the pixels' normal or plain colours, whatever the overlay row holds. Assumes nothing.
use Prim.Native.Nat.{ℕ, ◌+◌, ◌<◌}
use mathlib.Core.Path.{◌≡◌, ◌∙◌}
use mathlib.Core.Bool.{false}
use mathlib.Core.List.{List}
use mathlib.Core.Logic.{◌⊎◌, ⊎_elim}
use lib.ListN.{get_or}
use Rattle.rules.specs.Rule.{value, ◌>>=◌}
use Rattle.rules.specs.Lists.{filled}
use Rattle.rules.proofs.Fill.{filled_same, filled_from}
use Rattle.words.specs.Bytes.{big_endian}
use Rattle.words.specs.Channels.{word_of}
use Rattle.line_formats.specs.Table.{widths_of, colour_in_format}
use Rattle.line_formats.specs.declared.Format.{Format}
use Rattle.line_formats.specs.declared.Format.TheVariants.{Index12, Rgb332, Rgb444, Rgb555, Rgb888}
use Rattle.line_colour.specs.Shown.{shown_of}
use Rattle.line_colour.specs.declared.entry.WindowEntry.{WindowEntry}
use Rattle.line_colour.proofs.Defined.{Says}
use Rattle.line_pixels.specs.Cells.{pixel_view}
use Rattle.line_pixels.specs.Colour.{through_gamma, shown_colour, normal_at, plain_at}
use Rattle.line_pixels.specs.Inner.{OverStore, PairedBy, indexed_colour, paired_444, paired_555}
use Rattle.line_pixels.specs.SamplePlace.{place_at}
use Rattle.line_pixels.proofs.Halves.{AllBytes, HeldBy}
use Rattle.line_pixels.proofs.RgbRuns.{pixel_normal_held}
use Rattle.line_pixels.proofs.IndexRuns.{index_plain}
use Rattle.line_pixels.proofs.Colours.{byte_plain}
use Rattle.line_pixels.proofs.PairedRuns.{plain_444, plain_555}

-- a run each of whose words is what is shown at its pixel
shown_run : (word shows : ℕ → ℕ) (x : ℕ) → ((i : ℕ) → word i ≡ shows (x + i)) → (count : ℕ) (before : List ℕ) {after : List ℕ} → after ≡ filled word 0 before count → after ≡ filled shows x before count
shown_run word shows x each count before ran =
    ran ∙ (filled_same word (λ i. shows (x + i)) 0 before count (λ i low high. each i) ∙ filled_from shows x before count)

module _ {depth : ℕ} {entry : WindowEntry} (store normal : List ℕ) (says : Says depth entry) (all : AllBytes normal) (x count : ℕ) (before : List ℕ) {after : List ℕ} where
  -- a run whose colours are those of bytes that hold the samples is the run of normal colours
  pub run_normal : {m : ℕ} {format : Format} → HeldBy depth entry m → entry.format ≡ format
      → (entry.format ≡ Rgb332) ⊎ (entry.format ≡ Rgb444) ⊎ (entry.format ≡ Rgb555) ⊎ (entry.format ≡ Rgb888)
      → after ≡ filled (λ i. word_of (colour_in_format format (big_endian normal (place_at depth entry.low m x i) m))) 0 before count
      → (overlay : List ℕ) → after ≡ filled (λ p. value (pixel_view store normal overlay) (normal_at depth entry p)) x before count
  run_normal held is rgb ran overlay =
      shown_run _ (λ p. value (pixel_view store normal overlay) (normal_at depth entry p)) x (λ i. pixel_normal_held store normal overlay says all held is rgb x i) count before ran

  -- a run of 12-bit indices, each shown through gamma or past it as the entry says, is the run of plain colours
  pub run_indexed : entry.format ≡ Index12 → (shown : ℕ → ℕ) → ((overlay : List ℕ) (word : ℕ) → shown word ≡ value (pixel_view store normal overlay) (through_gamma entry.bypass word))
      → after ≡ filled (λ i. shown (indexed_colour store normal (place_at depth entry.low 2 x i))) 0 before count
      → (overlay : List ℕ) → after ≡ filled (λ p. value (pixel_view store normal overlay) (plain_at depth entry p)) x before count
  run_indexed is shown gamma ran overlay =
      shown_run _ (λ p. value (pixel_view store normal overlay) (plain_at depth entry p)) x
      (λ i. index_plain store normal overlay says all is x i (gamma overlay (indexed_colour store normal (place_at depth entry.low 2 x i)))) count before ran

  -- a run whose colours are looked up by the byte of each pixel is the run of plain colours, where the colours are those of the samples through gamma
  pub run_looked_up : (colours : List ℕ) → (widths_of entry.format).bits ≡ 8
      → ((k : ℕ) → k < 256 → OverStore store (shown_colour (shown_of entry k) >>= through_gamma entry.bypass) (get_or colours k 0))
      → after ≡ filled (λ i. get_or colours (get_or normal (place_at depth entry.low 1 x i) 0) 0) 0 before count
      → (overlay : List ℕ) → after ≡ filled (λ p. value (pixel_view store normal overlay) (plain_at depth entry p)) x before count
  run_looked_up colours eight are ran overlay =
      shown_run _ (λ p. value (pixel_view store normal overlay) (plain_at depth entry p)) x (λ i. byte_plain depth entry store normal overlay colours says all eight are x i) count before ran

  -- a run by the final words of RGB 4-4-4 or of 5-5-5 is the run of plain colours
  pub run_paired_plain : entry.bypass ≡ false → {pairs blues : List ℕ}
      → ((entry.format ≡ Rgb444) × PairedBy store 16 68 pairs blues × (after ≡ filled (λ i. paired_444 pairs blues normal (place_at depth entry.low 2 x i)) 0 before count))
      ⊎ ((entry.format ≡ Rgb555) × PairedBy store 32 33 pairs blues × (after ≡ filled (λ i. paired_555 pairs blues normal (place_at depth entry.low 2 x i)) 0 before count))
      → (overlay : List ℕ) → after ≡ filled (λ p. value (pixel_view store normal overlay) (plain_at depth entry p)) x before count
  run_paired_plain through either overlay =
      let shows : ℕ → ℕ = λ p. value (pixel_view store normal overlay) (plain_at depth entry p) in
      ⊎_elim
      (λ made. shown_run _ shows x (λ i. plain_444 normal overlay says all through x i made.0 made.1) count before made.2)
      (λ made. shown_run _ shows x (λ i. plain_555 normal overlay says all through x i made.0 made.1) count before made.2) either
