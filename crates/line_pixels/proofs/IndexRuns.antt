-- Runs of 12-bit indices: the index in the bytes that hold a sample is the number of the map entry that the sample shows, and its colour, through gamma, is the plain colour. Assumes nothing.
use Prim.Native.Nat.{ℕ, ◌+◌, ◌%◌, ◌^◌}
use mathlib.Core.Path.{◌≡◌, refl, ap, ◌∙◌}
use mathlib.Core.List.{List}
use native.Mathlib.Nat.{div-one}
use native.Mathlib.Omega.{arith}
use Rattle.rules.specs.Rule.{value}
use Rattle.words.specs.Field.{bits}
use Rattle.words.specs.Bytes.{big_endian}
use Rattle.words.proofs.LowBits.{bits_of_low}
use Rattle.line_formats.specs.Table.{widths_of}
use Rattle.line_formats.specs.declared.Format.{Format}
use Rattle.line_formats.specs.declared.Format.TheVariants.{Index12}
use Rattle.line_colour.specs.Shown.{sample_of, shown_of}
use Rattle.line_colour.specs.declared.entry.WindowEntry.{WindowEntry}
use Rattle.line_colour.specs.declared.entry.Shown.TheVariants.{MapEntry}
use Rattle.line_colour.proofs.Defined.{Says}
use Rattle.line_pixels.specs.Cells.{pixel_word, pixel_view}
use Rattle.line_pixels.specs.Colour.{through_gamma, plain_at}
use Rattle.line_pixels.specs.Inner.{index_in, indexed_colour}
use Rattle.line_pixels.specs.SamplePlace.{place_at}
use Rattle.line_pixels.proofs.Halves.{AllBytes, HeldBy, held_of, sample_in_bytes}
use Rattle.line_pixels.proofs.LayersCases.{normal_of_map, plain_of_normal, shown_index12}

-- the low bits of a number's low bits, as many
same_low : (word n : ℕ) → bits (bits word 0 n) 0 n ≡ bits word 0 n
same_low word n = ap (λ (w : ℕ). bits (w % 2 ^ n) 0 n) (div-one word) ∙ bits_of_low word n 0 n (omega arith)

module _ {depth : ℕ} {entry : WindowEntry} (store normal overlay : List ℕ) (says : Says depth entry) (all : AllBytes normal) (is : entry.format ≡ Index12) (x i : ℕ) where
  -- where the two bytes stand that hold a pixel's sample
  abbrev place : ℕ
  place = place_at depth entry.low 2 x i

  -- the index in them is the number of the map entry that the sample shows
  shows_index : shown_of entry (sample_of entry (pixel_word depth normal (x + i))) ≡ MapEntry (index_in normal place)
  shows_index =
      let word = big_endian normal place 2 in
      let low = (widths_of entry.format).bits in
      let sample = sample_of entry (pixel_word depth normal (x + i)) in
      let held : HeldBy depth entry 2 = held_of says (rw is) in
      let of_sample : bits sample 0 low ≡ bits word 0 low =
      ap (λ (s : ℕ). bits s 0 low) (sample_in_bytes depth entry normal says all held x i) ∙ same_low word low in
      let twelve : bits word 0 low ≡ index_in normal place = ap (λ (f : Format). bits word 0 (widths_of f).bits) is in
      shown_index12 entry sample is ∙ ap MapEntry (omega (arith, of_sample, twelve))

  -- its colour, shown through gamma or past it as the entry says, is the plain colour of the pixel
  pub index_plain : {shown : ℕ} → shown ≡ value (pixel_view store normal overlay) (through_gamma entry.bypass (indexed_colour store normal place))
      → shown ≡ value (pixel_view store normal overlay) (plain_at depth entry (x + i))
  index_plain gamma =
      let memory = pixel_view store normal overlay in
      plain_of_normal memory depth entry (x + i) (normal_of_map memory depth entry (x + i) shows_index refl) gamma
