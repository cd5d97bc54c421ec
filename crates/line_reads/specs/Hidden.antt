-- What may be otherwise without a line's answer being so, kind by kind.
use Rattle.std.specs.Prelude.{ℕ, ◌/◌, ◌≤◌, ◌≡◌, List, get_or}
use Rattle.words.specs.Field.{bits}
use Rattle.line_formats.specs.Table.{widths_of}
use Rattle.line_colour.specs.declared.entry.WindowEntry.{WindowEntry}
use Rattle.line_pixels.specs.Cells.{pixel_word}
use Rattle.line_setup.specs.declared.setup.Setup.{Setup}
use Rattle.line.specs.Screen.{screen_in}
use Rattle.line.specs.Cells.{Lent, lent_of}
use Rattle.line_reads.specs.ColourList.{CursorTransparent, BothSwitches, OverlayTransparent}
use Rattle.line_reads.specs.Unseen.{cells_here, EachPixel, chosen}

-- what is lent, with this store in place of its own
abbrev pub other_store : Lent → List ℕ → Lent
other_store lent store = lent_of store lent.table lent.normal lent.overlay

-- what is lent, with this table in place of its own
abbrev pub other_table : Lent → List ℕ → Lent
other_table lent table = lent_of lent.store table lent.normal lent.overlay

-- what is lent, with this normal row in place of its own
abbrev pub other_normal : Lent → List ℕ → Lent
other_normal lent normal = lent_of lent.store lent.table normal lent.overlay

-- what is lent, with this overlay row in place of its own
abbrev pub other_overlay : Lent → List ℕ → Lent
other_overlay lent overlay = lent_of lent.store lent.table lent.normal overlay

module _ (setup : Setup) (lent : Lent) where
  -- another back buffer: of each pixel the sample that its window entry chooses is the same (CHIP 7.3)
  abbrev pub SameChosen : List ℕ → Type 0
  SameChosen row = EachPixel setup lent (λ x entry. chosen setup lent lent.normal x entry ≡ chosen setup lent row x entry)

  -- the half of pixel x that holds the buffer that a window entry chooses
  abbrev pub chosen_half : List ℕ → ℕ → WindowEntry → ℕ
  chosen_half row x entry = bits (pixel_word setup.controls.depth row x) entry.low (setup.controls.depth / 2)

  -- another back buffer where each window takes half a pixel: the other half of every pixel may hold anything (CHIP 7.3)
  abbrev pub SameHalves : List ℕ → Type 0
  SameHalves row =
      EachPixel setup lent (λ x entry.
      ((widths_of entry.format).bits ≤ setup.controls.depth / 2) × (chosen_half lent.normal x entry ≡ chosen_half row x entry))

  -- other samples under an opaque cursor or overlay: pixels at which both are transparent are the same (CHIP 7.3)
  abbrev pub SameUncovered : List ℕ → Type 0
  SameUncovered row =
      EachPixel setup lent (λ x entry.
      CursorTransparent (cells_here setup lent) (screen_in setup) x → OverlayTransparent (cells_here setup lent) (screen_in setup) entry x
      → pixel_word setup.controls.depth lent.normal x ≡ pixel_word setup.controls.depth row x)

  -- other overlay bytes under an opaque cursor, or where overlay doesn't count (CHIP 7.3)
  abbrev pub SameOverlaid : List ℕ → Type 0
  SameOverlaid row =
      EachPixel setup lent (λ x entry.
      CursorTransparent (cells_here setup lent) (screen_in setup) x → BothSwitches (screen_in setup) entry → get_or lent.overlay x 0 ≡ get_or row x 0)
