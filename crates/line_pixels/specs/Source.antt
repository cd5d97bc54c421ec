-- What the functions inside say of a source: of the memory that is lent for a run, and of what is drawn from it.
use Rattle.std.specs.Prelude.{ℕ, ◌≡◌, List, length, get_or}
use Rattle.rules.specs.Rule.{Rule, value}
use Rattle.rules.specs.Lists.{filled, changed}
use Rattle.line_pixels.specs.Cells.{PixelCell, pixel_view}
use Rattle.line_pixels.specs.Colour.{plain_at}
use Rattle.line_pixels.specs.Inner.{PlainLent, PixelsLent, overlaid_or}
use Rattle.line_pixels.specs.declared.source.Source.{Source}

-- what the cells hold in the memory that is lent
abbrev pub view_of : Source → PixelCell → ℕ
view_of source = pixel_view source.store.now source.normal.now source.overlay.now

-- enough is lent for the plain colour of each pixel before `end`
abbrev pub PlainReaches : Source → ℕ → Type 0
PlainReaches source end = PlainLent source.screen.depth source.entry source.store.now source.normal.now end

-- enough is lent for the colour of each pixel before `end`, whichever layer shows
abbrev pub PixelsReach : Source → ℕ → Type 0
PixelsReach source end = PixelsLent source.screen source.entry source.store.now source.normal.now source.overlay.now end

-- the words of a run from pixel x on are filled with what a rule says of each pixel
abbrev pub Drawn : Source → (ℕ → Rule ⊥ PixelCell ℕ) → ℕ → List ℕ → List ℕ → Type 0
Drawn source rule x before after = after ≡ filled (λ p. value (view_of source) (rule p)) x before (length before)

-- each word of a run from pixel x on is changed to what a rule says of its pixel and of the word
abbrev pub Laid : Source → (ℕ → ℕ → Rule ⊥ PixelCell ℕ) → ℕ → List ℕ → List ℕ → Type 0
Laid source rule x before after = after ≡ changed (λ p under. value (view_of source) (rule p under)) x before (length before)

-- a run from pixel x on is filled with plain colours
abbrev pub PlainDrawn : Source → ℕ → List ℕ → List ℕ → Type 0
PlainDrawn source = Drawn source (plain_at source.screen.depth source.entry)

-- overlay is laid over a run from pixel x on
abbrev pub OverlayLaid : Source → ℕ → List ℕ → List ℕ → Type 0
OverlayLaid source = Laid source (λ p under. overlaid_or source.entry (get_or source.overlay.now p 0) under)
