-- What a pixel shows, layer by layer. Assumes nothing.
use Prim.Native.Nat.{ℕ, ◌+◌}
use mathlib.Core.Path.{◌≡◌, refl, sym, ap, ◌∙◌}
use mathlib.Core.Bool.{Bool, true, false}
use mathlib.Core.Logic.{◌⊎◌, inl, inr}
use native.Mathlib.Nat.{add-zero, zero-add}
use borrow.Author.Tests.{eq-eqb, ne_eqb, eqb-true, eqb-false}
use lib.Dec.{eqb}
use Rattle.rules.specs.Rule.{value, ◌>>=◌}
use Rattle.rules.proofs.Value.{value_then}
use Rattle.words.specs.Field.{bits}
use Rattle.words.specs.Channels.{word_of}
use Rattle.words.specs.declared.Rgb.{Rgb}
use Rattle.line_formats.specs.Table.{widths_of, value_of, entry_in_bank, colour_in_format}
use Rattle.line_formats.specs.declared.Format.TheVariants.{Index8, Index12, Rgb332, Rgb444, Rgb555, Rgb888}
use Rattle.line_colour.specs.Shown.{shown_of}
use Rattle.line_colour.specs.declared.entry.WindowEntry.{WindowEntry}
use Rattle.line_colour.specs.declared.entry.Shown.{Shown}
use Rattle.line_colour.specs.declared.entry.Shown.TheVariants.{MapEntry, Colour}
use Rattle.line_pixels.specs.Cells.{PixelCell, cursor_colour, overlay_byte, sample, map_entry}
use Rattle.line_pixels.specs.Cursor.{cursor_at}
use Rattle.line_pixels.specs.Colour.{cursor_skips_gamma, through_gamma, shown_colour, normal_at, plain_at, overlay_colours, overlaid, overlay_counts, overlay_at, under_cursor, cursor_shown, colour_of_pixel}
use Rattle.line_pixels.specs.Inner.{overlaid_or, cursor_or}
use Rattle.line_pixels.specs.declared.Screen.{Screen}

module _ (memory : PixelCell → ℕ) (depth : ℕ) (entry : WindowEntry) (x : ℕ) {word : ℕ} where
  -- the normal colour is the colour of what the sample shows
  pub normal_of : {shown : Shown} → shown_of entry (memory (sample depth x entry.low (widths_of entry.format).bits)) ≡ shown
      → word ≡ value memory (shown_colour shown) → word ≡ value memory (normal_at depth entry x)
  unfolding normal_at
  normal_of shows is = is ∙ sym (ap (λ (s : Shown). value memory (shown_colour s)) shows)

  -- where the sample shows an entry of the map, that is the normal colour
  pub normal_of_map : {number : ℕ} → shown_of entry (memory (sample depth x entry.low (widths_of entry.format).bits)) ≡ MapEntry number
      → word ≡ memory (map_entry number) → word ≡ value memory (normal_at depth entry x)
  normal_of_map shows is = normal_of shows is

  -- where the sample shows a colour of its own, that is the normal colour
  pub normal_of_colour : {colour : Rgb} → shown_of entry (memory (sample depth x entry.low (widths_of entry.format).bits)) ≡ Colour colour
      → word ≡ word_of colour → word ≡ value memory (normal_at depth entry x)
  normal_of_colour shows is = normal_of shows is

  -- a plain colour is the normal one through gamma
  pub plain_of_normal : {normal : ℕ} → normal ≡ value memory (normal_at depth entry x) → word ≡ value memory (through_gamma entry.bypass normal)
      → word ≡ value memory (plain_at depth entry x)
  unfolding plain_at
  plain_of_normal of is = rw (value_then memory (normal_at depth entry x) (through_gamma entry.bypass), ← of) is

-- the plain colour of a pixel is the colour of what its sample shows, through gamma
pub plain_of_shown : (memory : PixelCell → ℕ) (depth : ℕ) (entry : WindowEntry) (x : ℕ) {word used : ℕ} {shown : Shown}
    → used ≡ memory (sample depth x entry.low (widths_of entry.format).bits) → shown_of entry used ≡ shown
    → word ≡ value memory (shown_colour shown >>= through_gamma entry.bypass) → word ≡ value memory (plain_at depth entry x)
unfolding plain_at normal_at
plain_of_shown memory depth entry x of shows is =
    is ∙ ap (λ (s : Shown). value memory (shown_colour s >>= through_gamma entry.bypass)) (sym shows ∙ ap (shown_of entry) of)

module _ (entry : WindowEntry) (used : ℕ) where
  -- an 8-bit index shows the entry that stands as many behind the first of its bank
  pub shown_index8 : {first : ℕ} → entry.format ≡ Index8 → first ≡ entry_in_bank entry.bank (value_of Index8 0)
      → shown_of entry used ≡ MapEntry (first + bits used 0 (widths_of entry.format).bits)
  shown_index8 format is = rw (format, is, add-zero)

  -- a 12-bit index shows the entry that stands as many behind entry 0
  pub shown_index12 : entry.format ≡ Index12 → shown_of entry used ≡ MapEntry (0 + bits used 0 (widths_of entry.format).bits)
  shown_index12 format = rw (format, zero-add)

  -- in RGB a sample shows a colour of its own
  pub shown_rgb : (entry.format ≡ Rgb332) ⊎ (entry.format ≡ Rgb444) ⊎ (entry.format ≡ Rgb555) ⊎ (entry.format ≡ Rgb888) → shown_of entry used ≡ Colour (colour_in_format entry.format used)
  shown_rgb (inl format) = rw format
  shown_rgb (inr (inl format)) = rw format
  shown_rgb (inr (inr (inl format))) = rw format
  shown_rgb (inr (inr (inr format))) = rw format

module _ (memory : PixelCell → ℕ) (screen : Screen) (entry : WindowEntry) (x : ℕ) where
  -- where overlay counts, a pixel's overlay byte is that of the row
  pub overlay_byte_is : overlay_counts screen entry ≡ true → memory (overlay_byte x) ≡ value memory (overlay_at screen entry x)
  unfolding overlay_at
  overlay_byte_is counts = rw counts

  -- where overlay doesn't count, a pixel's overlay byte is 0
  pub overlay_none : overlay_counts screen entry ≡ false → 0 ≡ value memory (overlay_at screen entry x)
  unfolding overlay_at
  overlay_none not_counts = rw not_counts

  module _ {byte word : ℕ} (of : byte ≡ value memory (overlay_at screen entry x)) where
    -- where the overlay byte is 0, the plain colour shows under the cursor
    pub under_clear : byte ≡ 0 → word ≡ value memory (plain_at screen.depth entry x) → word ≡ value memory (under_cursor screen entry x)
    unfolding under_cursor
    under_clear none is = is ∙ sym (value_then memory (overlay_at screen entry x) _ ∙ rw (← of, eq-eqb byte 0 none))

    -- where the overlay byte is not 0, its colour shows under the cursor
    pub under_overlay : (byte ≡ 0 → ⊥) → word ≡ value memory (overlaid entry byte) → word ≡ value memory (under_cursor screen entry x)
    unfolding under_cursor
    under_overlay some is = is ∙ sym (value_then memory (overlay_at screen entry x) _ ∙ rw (← of, ne_eqb byte 0 some))

  module _ {number word : ℕ} (of : number ≡ value memory (cursor_at screen x)) where
    -- where no cursor colour shows, the pixel has the colour under the cursor
    pub colour_under : number ≡ 0 → word ≡ value memory (under_cursor screen entry x) → word ≡ value memory (colour_of_pixel screen entry x)
    unfolding colour_of_pixel
    colour_under none is = is ∙ sym (value_then memory (cursor_at screen x) _ ∙ rw (← of, eq-eqb number 0 none))

    -- where a cursor colour shows, the pixel has that colour
    pub colour_of_cursor : (number ≡ 0 → ⊥) → word ≡ value memory (cursor_shown screen entry number) → word ≡ value memory (colour_of_pixel screen entry x)
    unfolding colour_of_pixel
    colour_of_cursor some is = is ∙ sym (value_then memory (cursor_at screen x) _ ∙ rw (← of, ne_eqb number 0 some))

    -- where no cursor colour shows, what is under it stays
    pub or_under : number ≡ 0 → word ≡ value memory (cursor_or screen entry x word)
    unfolding cursor_or
    or_under none = sym (value_then memory (cursor_at screen x) _ ∙ rw (← of, eq-eqb number 0 none))

    -- where a cursor colour shows, it takes the place of what is under it
    pub or_cursor : (under : ℕ) → (number ≡ 0 → ⊥) → word ≡ value memory (cursor_shown screen entry number) → word ≡ value memory (cursor_or screen entry x under)
    unfolding cursor_or
    or_cursor under some is = is ∙ sym (value_then memory (cursor_at screen x) _ ∙ rw (← of, ne_eqb number 0 some))

  -- the cursor laid over what is under it gives the pixel's colour
  pub cursor_laid : value memory (cursor_or screen entry x (value memory (under_cursor screen entry x))) ≡ value memory (colour_of_pixel screen entry x)
  cursor_laid = by (eqb (value memory (cursor_at screen x)) 0) refl
    where
      -- by whether a cursor colour shows
      by : (none : Bool) → eqb (value memory (cursor_at screen x)) 0 ≡ none
          → value memory (cursor_or screen entry x (value memory (under_cursor screen entry x))) ≡ value memory (colour_of_pixel screen entry x)
      by true none = sym (or_under refl (eqb-true _ _ none)) ∙ colour_under refl (eqb-true _ _ none) refl
      by false some = sym (or_cursor refl _ (eqb-false _ _ some) refl) ∙ colour_of_cursor refl (eqb-false _ _ some) refl

module _ (memory : PixelCell → ℕ) where
  -- the colour of an overlay byte is its map entry through gamma
  pub overlay_of_map : (entry : WindowEntry) (byte : ℕ) {mapped word : ℕ} → mapped ≡ memory (map_entry (overlay_colours + byte))
      → word ≡ value memory (through_gamma entry.bypass mapped) → word ≡ value memory (overlaid entry byte)
  unfolding overlaid
  overlay_of_map entry byte map is = rw map at is

  -- a cursor colour is the stored one, through gamma unless that is skipped
  pub cursor_of_store : (screen : Screen) (entry : WindowEntry) (number : ℕ) {stored word : ℕ} → stored ≡ memory (cursor_colour number)
      → word ≡ value memory (through_gamma (cursor_skips_gamma screen entry) stored) → word ≡ value memory (cursor_shown screen entry number)
  unfolding cursor_shown
  cursor_of_store screen entry number holds is = rw holds at is

  module _ (entry : WindowEntry) {byte : ℕ} where
    -- a byte of 0 leaves what is under it
    pub or_clear : {under : ℕ} → byte ≡ 0 → under ≡ value memory (overlaid_or entry byte under)
    unfolding overlaid_or
    or_clear none = rw (eq-eqb byte 0 none)

    -- any other byte shows its colour
    pub or_overlay : (under : ℕ) {word : ℕ} → (byte ≡ 0 → ⊥) → word ≡ value memory (overlaid entry byte) → word ≡ value memory (overlaid_or entry byte under)
    unfolding overlaid_or
    or_overlay under some is = rw (ne_eqb byte 0 some) is

  -- overlay laid over a plain colour, where it counts, gives what is under the cursor
  pub overlay_laid : (screen : Screen) (entry : WindowEntry) (x : ℕ) → overlay_counts screen entry ≡ true
      → value memory (overlaid_or entry (memory (overlay_byte x)) (value memory (plain_at screen.depth entry x))) ≡ value memory (under_cursor screen entry x)
  overlay_laid screen entry x counts = by (eqb (memory (overlay_byte x)) 0) refl
    where
      -- by whether the byte is 0
      by : (clear : Bool) → eqb (memory (overlay_byte x)) 0 ≡ clear
          → value memory (overlaid_or entry (memory (overlay_byte x)) (value memory (plain_at screen.depth entry x))) ≡ value memory (under_cursor screen entry x)
      by true clear =
          sym (or_clear entry (eqb-true _ _ clear)) ∙ under_clear memory screen entry x (overlay_byte_is memory screen entry x counts) (eqb-true _ _ clear) refl
      by false some =
          sym (or_overlay entry _ (eqb-false _ _ some) refl) ∙ under_overlay memory screen entry x (overlay_byte_is memory screen entry x counts) (eqb-false _ _ some) refl

  -- where overlay doesn't count, the plain colour is what is under the cursor
  pub overlay_idle : (screen : Screen) (entry : WindowEntry) (x : ℕ) → overlay_counts screen entry ≡ false
      → value memory (plain_at screen.depth entry x) ≡ value memory (under_cursor screen entry x)
  overlay_idle screen entry x none = under_clear memory screen entry x (overlay_none memory screen entry x none) refl refl

  -- where no cursor colour shows, the cursor leaves what is under it
  pub cursor_idle : (screen : Screen) (entry : WindowEntry) (x under : ℕ) → value memory (cursor_at screen x) ≡ 0
      → value memory (cursor_or screen entry x under) ≡ under
  cursor_idle screen entry x under clear = sym (or_under memory screen entry x (sym clear) refl)
