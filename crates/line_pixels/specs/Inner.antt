-- What the functions inside ask of lent memory, and say of a rule that looks at a part of it.
use Rattle.std.specs.Prelude.{ℕ, ◌+◌, ◌*◌, ◌/◌, ◌%◌, ◌≤◌, ◌<◌, ◌≡◌, Bool, true, false, cond, ◌⊎◌, List, eqb, length, get_or}
use Rattle.rules.specs.Rule.{Rule, done, value, ◌>>=◌}
use Rattle.rules.specs.Lists.{changed}
use Rattle.words.specs.Field.{bits}
use Rattle.words.specs.Bytes.{big_endian}
use Rattle.chip_registers.specs.Store.{store_length, stored}
use Rattle.chip_registers.specs.declared.Block.TheVariants.{ColourMap}
use Rattle.line_formats.specs.Table.{widths_of}
use Rattle.line_colour.specs.Shown.{shown_of}
use Rattle.line_colour.specs.declared.entry.WindowEntry.{WindowEntry}
use Rattle.line_colour.specs.declared.entry.Shown.TheVariants.{MapEntry}
use Rattle.line_pixels.specs.Cells.{PixelCell, pixel_view}
use Rattle.line_pixels.specs.Cursor.{cursor_at}
use Rattle.line_pixels.specs.Colour.{SaidAt, through_gamma, overlaid, overlay_counts, cursor_shown}
use Rattle.line_pixels.specs.declared.Screen.{Screen}

-- enough is lent for the plain colour of each pixel before `end`: the entry is said at the depth, the store is whole, and the normal row has those pixels
pub record PlainLent (depth : ℕ) (entry : WindowEntry) (store normal : List ℕ) (end : ℕ) : Type 0 where
  pub said : SaidAt depth entry
  pub store_long : length store ≡ store_length
  pub normal_long : end * (depth / 8) ≤ length normal

-- the normal row has each pixel before `end`, at the depth at which the entry is said
abbrev pub RowLent : ℕ → WindowEntry → List ℕ → ℕ → Type 0
RowLent depth entry normal end = SaidAt depth entry × (end * (depth / 8) ≤ length normal)

-- the overlay row has each pixel before `end`, where overlay counts
abbrev pub OverlayLent : Screen → WindowEntry → List ℕ → ℕ → Type 0
OverlayLent screen entry overlay end = overlay_counts screen entry ≡ true → end ≤ length overlay

-- enough is lent for the colour of each pixel before `end`, whichever layer shows
pub record PixelsLent (screen : Screen) (entry : WindowEntry) (store normal overlay : List ℕ) (end : ℕ) : Type 0 where
  pub plain : PlainLent screen.depth entry store normal end
  pub overlay_long : OverlayLent screen entry overlay end

-- a rule has this value, whatever the rows hold
abbrev pub OverStore : List ℕ → Rule ⊥ PixelCell ℕ → ℕ → Type 0
OverStore store rule colour = (normal overlay : List ℕ) → colour ≡ value (pixel_view store normal overlay) rule

-- a test whether a place is one of `count` from `first` on
abbrev pub Among : ℕ → ℕ → ℕ → Bool → Type 0
Among place first count is =
    (is ≡ true → (first ≤ place) × (place < first + count)) × (is ≡ false → (place < first) ⊎ (first + count ≤ place))

-- samples under an entry show map entries, each counted from entry `first` by its bits
abbrev pub CountedFrom : WindowEntry → ℕ → Type 0
CountedFrom entry first = (sample : ℕ) → shown_of entry sample ≡ MapEntry (first + bits sample 0 (widths_of entry.format).bits)

-- the 12-bit index in two bytes
abbrev pub index_in : List ℕ → ℕ → ℕ
index_in bytes at = bits (big_endian bytes at 2) 0 12

-- the colour of that index
abbrev pub indexed_colour : List ℕ → List ℕ → ℕ → ℕ
indexed_colour store bytes at = stored store (record { block = ColourMap; word = index_in bytes at })

-- words gone through gamma, unless they bypass it, whatever the rows hold
abbrev pub Corrected : List ℕ → Bool → List ℕ → List ℕ → Type 0
Corrected store bypass before after =
    (normal overlay : List ℕ) → after ≡ changed (λ _ word. value (pixel_view store normal overlay) (through_gamma bypass word)) 0 before (length before)

-- the red of gamma word k, where it stands in a colour
abbrev pub gamma_red : List ℕ → ℕ → ℕ
gamma_red store k = get_or store (4640 + k) 0 / 65536 % 256 * 65536

-- the green of gamma word k, where it stands in a colour
abbrev pub gamma_green : List ℕ → ℕ → ℕ
gamma_green store k = get_or store (4640 + k) 0 / 256 % 256 * 256

-- the blue of gamma word k, where it stands in a colour
abbrev pub gamma_blue : List ℕ → ℕ → ℕ
gamma_blue store k = get_or store (4640 + k) 0 % 256

-- word k of three tables is a channel of gamma word k, where it stands in a colour
pub record SplitAt (store red green blue : List ℕ) (k : ℕ) : Type 0 where
  pub in_red : get_or red k 0 ≡ gamma_red store k
  pub in_green : get_or green k 0 ≡ gamma_green store k
  pub in_blue : get_or blue k 0 ≡ gamma_blue store k

-- 256 words of three tables are the channels of the gamma words
abbrev pub SplitBy : List ℕ → List ℕ → List ℕ → List ℕ → Type 0
SplitBy store red green blue = (k : ℕ) → k < 256 → SplitAt store red green blue k

-- no word of three tables is more than a channel, where it stands in a colour
abbrev pub TablesFit : List ℕ → List ℕ → List ℕ → Type 0
TablesFit red green blue = (k : ℕ) → k < 256 → (get_or red k 0 ≤ 255 * 65536) × (get_or green k 0 ≤ 255 * 256) × (get_or blue k 0 ≤ 255)

-- a word through three tables, each indexed by a channel
abbrev pub by_tables : List ℕ → List ℕ → List ℕ → ℕ → ℕ
by_tables red green blue word = get_or red (word / 65536 % 256) 0 + get_or green (word / 256 % 256) 0 + get_or blue (word % 256) 0

-- two tables have the final words of a format whose channels have `values` values each: pair k is red k % values and green k / values together, and a value picks the gamma word of the value widened, which is so many quarters of it
pub record PairedBy (store : List ℕ) (values quarters : ℕ) (pairs blues : List ℕ) : Type 0 where
  pub pairs_long : length pairs ≡ values * values
  pub blues_long : length blues ≡ values
  pub in_pairs : (k : ℕ) → k < values * values → get_or pairs k 0 ≡ gamma_red store (quarters * (k % values) / 4) + gamma_green store (quarters * (k / values) / 4)
  pub in_blues : (v : ℕ) → v < values → get_or blues v 0 ≡ gamma_blue store (quarters * v / 4)

-- two such tables are as long as they must be, and no word of theirs is more than its channels, where they stand in a colour
pub record PairsFit (values : ℕ) (pairs blues : List ℕ) : Type 0 where
  pub pairs_long : length pairs ≡ values * values
  pub blues_long : length blues ≡ values
  pub pairs_fit : (k : ℕ) → k < values * values → get_or pairs k 0 ≤ 255 * 65536 + 255 * 256
  pub blues_fit : (v : ℕ) → v < values → get_or blues v 0 ≤ 255

-- the colour of two bytes in RGB 4-4-4 by two such tables
abbrev pub paired_444 : List ℕ → List ℕ → List ℕ → ℕ → ℕ
paired_444 pairs blues bytes at = get_or pairs (get_or bytes (at + 1) 0) 0 + get_or blues (get_or bytes at 0 % 16) 0

-- the colour of two bytes in RGB 5-5-5 by two such tables
abbrev pub paired_555 : List ℕ → List ℕ → List ℕ → ℕ → ℕ
paired_555 pairs blues bytes at = get_or pairs (get_or bytes at 0 % 4 * 256 + get_or bytes (at + 1) 0) 0 + get_or blues (get_or bytes at 0 / 4 % 32) 0

-- the colour of an overlay byte, or what is under it where the byte is 0
unfoldable pub overlaid_or : WindowEntry → ℕ → ℕ → Rule ⊥ PixelCell ℕ
overlaid_or entry byte under = cond (eqb byte 0) (done under) (overlaid entry byte)

-- a byte's colour among 256, or what is under it where the byte is 0
abbrev pub overlaid_by : List ℕ → ℕ → ℕ → ℕ
overlaid_by colours byte under = cond (eqb byte 0) under (get_or colours byte 0)

-- the cursor colour of a pixel, or what is under it where none shows
unfoldable pub cursor_or : Screen → WindowEntry → ℕ → ℕ → Rule ⊥ PixelCell ℕ
cursor_or screen entry x under = do
  number ← cursor_at screen x
  cond (eqb number 0) (done under) (cursor_shown screen entry number)
