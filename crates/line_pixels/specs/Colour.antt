-- The colour of a pixel under a defined window entry. Nothing here refuses.
use Rattle.std.specs.Prelude.{ℕ, ◌+◌, ◌≡◌, Bool, true, cond, ◌&&◌, eqb, Some}
use Rattle.rules.specs.Rule.{Rule, done, get, ◌>>=◌}
use Rattle.words.specs.Channels.{channels_of, word_of}
use Rattle.line_formats.specs.Table.{widths_of}
use Rattle.line_colour.specs.Entry.{decoded}
use Rattle.line_colour.specs.Shown.{shown_of}
use Rattle.line_colour.specs.declared.entry.WindowEntry.{WindowEntry}
use Rattle.line_colour.specs.declared.entry.Shown.{Shown}
use Rattle.line_colour.specs.declared.entry.Shown.TheVariants.{MapEntry, Colour}
use Rattle.line_pixels.specs.Cells.{Channel, in_red, in_green, in_blue, channel_in, PixelCell, cursor_colour, overlay_byte, sample, map_entry, gamma}
use Rattle.line_pixels.specs.Cursor.{cursor_at}
use Rattle.line_pixels.specs.declared.Screen.{Screen}

-- an entry is what some window entry says at a depth
abbrev pub SaidAt : ℕ → WindowEntry → Type 0
SaidAt depth entry = (word : ℕ) × (decoded word depth ≡ Some entry)

-- a cursor colour is shown as it is stored, whatever the screen and the window entry under the cursor say (CHIP 6.4)
abbrev pub cursor_skips_gamma : Screen → WindowEntry → Bool
cursor_skips_gamma screen entry = true

-- the same channel of the gamma word that a channel of a colour indexes (CHIP 6.3)
abbrev pub corrected_in : Channel → ℕ → Rule ⊥ PixelCell ℕ
corrected_in channel word = get (gamma channel (channel_in channel (channels_of word)))

-- a colour through gamma, unless it skips it (CHIP 6.3)
unfoldable pub through_gamma : Bool → ℕ → Rule ⊥ PixelCell ℕ
through_gamma skips word = cond skips (done word) (do
  red ← corrected_in in_red word
  green ← corrected_in in_green word
  blue ← corrected_in in_blue word
  done (word_of (record { red = red; green = green; blue = blue })))

-- what a sample shows: an entry of the map or a colour of its own (CHIP 5.5, 5.6)
abbrev pub shown_colour : Shown → Rule ⊥ PixelCell ℕ
shown_colour (MapEntry entry) = get (map_entry entry)
shown_colour (Colour colour) = done (word_of colour)

-- the normal colour of a pixel: the used bits of the chosen buffer, and what they show (CHIP 5.3)
unfoldable pub normal_at : ℕ → WindowEntry → ℕ → Rule ⊥ PixelCell ℕ
normal_at depth entry x = do
  used ← get (sample depth x entry.low (widths_of entry.format).bits)
  shown_colour (shown_of entry used)

-- the plain colour of a pixel: the normal one through gamma (CHIP 6.3)
unfoldable pub plain_at : ℕ → WindowEntry → ℕ → Rule ⊥ PixelCell ℕ
plain_at depth entry x = normal_at depth entry x >>= through_gamma entry.bypass

-- the map entry of overlay byte 0: the overlay colours stand from it on, that of a byte as many entries behind it (CHIP 6.2)
abbrev pub overlay_colours : ℕ
overlay_colours = 4352

-- the colour of an overlay byte, through gamma (CHIP 6.2, 6.3)
unfoldable pub overlaid : WindowEntry → ℕ → Rule ⊥ PixelCell ℕ
overlaid entry byte = get (map_entry (overlay_colours + byte)) >>= through_gamma entry.bypass

-- overlay is looked at where the control word and the window entry both say so (CHIP 6.2)
abbrev pub overlay_counts : Screen → WindowEntry → Bool
overlay_counts screen entry = screen.overlay && entry.overlay

-- the overlay byte of a pixel, 0 where overlay doesn't count (CHIP 6.2)
unfoldable pub overlay_at : Screen → WindowEntry → ℕ → Rule ⊥ PixelCell ℕ
overlay_at screen entry x = cond (overlay_counts screen entry) (get (overlay_byte x)) (done 0)

-- what shows where the cursor doesn't: overlay, or the normal colour where its byte is 0 (CHIP 6.1, 6.2)
unfoldable pub under_cursor : Screen → WindowEntry → ℕ → Rule ⊥ PixelCell ℕ
under_cursor screen entry x = do
  byte ← overlay_at screen entry x
  cond (eqb byte 0) (plain_at screen.depth entry x) (overlaid entry byte)

-- a cursor colour over a window entry (CHIP 6.4)
unfoldable pub cursor_shown : Screen → WindowEntry → ℕ → Rule ⊥ PixelCell ℕ
cursor_shown screen entry number = get (cursor_colour number) >>= through_gamma (cursor_skips_gamma screen entry)

-- the colour of a pixel: the cursor's where one shows (CHIP 6.1)
unfoldable pub colour_of_pixel : Screen → WindowEntry → ℕ → Rule ⊥ PixelCell ℕ
colour_of_pixel screen entry x = do
  number ← cursor_at screen x
  cond (eqb number 0) (under_cursor screen entry x) (cursor_shown screen entry number)
