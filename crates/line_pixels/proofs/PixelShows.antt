-- The colour of a pixel by the layer that shows, in the paper's own numbers. Assumes nothing.
use Prim.Native.Nat.{ℕ, ◌+◌, ◌*◌, ◌/◌, ◌%◌}
use mathlib.Core.Path.{◌≡◌, refl, sym, ◌∙◌}
use mathlib.Core.Bool.{Bool, true, false, and-false}
use mathlib.Core.Logic.{◌⊎◌, inl, inr, ◌≢◌}
use native.Mathlib.Omega.{arith}
use lib.Dec.{eqb}
use borrow.Author.Tests.{eqb-true, eqb-false}
use Rattle.rules.specs.Rule.{value}
use Rattle.words.specs.Channels.{channels_of}
use Rattle.line_colour.specs.declared.entry.WindowEntry.{WindowEntry}
use Rattle.line_pixels.specs.Cells.{Channel, in_red, in_green, in_blue, channel_in, PixelCell, cursor_colour, overlay_byte, map_entry, gamma}
use Rattle.line_pixels.specs.Colour.{through_gamma, normal_at, overlay_counts, under_cursor, colour_of_pixel}
use Rattle.line_pixels.specs.declared.Screen.{Screen}
use Rattle.line_pixels.proofs.Gamma.{gamma_skipped}
use Rattle.line_pixels.proofs.LayersCases.{plain_of_normal, overlay_byte_is, overlay_none, under_clear, under_overlay, colour_under, colour_of_cursor, overlay_of_map, cursor_of_store}
use Rattle.line_pixels.proofs.CursorShows.{CursorShows, shows_answered}

-- the colour under the cursor before gamma: of overlay map entry 4,352 + byte, where both switches are on and the byte is not 0; else the normal colour
pub data Beneath (memory : PixelCell → ℕ) (screen : Screen) (entry : WindowEntry) (x word : ℕ) : Type 0 where
  of_overlay : screen.overlay ≡ true → entry.overlay ≡ true → memory (overlay_byte x) ≢ 0 → word ≡ memory (map_entry (4352 + memory (overlay_byte x)))
      → Beneath memory screen entry x word
  of_normal : (screen.overlay ≡ false) ⊎ ((entry.overlay ≡ false) ⊎ (memory (overlay_byte x) ≡ 0))
      → word ≡ value memory (normal_at screen.depth entry x) → Beneath memory screen entry x word

-- the byte of a word that is a channel: red the third from the end, green the second, blue the last
abbrev pub byte_in : Channel → ℕ → ℕ
byte_in in_red word = word / 65536 % 256
byte_in in_green word = word / 256 % 256
byte_in in_blue word = word % 256

-- a channel of a word's colour is that byte of it
pub channel_byte : (channel : Channel) (word : ℕ) → channel_in channel (channels_of word) ≡ byte_in channel word
channel_byte in_red word = refl
channel_byte in_green word = refl
channel_byte in_blue word = omega arith

module _ (memory : PixelCell → ℕ) (screen : Screen) (entry : WindowEntry) (x : ℕ) where
  -- where one switch is off, overlay doesn't count
  pub switch_off : (screen.overlay ≡ false) ⊎ (entry.overlay ≡ false) → overlay_counts screen entry ≡ false
  switch_off (inl off) = rw off
  switch_off (inr off) = rw off (and-false screen.overlay)

  -- where both switches are on, overlay counts
  pub switches_on : screen.overlay ≡ true → entry.overlay ≡ true → overlay_counts screen entry ≡ true
  switches_on on allowed = rw on allowed

  -- some colour is under the cursor
  pub some_beneath : (word : ℕ) × Beneath memory screen entry x word
  some_beneath = by screen.overlay entry.overlay (eqb (memory (overlay_byte x)) 0) refl refl refl
    where
      -- overlay shows where both switches are on and the byte is not 0
      by : (on allowed clear : Bool) → screen.overlay ≡ on → entry.overlay ≡ allowed → eqb (memory (overlay_byte x)) 0 ≡ clear
          → (word : ℕ) × Beneath memory screen entry x word
      by true true false o a c = (_, of_overlay o a (eqb-false _ _ c) refl)
      by true true true o a c = (_, of_normal (inr (inr (eqb-true _ _ c))) refl)
      by true false clear o a c = (_, of_normal (inr (inl a)) refl)
      by false allowed clear o a c = (_, of_normal (inl o) refl)

  -- what shows under the cursor is the colour there through gamma
  pub beneath_through : {word : ℕ} → Beneath memory screen entry x word → value memory (through_gamma entry.bypass word) ≡ value memory (under_cursor screen entry x)
  beneath_through (of_overlay on allowed some is) =
      under_overlay memory screen entry x (overlay_byte_is memory screen entry x (switches_on on allowed)) some
      (overlay_of_map memory entry (memory (overlay_byte x)) is refl)
  beneath_through (of_normal (inl off) is) =
      under_clear memory screen entry x (overlay_none memory screen entry x (switch_off (inl off))) refl (plain_of_normal memory screen.depth entry x is refl)
  beneath_through (of_normal (inr (inl off)) is) =
      under_clear memory screen entry x (overlay_none memory screen entry x (switch_off (inr off))) refl (plain_of_normal memory screen.depth entry x is refl)
  beneath_through {word} (of_normal (inr (inr clear)) is) = by (overlay_counts screen entry) refl
    where
      -- a byte of 0 is transparent whether overlay counts or not
      by : (counts : Bool) → overlay_counts screen entry ≡ counts → value memory (through_gamma entry.bypass word) ≡ value memory (under_cursor screen entry x)
      by true counts =
          under_clear memory screen entry x (overlay_byte_is memory screen entry x counts) clear (plain_of_normal memory screen.depth entry x is refl)
      by false counts =
          under_clear memory screen entry x (overlay_none memory screen entry x counts) refl (plain_of_normal memory screen.depth entry x is refl)

  -- where the cursor shows a colour, the pixel has that colour as it is stored, whatever window entry and gamma map say
  pub cursor_colour_shown : {number : ℕ} → CursorShows memory screen x number → number ≢ 0
      → value memory (colour_of_pixel screen entry x) ≡ memory (cursor_colour number)
  cursor_colour_shown {number} shows some =
      sym (colour_of_cursor memory screen entry x (sym (shows_answered memory screen x shows)) some
      (cursor_of_store memory screen entry number refl (gamma_skipped memory (memory (cursor_colour number)) refl)))

  module _ (transparent : CursorShows memory screen x 0) {word : ℕ} (beneath : Beneath memory screen entry x word) where
    -- where the cursor shows none, the pixel has the colour under it through gamma
    through_shown : value memory (colour_of_pixel screen entry x) ≡ value memory (through_gamma entry.bypass word)
    through_shown =
        sym (colour_under memory screen entry x (sym (shows_answered memory screen x transparent)) refl (beneath_through beneath))

    -- where the window entry bypasses gamma, that is the colour as it is
    pub bypassed_shown : entry.bypass ≡ true → value memory (colour_of_pixel screen entry x) ≡ word
    bypassed_shown skips = through_shown ∙ sym (gamma_skipped memory word skips)

    -- else each channel is the same channel of the gamma word that it indexes: red is the third byte from the end, green the second, blue the last
    pub corrected_shown : entry.bypass ≡ false
        → value memory (colour_of_pixel screen entry x)
        ≡ memory (gamma in_red (word / 65536 % 256)) * 65536 + memory (gamma in_green (word / 256 % 256)) * 256 + memory (gamma in_blue (word % 256))
    unfolding through_gamma
    corrected_shown through =
        through_shown ∙ rw (through, channel_byte in_blue word)
