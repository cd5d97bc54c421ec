-- Which cells of the gamma map a pixel's colour reads. Assumes nothing.
use Prim.Native.Nat.{ℕ, ◌+◌}
use mathlib.Core.Path.{◌≡◌, refl, sym, ap, subst, ◌∙◌}
use mathlib.Core.Bool.{Bool, true, false, cond, not}
use mathlib.Core.List.Memᴰ
use mathlib.Core.Logic.{◌⊎◌, inl, inr, ◌≢◌, ⊎_elim}
use lib.Dec.{eqb}
use borrow.Author.Tests.{eqb-true, eqb-false, eq-eqb, ne_eqb}
use Rattle.rules.specs.Rule.{Rule, get, reads, value, ◌>>=◌}
use Rattle.rules.proofs.Cases.{impossible}
use Rattle.rules.proofs.Asks.{Asks, asks_reads, asks_cond}
use Rattle.rules.proofs.Lists.{Among}
use Rattle.rules.proofs.Value.{read_value, value_read}
use Rattle.words.specs.Channels.{channels_of}
use Rattle.line_colour.specs.Shown.{shown_of}
use Rattle.line_colour.specs.declared.entry.WindowEntry.{WindowEntry}
use Rattle.line_colour.specs.declared.entry.Shown.{Shown}
use Rattle.line_colour.specs.declared.entry.Shown.TheVariants.{MapEntry, Colour}
use Rattle.line_pixels.specs.Cells.{Channel, in_red, in_green, in_blue, channel_in, PixelCell, glyph, cursor_colour, overlay_byte, sample, map_entry, gamma}
use Rattle.line_pixels.specs.Cursor.{in_glyph, cursor_at}
use Rattle.line_pixels.specs.Colour.{through_gamma, shown_colour, normal_at, plain_at, overlaid, overlay_counts, overlay_at, under_cursor, cursor_shown, colour_of_pixel}
use Rattle.line_pixels.specs.declared.Screen.{Screen}
use Rattle.line_pixels.proofs.LayersCases.{overlay_byte_is, overlay_none}
use Rattle.line_pixels.proofs.CursorShows.{CursorShows, shows_answered, answered_shows}
use Rattle.line_pixels.proofs.PixelShows.{Beneath, of_overlay, of_normal, byte_in, channel_byte, switch_off, switches_on}

-- a byte of the gamma map counts for a pixel: the cursor shows none there, the window entry doesn't bypass gamma, and the byte stands in the word that the same channel of the colour under the cursor indexes
pub record GammaCounts (memory : PixelCell → ℕ) (screen : Screen) (entry : WindowEntry) (x : ℕ) (channel : Channel) (number : ℕ) : Type 0 where
  pub transparent : CursorShows memory screen x 0
  pub corrects : entry.bypass ≡ false
  pub word : ℕ
  pub beneath : Beneath memory screen entry x word
  pub indexed : number ≡ byte_in channel word

-- ---- rules that read no gamma cell

-- a cell is no byte of the gamma map
abbrev NoGamma : PixelCell → Type 0
NoGamma (glyph row column) = Unit {0}
NoGamma (cursor_colour number) = Unit {0}
NoGamma (overlay_byte x) = Unit {0}
NoGamma (sample depth x low count) = Unit {0}
NoGamma (map_entry entry) = Unit {0}
NoGamma (gamma channel entry) = ⊥

-- the cursor's cell is none
cursor_asks : (screen : Screen) (x : ℕ) → Asks NoGamma (cursor_at screen x)
unfolding cursor_at
cursor_asks screen x =
    asks_cond NoGamma (not screen.cursor) _ _ tt
    (asks_cond NoGamma screen.crosshair _ _ tt (asks_cond NoGamma (in_glyph screen x) _ _ (tt, λ held. tt) tt))

-- the overlay byte is none
overlay_asks : (screen : Screen) (entry : WindowEntry) (x : ℕ) → Asks NoGamma (overlay_at screen entry x)
unfolding overlay_at
overlay_asks screen entry x = asks_cond NoGamma (overlay_counts screen entry) _ _ (tt, λ held. tt) tt

-- what a sample shows is none
shown_asks : (shown : Shown) → Asks NoGamma (shown_colour shown)
shown_asks (MapEntry entry) = (tt, λ held. tt)
shown_asks (Colour colour) = tt

-- a sample and what it shows are none
normal_asks : (depth : ℕ) (entry : WindowEntry) (x : ℕ) → Asks NoGamma (normal_at depth entry x)
unfolding normal_at
normal_asks depth entry x = (tt, λ held. shown_asks (shown_of entry held))

-- ---- the overlay byte

module _ (memory : PixelCell → ℕ) (screen : Screen) (entry : WindowEntry) (x : ℕ) where
  -- where both switches are on, the overlay byte is that of the row
  byte_by : screen.overlay ≡ true → entry.overlay ≡ true → memory (overlay_byte x) ≡ value memory (overlay_at screen entry x)
  byte_by on allowed = overlay_byte_is memory screen entry x (switches_on memory screen entry x on allowed)

  -- where a switch is off or the byte of the row is 0, the overlay byte is 0
  by_clear : (screen.overlay ≡ false) ⊎ ((entry.overlay ≡ false) ⊎ (memory (overlay_byte x) ≡ 0)) → value memory (overlay_at screen entry x) ≡ 0
  by_clear (inl off) = sym (overlay_none memory screen entry x (switch_off memory screen entry x (inl off)))
  by_clear (inr (inl off)) = sym (overlay_none memory screen entry x (switch_off memory screen entry x (inr off)))
  by_clear (inr (inr clear)) = by (overlay_counts screen entry) refl
    where
      -- a byte of 0 is one whether overlay counts or not
      by : (counts : Bool) → overlay_counts screen entry ≡ counts → value memory (overlay_at screen entry x) ≡ 0
      by true counts = sym (overlay_byte_is memory screen entry x counts) ∙ clear
      by false counts = sym (overlay_none memory screen entry x counts)

  -- where the overlay byte is 0, a switch is off or the byte of the row is 0
  clear_by : value memory (overlay_at screen entry x) ≡ 0 → (screen.overlay ≡ false) ⊎ ((entry.overlay ≡ false) ⊎ (memory (overlay_byte x) ≡ 0))
  clear_by clear = by screen.overlay entry.overlay refl refl
    where
      -- by the two switches
      by : (on allowed : Bool) → screen.overlay ≡ on → entry.overlay ≡ allowed → (screen.overlay ≡ false) ⊎ ((entry.overlay ≡ false) ⊎ (memory (overlay_byte x) ≡ 0))
      by false allowed o a = inl o
      by true false o a = inr (inl a)
      by true true o a = inr (inr (byte_by o a ∙ clear))

  -- where the overlay byte is not 0, both switches are on and it is that of the row
  shows_by : value memory (overlay_at screen entry x) ≢ 0
      → (screen.overlay ≡ true) × ((entry.overlay ≡ true) × (memory (overlay_byte x) ≡ value memory (overlay_at screen entry x)))
  shows_by shows = by screen.overlay entry.overlay refl refl
    where
      -- by the two switches
      by : (on allowed : Bool) → screen.overlay ≡ on → entry.overlay ≡ allowed
          → (screen.overlay ≡ true) × ((entry.overlay ≡ true) × (memory (overlay_byte x) ≡ value memory (overlay_at screen entry x)))
      by false allowed o a = absurd (shows (by_clear (inl o)))
      by true false o a = absurd (shows (by_clear (inr (inl a))))
      by true true o a = (o, (a, byte_by o a))

-- ---- what is read for gamma

-- each channel of a colour that goes through gamma is read
through_all : (memory : PixelCell → ℕ) (skips : Bool) (each : Channel) (word : ℕ) → skips ≡ false
    → Among (gamma each (channel_in each (channels_of word))) (reads memory (through_gamma skips word))
unfolding through_gamma
through_all memory true each word through = impossible (cc)
through_all memory false in_red word through = Memᴰ.head refl
through_all memory false in_green word through = Memᴰ.tail (Memᴰ.head refl)
through_all memory false in_blue word through = Memᴰ.tail (Memᴰ.tail (Memᴰ.head refl))

module _ (memory : PixelCell → ℕ) {channel : Channel} {number : ℕ} where
  -- what comes after a rule without gamma cells reads the gamma cell
  after_reads : {A : Type 0} (rule : Rule ⊥ PixelCell A) (after : A → Rule ⊥ PixelCell ℕ) → Asks NoGamma rule
      → Among (gamma channel number) (reads memory (rule >>= after)) → Among (gamma channel number) (reads memory (after (value memory rule)))
  after_reads rule after asks here =
      ⊎_elim (λ first. absurd (asks_reads NoGamma memory rule asks _ first)) (λ later. later) (read_value memory rule after here)

  -- a gamma cell is one of the three that a word's bytes index
  same_cell : (other : Channel) (word : ℕ) → gamma channel number ≡ gamma other (channel_in other (channels_of word)) → number ≡ byte_in channel word
  same_cell other word e =
      let same : channel ≡ other = cc in
      let is : number ≡ channel_in other (channels_of word) = cc in
      is ∙ channel_byte other word ∙ ap (λ (c : Channel). byte_in c word) (sym same)

  -- a colour through gamma reads that channel of the gamma word that the same byte of it indexes
  through_reads : (skips : Bool) (word : ℕ) → Among (gamma channel number) (reads memory (through_gamma skips word))
      → (skips ≡ false) × (number ≡ byte_in channel word)
  unfolding through_gamma
  through_reads true word here = absurd (Memᴰ.not-nil here)
  through_reads false word here = (
    refl,
    ⊎_elim (same_cell in_red word)
        (λ others. ⊎_elim (same_cell in_green word) (λ blue. same_cell in_blue word (Memᴰ.eq_of_singleton blue)) (Memᴰ.cases_cons others))
        (Memᴰ.cases_cons here),
  )

  -- the channel of the gamma word that the same byte of the colour indexes is read
  reads_through : (skips : Bool) (word : ℕ) → skips ≡ false → number ≡ byte_in channel word → Among (gamma channel number) (reads memory (through_gamma skips word))
  reads_through skips word through is = Memᴰ.cast (ap (gamma channel) (is ∙ sym (channel_byte channel word))) (through_all memory skips channel word through)

  module _ (screen : Screen) (entry : WindowEntry) (x : ℕ) where
    -- what is read under the cursor where overlay is clear counts
    plain_counts : CursorShows memory screen x 0 → value memory (overlay_at screen entry x) ≡ 0
        → Among (gamma channel number) (reads memory (plain_at screen.depth entry x)) → GammaCounts memory screen entry x channel number
    unfolding plain_at
    plain_counts transparent clear here =
        let found = through_reads entry.bypass (value memory (normal_at screen.depth entry x)) (after_reads (normal_at screen.depth entry x) _ (normal_asks screen.depth entry x) here) in
        record {
          transparent = transparent;
          corrects = found.0;
          word = value memory (normal_at screen.depth entry x);
          beneath = of_normal (clear_by memory screen entry x clear) refl;
          indexed = found.1;
        }

    -- what is read under the cursor where overlay shows counts
    overlaid_counts : CursorShows memory screen x 0 → value memory (overlay_at screen entry x) ≢ 0
        → Among (gamma channel number) (reads memory (overlaid entry (value memory (overlay_at screen entry x)))) → GammaCounts memory screen entry x channel number
    unfolding overlaid
    overlaid_counts transparent shows here =
        let byte = shows_by memory screen entry x shows in
        let word = memory (map_entry (4352 + value memory (overlay_at screen entry x))) in
        let found = through_reads entry.bypass word (after_reads (get (map_entry (4352 + value memory (overlay_at screen entry x)))) (through_gamma entry.bypass) (tt, λ held. tt) here) in
        record {
          transparent = transparent;
          corrects = found.0;
          word = word;
          beneath = of_overlay byte.0 byte.1.0 (rw byte.1.1 shows) (rw byte.1.1);
          indexed = found.1;
        }

    -- a byte of the gamma map that a pixel's colour reads counts for the pixel
    pub gamma_read_counts : Among (gamma channel number) (reads memory (colour_of_pixel screen entry x)) → GammaCounts memory screen entry x channel number
    unfolding colour_of_pixel under_cursor cursor_shown
    gamma_read_counts here =
        by (eqb (value memory (cursor_at screen x)) 0) refl (after_reads (cursor_at screen x) _ (cursor_asks screen x) here)
      where
        -- under the cursor the layer that shows is read
        under : CursorShows memory screen x 0 → (clear : Bool) → eqb (value memory (overlay_at screen entry x)) 0 ≡ clear
            → Among (gamma channel number) (reads memory (cond clear (plain_at screen.depth entry x) (overlaid entry (value memory (overlay_at screen entry x)))))
            → GammaCounts memory screen entry x channel number
        under transparent true e there = plain_counts transparent (eqb-true _ _ e) there
        under transparent false e there = overlaid_counts transparent (eqb-false _ _ e) there

        -- a cursor colour goes through no gamma
        by : (clear : Bool) → eqb (value memory (cursor_at screen x)) 0 ≡ clear
            → Among (gamma channel number) (reads memory (cond clear (under_cursor screen entry x) (cursor_shown screen entry (value memory (cursor_at screen x)))))
            → GammaCounts memory screen entry x channel number
        by true e there =
            under (subst (CursorShows memory screen x) (eqb-true _ _ e) (answered_shows memory screen x)) (eqb (value memory (overlay_at screen entry x)) 0) refl
            (after_reads (overlay_at screen entry x) _ (overlay_asks screen entry x) there)
        by false e there =
            let found = through_reads true _ (after_reads (get (cursor_colour (value memory (cursor_at screen x)))) (through_gamma true) (tt, λ held. tt) there) in
            impossible (cc)

    -- a byte of the gamma map that counts for a pixel is read for its colour
    pub gamma_counts_read : GammaCounts memory screen entry x channel number → Among (gamma channel number) (reads memory (colour_of_pixel screen entry x))
    unfolding colour_of_pixel under_cursor overlaid plain_at
    gamma_counts_read counts =
        value_read memory (cursor_at screen x) _
        (inr (rw (eq-eqb _ _ (shows_answered memory screen x counts.transparent)) (value_read memory (overlay_at screen entry x) _ (inr (by counts.beneath)))))
      where
        -- the layer that shows goes through gamma
        by : Beneath memory screen entry x counts.word
            → Among (gamma channel number) (reads memory (cond (eqb (value memory (overlay_at screen entry x)) 0) (plain_at screen.depth entry x) (overlaid entry (value memory (overlay_at screen entry x)))))
        by (of_overlay on allowed some is) =
            rw (← byte_by memory screen entry x on allowed, ne_eqb _ _ some)
            (value_read memory (get (map_entry (4352 + memory (overlay_byte x)))) (through_gamma entry.bypass) (inr (reads_through entry.bypass _ counts.corrects (rw is at counts.indexed))))
        by (of_normal clear is) =
            rw (eq-eqb _ _ (by_clear memory screen entry x clear))
            (value_read memory (normal_at screen.depth entry x) _ (inr (reads_through entry.bypass _ counts.corrects (rw is at counts.indexed))))
