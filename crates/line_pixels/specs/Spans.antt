-- The pixels of a run at which the cursor can show.
use Rattle.std.specs.Prelude.{ℕ, ◌+◌, ◌≤◌, ◌<◌, ◌≡◌}
use Rattle.rules.specs.Rule.{value}
use Rattle.line_pixels.specs.Cells.{PixelCell}
use Rattle.line_pixels.specs.Cursor.{cursor_at}
use Rattle.line_pixels.specs.declared.Screen.{Screen}
use Rattle.std.specs.declared.ops.Range.{Range}

-- a pixel of a run from x on is in a span of it
abbrev pub InSpan : ℕ → Range ℕ → ℕ → Type 0
InSpan x span p = (x + span.start ≤ p) × (p < x + span.end)

-- a span of a run of `count` pixels from x on that has each of them from pixel `first` to pixel `last`
pub record CommonSpan (x count first last : ℕ) (span : Range ℕ) : Type 0 where
  pub starts : span.start ≤ span.end
  pub ends : span.end ≤ count
  pub has : (p : ℕ) → x ≤ p → p < x + count → first ≤ p → p ≤ last → InSpan x span p

-- a span of a run of `count` pixels from x on outside which no cursor colour shows
pub record NoneBeside (screen : Screen) (x count : ℕ) (span : Range ℕ) : Type 0 where
  pub starts : span.start ≤ span.end
  pub ends : span.end ≤ count
  pub beside : (p : ℕ) → x ≤ p → p < x + count → (InSpan x span p → ⊥) → (memory : PixelCell → ℕ) → value memory (cursor_at screen p) ≡ 0
