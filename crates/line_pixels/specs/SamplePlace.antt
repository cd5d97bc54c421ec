-- Where the samples of a run stand in the normal row.
use Rattle.std.specs.Prelude.{ℕ, ◌+◌, ◌-◌, ◌*◌, ◌/◌, cond, leb}
use Rattle.line_formats.specs.Table.{widths_of}
use Rattle.line_colour.specs.declared.entry.WindowEntry.{WindowEntry}
use Rattle.line_pixels.specs.declared.source.Source.{Source}

-- how many bytes, of one, two and four, hold a sample's bits
abbrev pub held_by : WindowEntry → ℕ
held_by entry = let used = (widths_of entry.format).bits in cond (leb used 8) 1 (cond (leb used 16) 2 4)

-- where, of the pixels from x on, the bytes stand that hold the sample of pixel i, which starts at bit `low`
abbrev pub place_at : ℕ → ℕ → ℕ → ℕ → ℕ → ℕ
place_at depth low bytes x i = depth / 8 * x + (depth / 8 - bytes) - low / 8 + depth / 8 * i

-- those of what a run is drawn from
abbrev pub sample_place : Source → ℕ → ℕ → ℕ → ℕ
sample_place source = place_at source.screen.depth source.entry.low
