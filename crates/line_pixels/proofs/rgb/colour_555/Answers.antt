-- The bytes of what was loaded, swapped.
use Rattle.std.proofs.Common.{ℕ, ◌∙◌, ap}
use Rattle.words.specs.Channels.{word_of}
use Rattle.line_formats.specs.Table.{colour_in_format}
use Rattle.line_formats.specs.declared.Format.TheVariants.{Rgb555}
use Rattle.line_pixels.proofs.RgbRuns.{swapped}
use Rattle.line_pixels.proofs.rgb.colour_555.Goals as goal

pub returns : goal.returns
returns c = c.word_555.ensures ∙ ap (λ (sample : ℕ). word_of (colour_in_format Rgb555 sample)) (swapped c.args.normal.now c.args.at c.le16.ensures)
