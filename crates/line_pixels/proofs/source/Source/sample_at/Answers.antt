-- The entry fits its depth, and no format has more bits than a word.
use Rattle.std.proofs.Common.{arith}
use Rattle.line_formats.proofs.Bounds.{bits_le}
use Rattle.line_pixels.proofs.Rows.{said_says}
use Rattle.line_pixels.proofs.source.Source.sample_at.Goals as goal

pub pixel_word-pixel-requires : goal.pixel_word-pixel-requires
pixel_word-pixel-requires c =
    let s = c.args.self.now in
    ((said_says s.screen.depth s.entry c.requires.0.said).at_depth, c.requires.0.normal_long)

pub bits-requires : goal.bits-requires
bits-requires c =
    let s = c.args.self.now in
    ((said_says s.screen.depth s.entry c.requires.0.said).low_lt, omega (arith, c.requires.1, bits_le s.entry.format))
