-- No second answer meets a contract of this crate. Assumes nothing.
use Rattle.rules.specs.Unique.{OneAnswer}
use Rattle.rules.proofs.Unique.{by_equation}
use Rattle.line_formats.proofs.Index8.map_entry.Reads as index8_map_entry
use Rattle.line_formats.proofs.Index12.map_entry.Reads as index12_map_entry
use Rattle.line_formats.proofs.Rgb332RgbFormat.colour.Reads as rgb332_colour
use Rattle.line_formats.proofs.Rgb444RgbFormat.colour.Reads as rgb444_colour
use Rattle.line_formats.proofs.Rgb555RgbFormat.colour.Reads as rgb555_colour
use Rattle.line_formats.proofs.Rgb888RgbFormat.colour.Reads as rgb888_colour
use Rattle.line_formats.proofs.Index8PixelFormat.widths.Reads as index8_widths
use Rattle.line_formats.proofs.Index12PixelFormat.widths.Reads as index12_widths
use Rattle.line_formats.proofs.Rgb332PixelFormat.widths.Reads as rgb332_widths
use Rattle.line_formats.proofs.Rgb444PixelFormat.widths.Reads as rgb444_widths
use Rattle.line_formats.proofs.Rgb555PixelFormat.widths.Reads as rgb555_widths
use Rattle.line_formats.proofs.Rgb888PixelFormat.widths.Reads as rgb888_widths
use Rattle.line_formats.proofs.Part.has_depth.Reads as has_depth
use Rattle.line_formats.proofs.Part.has_buffer.Reads as has_buffer
use Rattle.line_formats.proofs.Format.from_number.Reads as from_number
use Rattle.line_formats.proofs.Format.widths.Reads as widths
use Rattle.line_formats.proofs.Format.has_bank.Reads as has_bank
use Rattle.line_formats.proofs.Format.part.Reads as part
use Rattle.line_formats.proofs.channel.widen.Reads as widen
use Rattle.line_formats.proofs.channel.channel.Reads as channel
use Rattle.line_formats.proofs.channel.colour.Reads as channel_colour

-- a bank and a sample of format 0 have one map entry
pub index8_map_entry_unique : OneAnswer index8_map_entry.Post
index8_map_entry_unique = by_equation _ _

-- a sample of format 1 has one map entry
pub index12_map_entry_unique : OneAnswer index12_map_entry.Post
index12_map_entry_unique = by_equation _ _

-- a sample of RGB 3-3-2 has one colour
pub rgb332_colour_unique : OneAnswer rgb332_colour.Post
rgb332_colour_unique = by_equation _ _

-- a sample of RGB 4-4-4 has one colour
pub rgb444_colour_unique : OneAnswer rgb444_colour.Post
rgb444_colour_unique = by_equation _ _

-- a sample of RGB 5-5-5 has one colour
pub rgb555_colour_unique : OneAnswer rgb555_colour.Post
rgb555_colour_unique = by_equation _ _

-- a sample of RGB 8-8-8 has one colour
pub rgb888_colour_unique : OneAnswer rgb888_colour.Post
rgb888_colour_unique = by_equation _ _

-- the bits of format 0 are pinned
pub index8_widths_unique : OneAnswer index8_widths.Post
index8_widths_unique = by_equation _ _

-- the bits of format 1 are pinned
pub index12_widths_unique : OneAnswer index12_widths.Post
index12_widths_unique = by_equation _ _

-- the bits of RGB 3-3-2 are pinned
pub rgb332_widths_unique : OneAnswer rgb332_widths.Post
rgb332_widths_unique = by_equation _ _

-- the bits of RGB 4-4-4 are pinned
pub rgb444_widths_unique : OneAnswer rgb444_widths.Post
rgb444_widths_unique = by_equation _ _

-- the bits of RGB 5-5-5 are pinned
pub rgb555_widths_unique : OneAnswer rgb555_widths.Post
rgb555_widths_unique = by_equation _ _

-- the bits of RGB 8-8-8 are pinned
pub rgb888_widths_unique : OneAnswer rgb888_widths.Post
rgb888_widths_unique = by_equation _ _

-- whether a format has a depth has one answer
pub has_depth_unique : OneAnswer has_depth.Post
has_depth_unique = by_equation _ _

-- whether a format has a buffer has one answer
pub has_buffer_unique : OneAnswer has_buffer.Post
has_buffer_unique = by_equation _ _

-- a number names one format or none
pub from_number_unique : OneAnswer from_number.Post
from_number_unique = by_equation _ _

-- the bits of a format and of its channels are pinned
pub widths_unique : OneAnswer widths.Post
widths_unique = by_equation _ _

-- whether a format has a bank has one answer
pub has_bank_unique : OneAnswer has_bank.Post
has_bank_unique = by_equation _ _

-- a format uses one part of a pixel at a depth
pub part_unique : OneAnswer part.Post
part_unique = by_equation _ _

-- a channel of a few bits has one widening
pub widen_unique : OneAnswer widen.Post
widen_unique = by_equation _ _

-- a channel of a sample has one value
pub channel_unique : OneAnswer channel.Post
channel_unique = by_equation _ _

-- a sample and the widths of its channels have one colour
pub channel_colour_unique : OneAnswer channel_colour.Post
channel_colour_unique = by_equation _ _
