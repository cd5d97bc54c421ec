-- Bounds of the table. Assumes nothing.
use Prim.Native.Nat.{◌≤◌}
use lib.Dec.{lit≤}
use Rattle.line_formats.specs.Table.{widths_of}
use Rattle.line_formats.specs.declared.Format.{Format}
use Rattle.line_formats.specs.declared.Format.TheVariants.{Index8, Index12, Rgb332, Rgb444, Rgb555, Rgb888}

-- no sample has more than 24 bits
pub bits_le : (format : Format) → (widths_of format).bits ≤ 24
bits_le Index8 = lit≤ tt
bits_le Index12 = lit≤ tt
bits_le Rgb332 = lit≤ tt
bits_le Rgb444 = lit≤ tt
bits_le Rgb555 = lit≤ tt
bits_le Rgb888 = lit≤ tt
