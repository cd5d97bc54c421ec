-- No second answer meets a contract of this crate. Assumes nothing.
use Rattle.rules.specs.Unique.{OneAnswer}
use Rattle.rules.proofs.Unique.{by_equation}
use Rattle.line_colour.proofs.entry.decode.Reads as decode
use Rattle.line_colour.proofs.entry.format_of.Reads as format_of
use Rattle.line_colour.proofs.entry.WindowEntry.of.Reads as of
use Rattle.line_colour.proofs.entry.WindowEntry.shown.Reads as shown
use Rattle.line_colour.proofs.gamma.corrected.Reads as corrected

-- an entry says one thing at a depth, or is undefined
pub decode_unique : OneAnswer decode.Post
decode_unique = by_equation _ _

-- an entry names one format, or none
pub format_of_unique : OneAnswer format_of.Post
format_of_unique = by_equation _ _

-- an entry says one thing where it has this format and is defined at a depth
pub of_unique : OneAnswer of.Post
of_unique = by_equation _ _

-- a sample shows one map entry or one colour under an entry
pub shown_unique : OneAnswer shown.Post
shown_unique = by_equation _ _

-- a colour has one colour through gamma
pub corrected_unique : OneAnswer corrected.Post
corrected_unique = by_equation _ _
