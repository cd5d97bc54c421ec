-- No second answer meets a contract of this crate. Assumes nothing.
use Rattle.rules.specs.Unique.{OneAnswer}
use Rattle.rules.proofs.Unique.{by_equation, by_equation_and}
use Rattle.words.proofs.bits.Reads as bits
use Rattle.words.proofs.field.Reads as field
use Rattle.words.proofs.be16.Reads as be16
use Rattle.words.proofs.be32.Reads as be32
use Rattle.words.proofs.RgbFromU32.from.Reads as of
use Rattle.words.proofs.U32FromRgb.from.Reads as word

-- bits of a word are one number
pub bits_unique : OneAnswer bits.Post
bits_unique = by_equation_and _ _ _

-- a field of a word is one number
pub field_unique : OneAnswer field.Post
field_unique = by_equation_and _ _ _

-- two bytes at a place are one number
pub be16_unique : OneAnswer be16.Post
be16_unique = by_equation_and _ _ _

-- four bytes at a place are one number
pub be32_unique : OneAnswer be32.Post
be32_unique = by_equation_and _ _ _

-- a word has one red, one green and one blue
pub of_unique : OneAnswer of.Post
of_unique = by_equation _ _

-- three channels make one word
pub word_unique : OneAnswer word.Post
word_unique = by_equation_and _ _ _
