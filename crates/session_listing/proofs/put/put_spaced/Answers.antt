-- The space, and the number behind it. Assumes nothing.
use mathlib.Core.Path.{refl}
use native.Mathlib.Omega.{arith}
use borrow.Author.Rules.{rules}
use lib.ListN.{length-set}
use Rattle.session_listing.proofs.Puts.{put_as, put_then, put_one}
use Rattle.session_listing.proofs.Decimal.{decimal_at_most_10}
use Rattle.session_listing.proofs.FirstLine.{one_spaced}
use Rattle.session_listing.proofs.put.put_spaced.Goals as goal

-- there is room for the number behind the space
pub put_number-requires : goal.put_number-requires
put_number-requires c = simp length-set (omega (arith, decimal_at_most_10 c.args.number (search rules)))

-- a space and a number is a list of one, spaced
pub returns : goal.returns
returns c =
    let given = c.args in
    let space = put_one given.lent.now given.at 32 (search rules) refl in
    (put_as (put_then space c.put_number.ensures) (one_spaced given.number), omega (arith, decimal_at_most_10 given.number (search rules)))
