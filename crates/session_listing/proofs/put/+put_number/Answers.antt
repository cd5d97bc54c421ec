-- `session_listing::put::put_number` meets its contract: it puts the number without its last digit, and then that. Assumes nothing.
use Prim.Native.Nat.{◌≤◌}
use mathlib.Core.Path.{refl, sym}
use native.Mathlib.Omega.{arith}
use Rattle.session_listing.proofs.Puts.{put_as, put_then, put_one}
use Rattle.session_listing.proofs.Decimal.{decimal_one, decimal_more, decimal_longer, decimal_at_least_1}
use Rattle.session_listing.proofs.put.+put_number.Goals as goal

-- there is room for the digit
pub bounds-lent-at : goal.bounds-lent-at
bounds-lent-at t c = omega (arith, decimal_at_least_1 c.args.number, c.requires)

-- the digit is the number
pub returns-then-number-lt10 : goal.returns-then-number-lt10
returns-then-number-lt10 t c =
    let given = c.args in
    rw c.digit.ensures
    (put_as (put_one given.lent.now given.at _ (omega (arith, decimal_at_least_1 given.number, c.requires)) refl) (sym (decimal_one given.number (omega arith))))

-- without its last digit the number is smaller, and there is room for it
pub put_number-last-requires : goal.put_number-last-requires
put_number-last-requires t c =
    (omega arith, omega (arith, decimal_longer c.args.number (omega arith), c.requires))

-- there is room for the last digit
pub bounds-lent-last : goal.bounds-lent-last
bounds-lent-last t c = omega (arith, decimal_longer c.args.number (omega arith), c.requires)

-- the last digit stands behind the number without it
pub returns : goal.returns
returns t c =
    let given = c.args in
    let number = given.number in
    let large : 10 ≤ number = omega arith in
    rw c.digit-2.ensures
    (put_as
    (put_then c.put_number-last.ensures (put_one c.put_number-last.new.lent c.put_number-last.result _ (omega (arith, decimal_longer number large, c.requires)) refl))
    (sym (decimal_more number large)))
