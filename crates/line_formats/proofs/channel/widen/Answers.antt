-- `line_formats::channel::widen`: for three bits the table has all eight, for others the shifts make eight copies.
use Rattle.std.proofs.Common.{◌<◌, refl, arith}
use Rattle.line_formats.specs.Channel.{widened}
use Rattle.line_formats.proofs.Widening.{by_shifts, by_table, widened_lt}
use Rattle.line_formats.proofs.channel.widen.Goals as goal

-- all eight entries are computed at once
pub returns-then-width-eq3 : goal.returns-then-width-eq3
unfolding widened
returns-then-width-eq3 c =
    let below : c.args.value < 8 = omega (arith, rw c.if-width-eq3.true at c.requires.2) in
    rw c.if-width-eq3.true (by_table _ c.args.value refl below)

pub overflow_cast-result-3 : goal.overflow_cast-result-3
overflow_cast-result-3 c =
    let a = c.args in
    let e = by_shifts a.value a.width c.requires.1 c.requires.2 in
    omega (arith, widened_lt a.value a.width c.requires.0 c.requires.2)

pub returns : goal.returns
returns c = by_shifts c.args.value c.args.width c.requires.1 c.requires.2
