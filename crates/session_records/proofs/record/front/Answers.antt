-- What is not wrong and all there has the bytes that are read. Assumes nothing.
use mathlib.Core.Path.{sym, ◌∙◌}
use native.Mathlib.Omega.{arith}
use Rattle.session_records.proofs.Whole.{whole_there, least_there}
use Rattle.session_records.proofs.record.front.Goals as goal

-- the shortest body of the tag is there
pub record_of-requires : goal.record_of-requires
record_of-requires c =
    let bytes = c.args.bytes.now in
    let all = sym c.missing.ensures ∙ c.if-missing.false in
    omega (arith, least_there bytes all (sym c.wrong.ensures ∙ c.if-wrong.false), whole_there bytes all)

-- the length is there
pub length_of-requires : goal.length_of-requires
length_of-requires c = omega (arith, whole_there c.args.bytes.now (sym c.missing.ensures ∙ c.if-missing.false))
