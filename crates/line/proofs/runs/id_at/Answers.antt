-- `line::runs::id_at`: with window IDs on the look-up says the ID, with them off it is 0.
use Rattle.std.proofs.Common.{arith, length, sym, ◌∙◌}
use mathlib.Core.Bool.{false≢true}
use Rattle.line.specs.Cells.{lent_of}
use Rattle.line.proofs.Entries.{served_on, id_off}
use Rattle.line.proofs.runs.id_at.Goals as goal

pub returns-then-controls : goal.returns-then-controls
returns-then-controls c =
    let a = c.args in
    served_on a.controls a.table.now a.start a.from a.x c.look_up.result c.if-controls.true c.requires.0 c.look_up.ensures.says c.look_up.ensures.below

pub returns : goal.returns
returns c =
    let a = c.args in
    let off = c.if-controls.false in (
      omega arith,
      omega (arith, c.requires.1),
      λ on. absurd (false≢true (sym off ∙ on)),
      λ store normal overlay p low high. id_off a.controls (lent_of store a.table.now normal overlay) (length a.table.now) a.start p off,
    )
