-- A write goes to the register that it is judged for, or changes nothing. Assumes nothing.
use Rattle.std.proofs.Common.{ap, sym, ◌∙◌}
use Rattle.rules.specs.Rule.{ok}
use Rattle.chip.specs.Call.{Chip}
use Rattle.chip.proofs.Writes.{write_refused, write_goes}
use Rattle.chip.proofs.state.State.write_change.Goals as goal

pub returns-in-Ok : goal.returns-in-Ok
returns-in-Ok c =
    let given = c.args in (
      ap (λ (after : Chip). (after, ok tt)) c.put.ensures.0
          ∙ sym (write_goes (given.self, given.store.now) given.address given.value c.in-Ok.ensures.0 _ c.in-Ok.ensures.1),
      c.put.ensures.1,
    )

pub returns-in-Err : goal.returns-in-Err
returns-in-Err c =
    let given = c.args in
    rw c.refused.ensures (sym (write_refused (given.self, given.store.now) given.address given.value _ c.in-Err.ensures), tt)
