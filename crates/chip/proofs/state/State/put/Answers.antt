-- A write that waits joins a queue that has room. Assumes nothing.
use Rattle.std.proofs.Common.{◌≡◌, Bool, false, ◌&&◌, length, sym, subst, ◌∙◌, arith, rules}
use Rattle.chip_queue.specs.Queue.{full}
use Rattle.chip.proofs.Good.{not_full}
use Rattle.chip.proofs.Places.{put_waits}
use Rattle.chip.proofs.state.State.put.Goals as goal

pub returns-then-waits : goal.returns-then-waits
returns-then-waits c =
    let given = c.args in
    let waiting = sym c.waits.ensures ∙ c.if-waits.true in
    let room : full given.self.queue ≡ false = subst (λ (test : Bool). (test && full given.self.queue) ≡ false) waiting c.requires.3 in
    let sized : length given.self.queue.slots ≡ 64 = search rules in
    let more = not_full given.self.queue room in
    (sym (put_waits (given.self, given.store.now) given.register given.value waiting), (more, omega (arith, more, sized)))
