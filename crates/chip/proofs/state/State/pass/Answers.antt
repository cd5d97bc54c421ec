-- The dots that are left behind one more lead where all lead. Assumes nothing.
use Rattle.std.proofs.Common.{ℕ, suc, ◌-◌, ◌≡◌, List, ap, sym, ◌∙◌, arith}
use Rattle.chip.specs.Dots.{after_dots}
use Rattle.chip.specs.Inner.{behind}
use Rattle.chip.proofs.state.State.pass.Goals as goal

pub loop-left-preserved : goal.loop-left-preserved
unfolding after_dots
loop-left-preserved c =
    let self = c.args.self in
    let left = c.walk-walk.result.left in
    let more : suc (left - 1) ≡ left = omega (arith, c.if-walk-eq0.false) in (
      c.one_more-pass.ensures.0,
      λ (store : List ℕ).
          ap (after_dots (left - 1)) (c.one_more-pass.ensures.1 store)
          ∙ ap (λ (rest : ℕ). after_dots rest (behind (self, store) (record { at = c.walk-walk.result.at; taken = c.loop-left.pass.taken }))) more
          ∙ sym (c.walk-walk.ensures.2 store)
          ∙ c.loop-left.invariant.1 store,
    )
