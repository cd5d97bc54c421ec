use Rattle.std.proofs.Common.{ℕ, ◌+◌, ◌∙◌, length, get_or, rules}
use Rattle.line_pixels.specs.Inner.{overlaid_by}
use Rattle.line_pixels.proofs.FilledRuns.{changed_from}
use Rattle.line_pixels.proofs.overlay.lay_by.Goals as goal

pub returns-clause-laid : goal.returns-clause-laid
returns-clause-laid c =
    let a = c.args in
    let change : ℕ → ℕ → ℕ = λ p under. overlaid_by a.colours.now (get_or a.overlay.now p 0) under in
    c.change.ensures (λ i. change (a.x + i)) (λ i under answer below post. search rules) ∙ changed_from change a.x a.out.now (length a.out.now)
