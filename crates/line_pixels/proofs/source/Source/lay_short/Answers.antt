use Rattle.std.proofs.Common.{ℕ, ◌+◌, ◌∙◌, length, get_or, rules}
use Rattle.rules.specs.Rule.{value}
use Rattle.line_pixels.specs.Inner.{overlaid_or}
use Rattle.line_pixels.specs.Source.{view_of}
use Rattle.line_pixels.proofs.FilledRuns.{changed_from}
use Rattle.line_pixels.proofs.source.Source.lay_short.Goals as goal

pub returns : goal.returns
returns c =
    let a = c.args in
    let change : ℕ → ℕ → ℕ = λ p under. value (view_of a.self.now) (overlaid_or a.self.now.entry (get_or a.self.now.overlay.now p 0) under) in
    c.change.ensures (λ i. change (a.x + i)) (λ i under answer below post. search rules) ∙ changed_from change a.x a.out.now (length a.out.now)
