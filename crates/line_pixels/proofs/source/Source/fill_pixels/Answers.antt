use Rattle.std.proofs.Common.{ℕ, ◌+◌, ◌∙◌, length, rules}
use Rattle.rules.specs.Rule.{value}
use Rattle.rules.proofs.Fill.{filled_from}
use Rattle.line_pixels.specs.Colour.{colour_of_pixel}
use Rattle.line_pixels.specs.Source.{view_of}
use Rattle.line_pixels.proofs.source.Source.fill_pixels.Goals as goal

pub returns : goal.returns
returns c =
    let a = c.args in
    let shows : ℕ → ℕ = λ p. value (view_of a.self.now) (colour_of_pixel a.self.now.screen a.self.now.entry p) in
    c.fill.ensures (λ i. shows (a.x + i)) (λ i answer below post. search rules) ∙ filled_from shows a.x a.out.now (length a.out.now)
