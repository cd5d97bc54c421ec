use Rattle.std.proofs.Common.{ℕ, ◌+◌, ◌∙◌, length, rules}
use Rattle.std.proofs.iter.Serving.{serving}
use Rattle.rules.specs.Rule.{value}
use Rattle.rules.proofs.Fill.{filled_from}
use Rattle.line_pixels.specs.Colour.{plain_at}
use Rattle.line_pixels.specs.Source.{view_of}
use Rattle.line_pixels.proofs.Rows.{pixels_le}
use Rattle.line_pixels.proofs.source.Source.fill_few.Goals as goal

pub fill-requires : goal.fill-requires
fill-requires c = let room = pixels_le c.requires.0 in λ i below. grind (serving, room)

pub returns : goal.returns
returns c =
    let a = c.args in
    let shows : ℕ → ℕ = λ p. value (view_of a.self.now) (plain_at a.self.now.screen.depth a.self.now.entry p) in
    c.fill.ensures (λ i. shows (a.x + i)) (λ i answer below post. search rules) ∙ filled_from shows a.x a.out.now (length a.out.now)
