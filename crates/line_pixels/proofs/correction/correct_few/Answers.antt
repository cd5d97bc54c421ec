-- Each word goes through gamma.
use Rattle.std.proofs.Common.{rules, false}
use Rattle.rules.specs.Rule.{value}
use Rattle.line_pixels.specs.Cells.{pixel_view}
use Rattle.line_pixels.specs.Colour.{through_gamma}
use Rattle.line_pixels.proofs.correction.correct_few.Goals as goal

pub returns : goal.returns
returns c =
    λ normal overlay.
    c.change.ensures (λ _ word. value (pixel_view c.args.store.now normal overlay) (through_gamma false word)) (λ i word answer below post. search rules)
