-- A word through the tables is the word through gamma.
use Rattle.std.proofs.Common.{rules, ◌≡◌, ◌∙◌, false}
use Rattle.rules.specs.Rule.{value}
use Rattle.line_pixels.specs.Cells.{pixel_view}
use Rattle.line_pixels.specs.Colour.{through_gamma}
use Rattle.line_pixels.specs.Inner.{by_tables}
use Rattle.line_pixels.proofs.GammaTables.{tables_correct}
use Rattle.line_pixels.proofs.correction.correct_many.Goals as goal

pub returns : goal.returns
returns c =
    λ normal overlay.
    let tables = c.of-tables.result in
    c.change.ensures (λ _ word. value (pixel_view c.args.store.now normal overlay) (through_gamma false word))
    (λ i word answer below post.
    let is : answer ≡ by_tables tables.red tables.green tables.blue word = search rules in
    is ∙ tables_correct c.of-tables.ensures normal overlay word)
