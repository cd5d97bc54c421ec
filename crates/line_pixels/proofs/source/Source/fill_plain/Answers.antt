-- The normal colours of a run in RGB, all through gamma.
use Rattle.std.proofs.Common.{ℕ, refl, ◌∙◌, length}
use Rattle.rules.specs.Rule.{value}
use Rattle.rules.proofs.Change.{changed_anywhere}
use Rattle.line_pixels.specs.Colour.{through_gamma, normal_at, plain_at}
use Rattle.line_pixels.specs.Source.{view_of}
use Rattle.line_pixels.proofs.LayersCases.{plain_of_normal}
use Rattle.line_pixels.proofs.Layering.{laid_over}
use Rattle.line_pixels.proofs.source.Source.fill_plain.Goals as goal

pub returns-else-indexed : goal.returns-else-indexed
returns-else-indexed c =
    let s = c.args.self.now in
    let x = c.args.x in
    let colours = c.fill_rgb.new.out in
    let through : ℕ → ℕ = λ word. value (view_of s) (through_gamma s.entry.bypass word) in
    laid_over s (normal_at s.screen.depth s.entry) (plain_at s.screen.depth s.entry) (λ _ word. through_gamma s.entry.bypass word) x c.args.out.now
    c.fill_rgb.ensures
    (c.correct.ensures s.normal.now s.overlay.now ∙ changed_anywhere through 0 x colours (length colours))
    (λ p. plain_of_normal (view_of s) s.screen.depth s.entry p refl refl)
