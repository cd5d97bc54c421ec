use Rattle.std.proofs.Common.{sym, ◌∙◌, length, get_or}
use Rattle.rules.proofs.Fill.{filled_same}
use Rattle.line_pixels.specs.Colour.{plain_at, under_cursor}
use Rattle.line_pixels.specs.Inner.{overlaid_or}
use Rattle.line_pixels.specs.Source.{view_of}
use Rattle.line_pixels.proofs.LayersCases.{overlay_laid, overlay_idle}
use Rattle.line_pixels.proofs.Layering.{laid_over}
use Rattle.line_pixels.proofs.source.Source.fill_under_cursor.Goals as goal

pub returns-then-overlay_counts : goal.returns-then-overlay_counts
returns-then-overlay_counts c =
    let s = c.args.self.now in
    laid_over s (plain_at s.screen.depth s.entry) (under_cursor s.screen s.entry) (λ p under. overlaid_or s.entry (get_or s.overlay.now p 0) under)
    c.args.x c.args.out.now c.fill_plain.ensures c.lay_overlay.ensures
    (λ p. overlay_laid (view_of s) s.screen s.entry p (sym c.overlay_counts.ensures ∙ c.if-overlay_counts.true))

pub returns-else-overlay_counts : goal.returns-else-overlay_counts
returns-else-overlay_counts c =
    let s = c.args.self.now in
    c.fill_plain.ensures
    ∙ filled_same _ _ c.args.x c.args.out.now (length c.args.out.now)
    (λ p low high. overlay_idle (view_of s) s.screen s.entry p (sym c.overlay_counts.ensures ∙ c.if-overlay_counts.false))
