-- A colour that is corrected goes by the gamma words of the store.
use Rattle.std.proofs.Common.{ap, ◌∙◌}
use Rattle.words.specs.Channels.{word_of}
use Rattle.line_colour.specs.Gamma.{corrected}
use Rattle.line_pixels.specs.Cells.{pixel_view}
use Rattle.line_pixels.proofs.Gamma.{gamma_words, gamma_skipped, gamma_applied}
use Rattle.line_pixels.proofs.layers.through_gamma.Goals as goal

pub returns-then-skips : goal.returns-then-skips
returns-then-skips c = λ normal overlay. gamma_skipped (pixel_view c.args.store.now normal overlay) c.args.word c.if-skips.true

pub returns : goal.returns
returns c =
    λ normal overlay.
    c.from-2.ensures.0
    ∙ ap word_of (c.corrected-corrected.ensures ∙ ap (corrected (gamma_words c.args.store.now)) c.from.ensures)
    ∙ gamma_applied c.args.store.now normal overlay c.args.word c.if-skips.false
