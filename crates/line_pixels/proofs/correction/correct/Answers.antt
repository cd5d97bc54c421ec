-- Words that bypass gamma stay as they are.
use Rattle.line_pixels.proofs.Gamma.{words_skipped}
use Rattle.line_pixels.proofs.correction.correct.Goals as goal

pub returns-then-bypass : goal.returns-then-bypass
returns-then-bypass c = words_skipped c.args.store.now c.args.words.now c.if-bypass.true
