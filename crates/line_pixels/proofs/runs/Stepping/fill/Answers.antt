use Rattle.std.proofs.Common.{rules}
use Rattle.line_pixels.proofs.FilledRuns.{all_filled}
use Rattle.line_pixels.proofs.runs.Stepping.fill.Goals as goal

pub returns : goal.returns
returns g c =
    λ shows is. all_filled shows c.args.words.now (c.change.ensures (λ i _. shows i) (λ i word r below post. is i r below (search rules)))
