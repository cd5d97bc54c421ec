-- No second outcome meets the contract of this crate's public function. Assumes nothing.
use mathlib.Core.Path.{refl, sym, ◌∙◌}
use Rattle.rules.specs.Unique.{OneOutcome}
use Rattle.line_pixels.proofs.Screen.fill.Reads as fill

-- a run answers nothing, and leaves one output
pub fill_unique : OneOutcome (λ k exit. exit.1.1.1.1.1.1.1.0.now) fill.Post
fill_unique k args answer other exit exit' p q = (refl, p ∙ sym q)
