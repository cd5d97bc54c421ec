-- No second outcome meets the contract of this crate's public function. Assumes nothing.
use Rattle.rules.specs.Unique.{OneOutcome}
use Rattle.rules.proofs.Unique.{by_pair}
use Rattle.session_listing.proofs.render.render.Reads as render

-- one answer and one text alone meet the contract of `render`
pub render_unique : OneOutcome (λ k exit. exit.1.1.0.now) render.Post
render_unique = by_pair _ _ _
