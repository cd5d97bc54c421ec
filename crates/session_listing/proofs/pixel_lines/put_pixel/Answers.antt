-- The digits one behind another, and the line's end. Assumes nothing.
use mathlib.Core.List.{[], ◌∷◌}
use borrow.Author.Rules.{rules}
use Rattle.session_listing.proofs.Puts.{put_as, put_stores}
use Rattle.session_listing.proofs.Texts.{six_digits}
use Rattle.session_listing.proofs.pixel_lines.put_pixel.Goals as goal

-- seven stores put the colour's digits and the end
pub returns : goal.returns
returns c =
    let given = c.args in
    put_as (put_stores _ (_ ∷ _ ∷ _ ∷ _ ∷ _ ∷ 10 ∷ []) given.lent.now given.at (search rules))
    (six_digits given.colour c.digit.ensures c.digit-2.ensures c.digit-3.ensures c.digit-4.ensures c.digit-5.ensures c.digit-6.ensures)
