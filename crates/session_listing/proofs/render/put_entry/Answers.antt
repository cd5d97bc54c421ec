-- The first line, its end, and the pixels behind it. Assumes nothing.
use mathlib.Core.Path.{refl, sym}
use mathlib.Core.List.{[], ◌∷◌, append_assoc}
use borrow.Author.Rules.{rules}
use lib.ListN.{take}
use Rattle.session_listing.specs.Text.{pixels}
use Rattle.session_listing.specs.Inner.{parts_line}
use Rattle.session_listing.proofs.Puts.{put_as, put_then, put_one}
use Rattle.session_listing.proofs.render.put_entry.Goals as goal

-- one behind another they are the entry's text
pub returns : goal.returns
returns c =
    let given = c.args in
    let end = put_one c.put_parts-last.new.lent c.put_parts-last.result 10 (search rules) refl in
    put_as (put_then c.put_parts-last.ensures.0 (put_then end c.put_pixels.ensures))
    (sym (append_assoc (parts_line given.parts) (10 ∷ []) (pixels (take given.parts.pixels given.output.now))))
