-- The text is put where there is room. Assumes nothing.
use native.Mathlib.Omega.{arith}
use Rattle.session_listing.specs.Text.{entry_says}
use Rattle.session_listing.proofs.Puts.{put_as}
use Rattle.session_listing.proofs.Texts.{shown_length, whole_text}
use Rattle.session_listing.proofs.Rendering.{with_room}
use Rattle.session_listing.proofs.render.render.Goals as goal

-- the parts make the entry's text
pub returns : goal.returns
returns c =
    let given = c.args in
    with_room (entry_says given.entry) given.output.now given.text.now given.at
    (omega (arith, shown_length (entry_says given.entry) given.output.now))
    (put_as c.put_entry.ensures (whole_text (entry_says given.entry) given.output.now c.of-parts.result c.of-parts.ensures))
