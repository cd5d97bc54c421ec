-- The pairs of the colour's bytes, the last with its line feeds. Assumes nothing.
use native.Mathlib.Omega.{arith}
use Rattle.session_listing.specs.Digits.{hex}
use Rattle.session_listing.specs.Text.{ended}
use Rattle.session_listing.proofs.Puts.{put_as}
use Rattle.session_listing.proofs.Ahead.{ahead_one}
use Rattle.session_listing.proofs.Pairs.{colour_pairs}
use Rattle.session_listing.proofs.pixel_lines.put_ahead.Goals as goal

-- eight bytes are the colour's line, and a line feed too many
pub returns : goal.returns
unfolding hex
returns c =
    let colour = c.args.colour in
    let put = put_as c.put_eight-after.ensures (colour_pairs colour) in
    (ahead_one (ended (hex colour)) 10 put (omega (arith, c.put_eight-after.ensures.after)), omega (arith, c.put_eight-after.ensures.after))
