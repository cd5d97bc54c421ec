-- What is put by fours, and behind it, is all. Assumes nothing.
use Prim.Native.Nat.{ℕ, ◌*◌, ◌/◌, ◌≤◌}
use mathlib.Core.Path.{◌≡◌, ap, sym, ◌∙◌}
use native.Mathlib.Omega.{arith}
use lib.ListN.{length, take, length-take, length-drop}
use Rattle.std.specs.Simd.{first_chunks}
use Rattle.session_listing.proofs.Puts.{put_as}
use Rattle.session_listing.proofs.Ahead.{ahead_last}
use Rattle.session_listing.proofs.Pixels.{length_pixels, fours_rest}
use Rattle.session_listing.proofs.pixel_lines.put_pixels.Goals as goal

-- there is room for the fours
pub put_fours-next-requires : goal.put_fours-next-requires
put_fours-next-requires c =
    let colours = c.args.colours.now in
    let most = c.in-Some.most in
    let long : length c.as_chunks.result.0.now ≡ length (take most colours) / 4 = c.as_chunks.ensures.front_len in
    omega (arith, length-take most colours, c.in-Some.ensures)

-- the pixels behind the fours are the rest
pub returns : goal.returns
returns c =
    let colours = c.args.colours.now in
    let most = c.in-Some.most in
    let fours = c.as_chunks.result.0.now in
    let front = take most colours in
    let long : length fours ≡ length front / 4 = c.as_chunks.ensures.front_len in
    let fits : 4 * length fours ≤ most = omega (arith, length-take most colours) in
    let is : fours ≡ first_chunks 4 (length fours) front = c.as_chunks.ensures.front ∙ ap (λ (count : ℕ). first_chunks 4 count front) (sym long) in
    put_as (ahead_last c.put_fours-next.ensures.0 _ (simp (length_pixels, length-take, length-drop) (omega (arith, c.in-Some.ensures))) c.put_few.ensures)
    (fours_rest fours colours most fits is)
