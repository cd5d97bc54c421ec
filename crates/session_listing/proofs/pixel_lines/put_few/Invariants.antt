-- One pixel a turn.
use Rattle.std.proofs.Common.{◌+◌, ◌*◌, ◌≡◌, take}
use Rattle.session_listing.specs.Text.{pixels}
use Rattle.session_listing.specs.Inner.{Put}
use Rattle.session_listing.proofs.pixel_lines.put_few.Given as goal

-- before each turn the colours so far are put
abbrev pub invariant-loop-colour : goal.invariant-loop-colour
invariant-loop-colour l = (l.next ≡ l.at + 7 * l.colour-index) × Put l.fn.lent l.at (pixels (take l.colour-index l.colours)) l.lent l.next
