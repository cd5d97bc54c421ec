-- Four pixels a turn.
use Rattle.std.proofs.Common.{◌+◌, ◌*◌, ◌≡◌, take}
use Rattle.std.specs.List.{concat}
use Rattle.session_listing.specs.Text.{pixels}
use Rattle.session_listing.specs.Inner.{PutAhead}
use Rattle.session_listing.proofs.pixel_lines.put_fours.Given as goal

-- before each turn the fours so far are put
abbrev pub invariant-loop-four : goal.invariant-loop-four
invariant-loop-four l = (l.next ≡ l.at + 28 * l.four-index) × PutAhead l.fn.lent l.at (pixels (concat (take l.four-index l.fours))) l.lent l.next
