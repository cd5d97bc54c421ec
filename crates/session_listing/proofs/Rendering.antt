-- What comes of rendering with room. Assumes nothing.
use Prim.Native.Nat.{ℕ, ◌+◌, ◌≤◌}
use mathlib.Core.Path.{◌≡◌}
use mathlib.Core.List.{List}
use borrow.Author.Tests.{le-leb}
use lib.ListN.{length}
use Rattle.std.specs.Prelude.{Some}
use Rattle.session_listing.specs.Text.{EntrySays, text}
use Rattle.session_listing.specs.Room.{room_for, rendered}
use Rattle.session_listing.specs.Inner.{Put}
use Rattle.session_listing.proofs.Puts.{put_placed}

module _ (listed : EntrySays) (output lent : List ℕ) (place : ℕ) where
  -- with room the text stands there
  pub with_room : {left : List ℕ} {next : ℕ} → place + room_for listed output ≤ length lent → Put lent place (text listed output) left next
      → (Some next, left) ≡ rendered listed output lent place
  with_room room put = rw (le-leb (place + room_for listed output) (length lent) room, put.after, put_placed put)
