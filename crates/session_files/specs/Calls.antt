-- Calls of the step over a file that is lent in pieces.
use Rattle.std.specs.Prelude.{ℕ, ◌≤◌, ◌≡◌, Bool, true, false, List, [], ◌∷◌, ◌++◌, length, drop, replicate}
use Rattle.rules.specs.Rule.{ok}
use Rattle.rules.specs.Faults.{Numbered}
use Rattle.chip_registers.specs.Store.{store_length}
use Rattle.chip.specs.State.{HasArrays}
use Rattle.session_records.specs.Tags.{longest_table, longest_normal, longest_overlay}
use Rattle.session_listing.specs.Text.{EntrySays, says_refused, text}
use Rattle.session_answers.specs.Status.{Status, listed, ended, needs_more, stopped}
use Rattle.session_rooms.specs.Rooms.{longest_line}
use Rattle.session.specs.Held.{Held}
use Rattle.session.specs.Lent.{Rooms}
use Rattle.session.specs.Step.{session_step}
use Rattle.session.specs.declared.session.Session.{Session}
use Rattle.session_files.specs.Steps.{none}

-- calls one after another, each with the session, the rooms and the place that the one before it left: from the bytes that are lent and the pieces to come, they list a text (CHIP 9.8)
pub data Calls : Session → Rooms → List ℕ → ℕ → List (List ℕ) → List ℕ → Type 0 where
  -- before whatever call, bytes are lent in which what is unread stands at a place, and the next piece behind it
  adds : {session : Session} {rooms : Rooms} {bytes more piece : List ℕ} {place from : ℕ} {pieces : List (List ℕ)} {rest : List ℕ}
      → drop from more ≡ drop place bytes ++ piece
      → Calls session rooms more from pieces rest → Calls session rooms bytes place (piece ∷ pieces) rest
  -- before whatever call, bytes are lent in which the same unread ones stand at another place
  moves : {session : Session} {rooms : Rooms} {bytes others : List ℕ} {place from : ℕ} {pieces : List (List ℕ)} {rest : List ℕ}
      → drop from others ≡ drop place bytes
      → Calls session rooms others from pieces rest → Calls session rooms bytes place pieces rest
  -- a call waits
  waits : {session next : Session} {rooms left : Rooms} {bytes : List ℕ} {place at : ℕ} {pieces : List (List ℕ)} {rest : List ℕ}
      → session_step session rooms bytes place (none pieces) ≡ (((next, at), left), ok needs_more)
      → Calls next left bytes at pieces rest → Calls session rooms bytes place pieces rest
  -- a call lists an entry
  lists : {session next : Session} {rooms left : Rooms} {bytes : List ℕ} {place at : ℕ} {pieces : List (List ℕ)} {rest : List ℕ} {entry : EntrySays}
      → session_step session rooms bytes place (none pieces) ≡ (((next, at), left), ok (listed entry))
      → Calls next left bytes at pieces rest → Calls session rooms bytes place pieces (text entry left.output ++ rest)
  -- a call finds the end record: it is the last
  ends : {session next : Session} {rooms left : Rooms} {bytes : List ℕ} {place at : ℕ} {pieces : List (List ℕ)}
      → session_step session rooms bytes place (none pieces) ≡ (((next, at), left), ok ended)
      → Calls session rooms bytes place pieces []
  -- a call finds a fault of the file: it is listed, and it is the last
  stops : {session next : Session} {rooms left : Rooms} {bytes : List ℕ} {place at : ℕ} {pieces : List (List ℕ)} {refusal : Numbered}
      → session_step session rooms bytes place (none pieces) ≡ (((next, at), left), ok (stopped refusal))
      → Calls session rooms bytes place pieces (text (says_refused refusal) left.output)

-- of some calls, a piece is lent exactly where the call before has waited for it; the first of them may come after such a call or not
abbrev pub LentOnDemand : {session : Session} {rooms : Rooms} {bytes : List ℕ} {place : ℕ} {pieces : List (List ℕ)} {written : List ℕ}
    → Bool → Calls session rooms bytes place pieces written → Type 0
LentOnDemand waited (adds behind others) = (waited ≡ true) × LentOnDemand false others
LentOnDemand waited (moves same others) = LentOnDemand waited others
LentOnDemand waited (waits is others) = (waited ≡ false) × LentOnDemand true others
LentOnDemand waited (lists is others) = (waited ≡ false) × LentOnDemand false others
LentOnDemand waited (ends is) = waited ≡ false
LentOnDemand waited (stops is) = waited ≡ false

-- each call of some comes to such a status
abbrev pub EachComesTo : {session : Session} {rooms : Rooms} {bytes : List ℕ} {place : ℕ} {pieces : List (List ℕ)} {written : List ℕ}
    → (Status → Type 0) → Calls session rooms bytes place pieces written → Type 0
EachComesTo Such (adds behind others) = EachComesTo Such others
EachComesTo Such (moves same others) = EachComesTo Such others
EachComesTo Such (waits is others) = Such needs_more × EachComesTo Such others
EachComesTo Such (lists {entry = entry} is others) = Such (listed entry) × EachComesTo Such others
EachComesTo Such (ends is) = Such ended
EachComesTo Such (stops {refusal = refusal} is) = Such (stopped refusal)

-- rooms at a session's start: the store all zero
abbrev pub Zeroed : Rooms → Type 0
Zeroed rooms = rooms.store ≡ replicate store_length 0

-- rooms of the right lengths for table, rows and output, whatever they hold
pub record RightLengths (rooms : Rooms) : Type 0 where
  pub table_long : length rooms.table ≡ longest_table
  pub normal_long : length rooms.normal ≡ longest_normal
  pub overlay_long : length rooms.overlay ≡ longest_overlay
  pub output_long : length rooms.output ≡ longest_line

-- what is held has its sizes: the store its length, table and rows no more than there is room for, and the state its arrays
pub record Roomy (held : Held) : Type 0 where
  pub store_long : length held.chip.1 ≡ store_length
  pub table_held : length held.table ≤ longest_table
  pub normal_held : length held.normal ≤ longest_normal
  pub overlay_held : length held.overlay ≤ longest_overlay
  pub state_whole : HasArrays held.chip.0
