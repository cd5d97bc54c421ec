-- Steps over a file that is lent in pieces.
use Rattle.std.specs.Prelude.{ℕ, ◌≡◌, Bool, true, false, List, [], ◌∷◌, ◌++◌, drop}
use Rattle.rules.specs.Faults.{Numbered}
use Rattle.session_listing.specs.Text.{EntrySays, says_refused, text}
use Rattle.session_answers.specs.Status.{listed, ended, needs_more, stopped}
use Rattle.session.specs.Held.{Held}
use Rattle.session.specs.Record.{stepped}

-- no piece is to come: the file ends with the bytes that are lent
abbrev pub none : List (List ℕ) → Bool
none [] = true
none (piece ∷ pieces) = false

-- steps one after another: from what is held, the bytes that are lent and unread, and the pieces to come, they list a text (CHIP 9.8)
pub data Steps : Held → List ℕ → List (List ℕ) → List ℕ → Type 0 where
  -- the next piece is lent behind what is unread, before whatever step
  adds : {held : Held} {unread piece : List ℕ} {pieces : List (List ℕ)} {rest : List ℕ}
      → Steps held (unread ++ piece) pieces rest → Steps held unread (piece ∷ pieces) rest
  -- a step waits: the next one goes on from what it left
  waits : {held after : Held} {unread : List ℕ} {pieces : List (List ℕ)} {rest : List ℕ} {taken : ℕ}
      → stepped (none pieces) held unread ≡ ((after, taken), needs_more)
      → Steps after (drop taken unread) pieces rest → Steps held unread pieces rest
  -- a step lists an entry: the next one starts behind its record
  lists : {held after : Held} {unread : List ℕ} {pieces : List (List ℕ)} {rest : List ℕ} {taken : ℕ} {entry : EntrySays}
      → stepped (none pieces) held unread ≡ ((after, taken), listed entry)
      → Steps after (drop taken unread) pieces rest → Steps held unread pieces (text entry after.output ++ rest)
  -- a step finds the end record: nothing more is read
  ends : {held : Held} {unread : List ℕ} {pieces : List (List ℕ)}
      → (stepped (none pieces) held unread).1 ≡ ended → Steps held unread pieces []
  -- a step finds a fault of the file: it is listed, and nothing more is read
  stops : {held : Held} {unread : List ℕ} {pieces : List (List ℕ)} {refusal : Numbered}
      → (stepped (none pieces) held unread).1 ≡ stopped refusal → Steps held unread pieces (text (says_refused refusal) held.output)
