-- Calls of C's step over a file that is lent in pieces.
use Rattle.std.specs.Prelude.{ℕ, ◌≡◌, Bool, true, false, not, List, [], ◌∷◌, ◌++◌, eqb, take, drop}
use Rattle.session.specs.Lent.{Rooms}
use Rattle.session.specs.declared.session.Session.{Session}
use Rattle.c_session.specs.Steps.{step_in_numbers}
use Rattle.c_session.specs.declared.steps.SteppedNumbers.{SteppedNumbers}

-- how C says whether the file ends with the lent bytes: by 0 while a piece is to come, and by any other number where none is
abbrev pub SaysLast : ℕ → List (List ℕ) → Type 0
SaysLast last [] = last ≡ 0 → ⊥
SaysLast last (piece ∷ pieces) = last ≡ 0

-- one call: it answers so, leaves these rooms, and its text is as many bytes of the lent ones as it says, from the front (CHIP 9.8)
pub record CallOfC (session : Session) (rooms : Rooms) (bytes : List ℕ) (place : ℕ) (pieces : List (List ℕ)) (answer : SteppedNumbers) (left : Rooms) (text : List ℕ) : Type 0 where
  pub lent : List ℕ
  pub after : List ℕ
  pub last : ℕ
  pub says_last : SaysLast last pieces
  pub is : step_in_numbers session rooms lent bytes place (not (eqb last 0)) ≡ (answer, (left, after))
  pub text_is : take answer.text after ≡ text

-- calls one after another, each with the session, the rooms and the place that the one before it left: from the bytes that are lent and the pieces to come, their texts joined (CHIP 9.8)
pub data CallsOfC : Session → Rooms → List ℕ → ℕ → List (List ℕ) → List ℕ → Type 0 where
  -- before whatever call, bytes are lent in which what is unread stands at a place, and the next piece behind it
  adds : {session : Session} {rooms : Rooms} {bytes more piece : List ℕ} {place from : ℕ} {pieces : List (List ℕ)} {rest : List ℕ}
      → drop from more ≡ drop place bytes ++ piece
      → CallsOfC session rooms more from pieces rest → CallsOfC session rooms bytes place (piece ∷ pieces) rest
  -- before whatever call, bytes are lent in which the same unread ones stand at another place
  moves : {session : Session} {rooms : Rooms} {bytes others : List ℕ} {place from : ℕ} {pieces : List (List ℕ)} {rest : List ℕ}
      → drop from others ≡ drop place bytes
      → CallsOfC session rooms others from pieces rest → CallsOfC session rooms bytes place pieces rest
  -- a call of status 1 lists an entry
  lists : {session : Session} {rooms left : Rooms} {bytes : List ℕ} {place : ℕ} {pieces : List (List ℕ)} {answer : SteppedNumbers} {text rest : List ℕ}
      → CallOfC session rooms bytes place pieces answer left text → answer.status ≡ 1 → CallsOfC answer.session left bytes answer.next pieces rest
      → CallsOfC session rooms bytes place pieces (text ++ rest)
  -- a call of status 3 waits
  waits : {session : Session} {rooms left : Rooms} {bytes : List ℕ} {place : ℕ} {pieces : List (List ℕ)} {answer : SteppedNumbers} {text rest : List ℕ}
      → CallOfC session rooms bytes place pieces answer left text → answer.status ≡ 3 → CallsOfC answer.session left bytes answer.next pieces rest
      → CallsOfC session rooms bytes place pieces (text ++ rest)
  -- a call of status 2 finds the end record: it is the last
  ends : {session : Session} {rooms left : Rooms} {bytes : List ℕ} {place : ℕ} {pieces : List (List ℕ)} {answer : SteppedNumbers} {text : List ℕ}
      → CallOfC session rooms bytes place pieces answer left text → answer.status ≡ 2 → CallsOfC session rooms bytes place pieces text
  -- a call of status 4 finds a fault of the file: it is the last
  stops : {session : Session} {rooms left : Rooms} {bytes : List ℕ} {place : ℕ} {pieces : List (List ℕ)} {answer : SteppedNumbers} {text : List ℕ}
      → CallOfC session rooms bytes place pieces answer left text → answer.status ≡ 4 → CallsOfC session rooms bytes place pieces text

-- of some calls, a piece is lent exactly where the call before has waited for it; the first of them may come after such a call or not
abbrev pub LentOnDemandToC : {session : Session} {rooms : Rooms} {bytes : List ℕ} {place : ℕ} {pieces : List (List ℕ)} {written : List ℕ}
    → Bool → CallsOfC session rooms bytes place pieces written → Type 0
LentOnDemandToC waited (adds behind others) = (waited ≡ true) × LentOnDemandToC false others
LentOnDemandToC waited (moves same others) = LentOnDemandToC waited others
LentOnDemandToC waited (lists call one others) = (waited ≡ false) × LentOnDemandToC false others
LentOnDemandToC waited (waits call three others) = (waited ≡ false) × LentOnDemandToC true others
LentOnDemandToC waited (ends call two) = waited ≡ false
LentOnDemandToC waited (stops call four) = waited ≡ false

-- the last of some calls has status 2, and not 4
abbrev pub finds_end_for_c : {session : Session} {rooms : Rooms} {bytes : List ℕ} {place : ℕ} {pieces : List (List ℕ)} {written : List ℕ}
    → CallsOfC session rooms bytes place pieces written → Bool
finds_end_for_c (adds behind others) = finds_end_for_c others
finds_end_for_c (moves same others) = finds_end_for_c others
finds_end_for_c (lists call one others) = finds_end_for_c others
finds_end_for_c (waits call three others) = finds_end_for_c others
finds_end_for_c (ends call two) = true
finds_end_for_c (stops call four) = false

-- each call of some is answered so
abbrev pub EachAnswers : {session : Session} {rooms : Rooms} {bytes : List ℕ} {place : ℕ} {pieces : List (List ℕ)} {written : List ℕ}
    → (SteppedNumbers → Type 0) → CallsOfC session rooms bytes place pieces written → Type 0
EachAnswers So (adds behind others) = EachAnswers So others
EachAnswers So (moves same others) = EachAnswers So others
EachAnswers So (lists {answer = answer} call one others) = So answer × EachAnswers So others
EachAnswers So (waits {answer = answer} call three others) = So answer × EachAnswers So others
EachAnswers So (ends {answer = answer} call two) = So answer
EachAnswers So (stops {answer = answer} call four) = So answer

-- an answer has no refusal by 11
abbrev pub AnswerNot11 : SteppedNumbers → Type 0
AnswerNot11 answer = answer.refusal.number ≡ 11 → ⊥
