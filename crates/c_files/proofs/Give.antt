-- Every file has its listing by C's calls, however it is cut. Assumes nothing.
use Prim.Native.Nat.{ℕ, ◌≤◌}
use mathlib.Core.Path.{◌≡◌, refl, ap, sym, ◌∙◌}
use mathlib.Core.Bool.{Bool, true, false, not}
use mathlib.Core.List.{List, [], ◌∷◌, ◌++◌}
use native.Mathlib.Omega.{arith}
use lib.Dec.{eqb}
use lib.ListN.{length, drop}
use lib.Seq.{take_at}
use Rattle.rules.specs.Rule.{Outcome, ok}
use Rattle.rules.specs.Faults.{Numbered}
use Rattle.rules.specs.Lists.{joined}
use Rattle.session_answers.specs.Status.{Status, text_of}
use Rattle.session.specs.Held.{nothing_held}
use Rattle.session.specs.Listing.{listing}
use Rattle.session.specs.Lent.{Rooms, laid, session_of}
use Rattle.session.specs.Step.{Left, session_step}
use Rattle.session.specs.declared.session.Session.{Session}
use Rattle.session_files.specs.Steps.{none}
use Rattle.session_files.specs.Calls.{Calls, LentOnDemand, Zeroed, RightLengths}
use Rattle.session_files.specs.Calls as calls
use Rattle.session_files.proofs.GoOn.{calls_give}
use Rattle.c_session.specs.Steps.{text_room, status_in_numbers, step_answer, step_left}
use Rattle.c_session.proofs.Texts.{step_of_session}
use Rattle.c_files.specs.CallsOfC.{SaysLast, CallOfC, CallsOfC, adds, moves, lists, waits, ends, stops, LentOnDemandToC}
use Rattle.c_files.proofs.Told.{says_none}

-- a number by which C says whether a piece is to come
abbrev pub last_for : List (List ℕ) → ℕ
last_for [] = 1
last_for (piece ∷ pieces) = 0

-- it says so
says_last : (pieces : List (List ℕ)) → SaysLast (last_for pieces) pieces
says_last [] = λ e. omega arith
says_last (piece ∷ pieces) = refl

module _ (lent : List ℕ) (long : text_room ≤ length lent) where
  module _ (session : Session) (rooms : Rooms) (bytes : List ℕ) (place : ℕ) (pieces : List (List ℕ)) {after : Left} {status : Status}
      (is : session_step session rooms bytes place (none pieces) ≡ (after, ok status)) where
    -- the text of what the call came to
    abbrev pub put : List ℕ
    put = text_of after.1.output status

    -- an answered call on the session is one of C's, with the same text
    pub call_of_c : CallOfC session rooms bytes place pieces (step_answer after.0 (status_in_numbers (ok status)) (length put)) after.1 put
    call_of_c =
        record {
          lent = lent;
          after = laid lent put;
          last = last_for pieces;
          says_last = says_last pieces;
          is =
              sym (step_of_session session rooms lent bytes place (not (eqb (last_for pieces) 0)) long)
              ∙ ap (λ (last : Bool). step_left (session_step session rooms bytes place last) lent) (says_none (last_for pieces) pieces (says_last pieces))
              ∙ ap (λ (all : Left × Outcome Numbered Status). step_left all lent) is;
          text_is = take_at put (drop (length put) lent) (length put) refl;
        }

  -- calls on the session are C's, with any text that is long enough
  unfoldable pub c_of_calls : {session : Session} {rooms : Rooms} {bytes : List ℕ} {place : ℕ} {pieces : List (List ℕ)} {written : List ℕ}
      → Calls session rooms bytes place pieces written → CallsOfC session rooms bytes place pieces written
  c_of_calls (calls.adds behind others) = adds behind (c_of_calls others)
  c_of_calls (calls.moves same others) = moves same (c_of_calls others)
  c_of_calls {session} {rooms} {bytes} {place} {pieces} (calls.waits is others) = waits (call_of_c session rooms bytes place pieces is) refl (c_of_calls others)
  c_of_calls {session} {rooms} {bytes} {place} {pieces} (calls.lists is others) = lists (call_of_c session rooms bytes place pieces is) refl (c_of_calls others)
  c_of_calls {session} {rooms} {bytes} {place} {pieces} (calls.ends is) = ends (call_of_c session rooms bytes place pieces is) refl
  c_of_calls {session} {rooms} {bytes} {place} {pieces} (calls.stops is) = stops (call_of_c session rooms bytes place pieces is) refl

  -- where the one lends a piece, so does the other
  pub on_demand_too : {session : Session} {rooms : Rooms} {bytes : List ℕ} {place : ℕ} {pieces : List (List ℕ)} {written : List ℕ} (waited : Bool)
      (calls : Calls session rooms bytes place pieces written) → LentOnDemand waited calls → LentOnDemandToC waited (c_of_calls calls)
  unfolding c_of_calls
  on_demand_too waited (calls.adds behind others) on = (on.0, on_demand_too false others on.1)
  on_demand_too waited (calls.moves same others) on = on_demand_too waited others on
  on_demand_too waited (calls.waits is others) on = (on.0, on_demand_too true others on.1)
  on_demand_too waited (calls.lists is others) on = (on.0, on_demand_too false others on.1)
  on_demand_too waited (calls.ends is) on = on
  on_demand_too waited (calls.stops is) on = on

  -- C's calls on a new session list the file's listing, however it is cut, and lend each piece where one waits for it
  pub c_calls_give : (rooms : Rooms) → Zeroed rooms → RightLengths rooms → (bytes : List ℕ) (pieces : List (List ℕ))
      → (calls : CallsOfC (session_of nothing_held) rooms bytes 0 pieces (listing (bytes ++ joined pieces))) × LentOnDemandToC false calls
  c_calls_give rooms zeroed right bytes pieces =
      let all = calls_give rooms zeroed right bytes pieces in
      (c_of_calls all.0, on_demand_too false all.0 all.1)
