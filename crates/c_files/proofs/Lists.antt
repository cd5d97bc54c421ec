-- The texts of C's calls, joined, are the file's listing, and the last status says how the run over the file ends. Assumes nothing.
use Prim.Native.Nat.{ℕ}
use mathlib.Core.Path.{◌≡◌, refl, sym, subst, ◌∙◌}
use mathlib.Core.Bool.{Bool, true, false}
use mathlib.Core.List.{List, ◌++◌}
use native.Mathlib.Omega.{arith}
use Rattle.rules.specs.Rule.{ok}
use Rattle.rules.specs.Lists.{joined}
use Rattle.session_answers.specs.Status.{Status, listed, ended, needs_more, stopped, text_of}
use Rattle.session.specs.Held.{nothing_held}
use Rattle.session.specs.Listing.{listing}
use Rattle.session.specs.Lent.{Rooms, session_of}
use Rattle.session.specs.Step.{session_step}
use Rattle.session.specs.declared.session.Session.{Session}
use Rattle.session_files.specs.Steps.{none}
use Rattle.session_files.specs.Calls.{Calls, Zeroed}
use Rattle.session_files.specs.Calls as calls
use Rattle.session_files.specs.Ends.{reaches_end, finds_end}
use Rattle.session_files.proofs.Calls.{calls_list}
use Rattle.session_files.proofs.Found.{end_found}
use Rattle.c_session.specs.Steps.{status_in_numbers}
use Rattle.c_session.specs.declared.steps.SteppedNumbers.{SteppedNumbers}
use Rattle.c_files.specs.CallsOfC.{CallsOfC, adds, moves, lists, waits, ends, stops, finds_end_for_c}
use Rattle.c_files.proofs.Told.{told}

-- calls on the session that list a text, and find the end record or not
abbrev Same : Session → Rooms → List ℕ → ℕ → List (List ℕ) → List ℕ → Bool → Type 0
Same session rooms bytes place pieces written found = (same : Calls session rooms bytes place pieces written) × (finds_end same ≡ found)

module _ {session : Session} {rooms left : Rooms} {bytes : List ℕ} {place : ℕ} {pieces : List (List ℕ)} {text : List ℕ} (answer : SteppedNumbers) where
  -- a call of status 1 or 3, by what the session's call behind it came to
  goes_by : {rest : List ℕ} (status : Status) → session_step session rooms bytes place (none pieces) ≡ (((answer.session, answer.next), left), ok status)
      → answer.status ≡ (status_in_numbers (ok status)).status → text ≡ text_of left.output status → (answer.status ≡ 2 → ⊥) → (answer.status ≡ 4 → ⊥)
      → (others : Calls answer.session left bytes answer.next pieces rest) → Same session rooms bytes place pieces (text ++ rest) (finds_end others)
  goes_by {rest} (listed entry) is number text_is not_2 not_4 others = subst (λ (front : List ℕ). Same session rooms bytes place pieces (front ++ rest) (finds_end others)) (sym text_is) (calls.lists is others, refl)
  goes_by ended is number text_is not_2 not_4 others = absurd (not_2 number)
  goes_by {rest} needs_more is number text_is not_2 not_4 others = subst (λ (front : List ℕ). Same session rooms bytes place pieces (front ++ rest) (finds_end others)) (sym text_is) (calls.waits is others, refl)
  goes_by (stopped refusal) is number text_is not_2 not_4 others = absurd (not_4 number)

  -- a call of status 2, by what the session's call behind it came to
  ends_by : (status : Status) → session_step session rooms bytes place (none pieces) ≡ (((answer.session, answer.next), left), ok status)
      → answer.status ≡ (status_in_numbers (ok status)).status → text ≡ text_of left.output status → answer.status ≡ 2 → Same session rooms bytes place pieces text true
  ends_by (listed entry) is number text_is two = absurd (omega arith)
  ends_by ended is number text_is two = subst (λ (written : List ℕ). Same session rooms bytes place pieces written true) (sym text_is) (calls.ends is, refl)
  ends_by needs_more is number text_is two = absurd (omega arith)
  ends_by (stopped refusal) is number text_is two = absurd (omega arith)

  -- a call of status 4, by what the session's call behind it came to
  stops_by : (status : Status) → session_step session rooms bytes place (none pieces) ≡ (((answer.session, answer.next), left), ok status)
      → answer.status ≡ (status_in_numbers (ok status)).status → text ≡ text_of left.output status → answer.status ≡ 4 → Same session rooms bytes place pieces text false
  stops_by (listed entry) is number text_is four = absurd (omega arith)
  stops_by ended is number text_is four = absurd (omega arith)
  stops_by needs_more is number text_is four = absurd (omega arith)
  stops_by (stopped refusal) is number text_is four = subst (λ (written : List ℕ). Same session rooms bytes place pieces written false) (sym text_is) (calls.stops is, refl)

-- C's calls are calls on the session, with the same text, and the last of both finds the end record or not
pub calls_of_c : {session : Session} {rooms : Rooms} {bytes : List ℕ} {place : ℕ} {pieces : List (List ℕ)} {written : List ℕ}
    (calls : CallsOfC session rooms bytes place pieces written) → (same : Calls session rooms bytes place pieces written) × (finds_end same ≡ finds_end_for_c calls)
calls_of_c (adds behind others) = let all = calls_of_c others in (calls.adds behind all.0, all.1)
calls_of_c (moves same others) = let all = calls_of_c others in (calls.moves same all.0, all.1)
calls_of_c {session} {rooms} {bytes} {place} {pieces} (lists {left = left} {answer = answer} {text = text} call one others) =
    let all = told session rooms bytes place pieces answer left text call (λ none. omega arith) in
    let rest = calls_of_c others in
    let whole = goes_by answer all.status all.call_is all.number_is all.text_told (λ two. omega arith) (λ four. omega arith) rest.0 in
    (whole.0, whole.1 ∙ rest.1)
calls_of_c {session} {rooms} {bytes} {place} {pieces} (waits {left = left} {answer = answer} {text = text} call three others) =
    let all = told session rooms bytes place pieces answer left text call (λ none. omega arith) in
    let rest = calls_of_c others in
    let whole = goes_by answer all.status all.call_is all.number_is all.text_told (λ two. omega arith) (λ four. omega arith) rest.0 in
    (whole.0, whole.1 ∙ rest.1)
calls_of_c {session} {rooms} {bytes} {place} {pieces} (ends {left = left} {answer = answer} {text = text} call two) =
    let all = told session rooms bytes place pieces answer left text call (λ none. omega arith) in
    ends_by answer all.status all.call_is all.number_is all.text_told two
calls_of_c {session} {rooms} {bytes} {place} {pieces} (stops {left = left} {answer = answer} {text = text} call four) =
    let all = told session rooms bytes place pieces answer left text call (λ none. omega arith) in
    stops_by answer all.status all.call_is all.number_is all.text_told four

module _ {rooms : Rooms} {bytes : List ℕ} {pieces : List (List ℕ)} {written : List ℕ} (zeroed : Zeroed rooms) (calls : CallsOfC (session_of nothing_held) rooms bytes 0 pieces written) where
  -- from a zeroed store, the texts of C's calls on a new session are the file's listing, however it is cut and whenever its pieces are lent
  pub c_calls_list : written ≡ listing (bytes ++ joined pieces)
  c_calls_list = calls_list zeroed (calls_of_c calls).0

  -- the last of them has status 2 where the run over the file reaches its end record, and 4 elsewhere
  pub c_end_found : finds_end_for_c calls ≡ reaches_end (bytes ++ joined pieces)
  c_end_found = sym (calls_of_c calls).1 ∙ end_found zeroed (calls_of_c calls).0
