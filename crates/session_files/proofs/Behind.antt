-- Bytes behind a record don't matter to its step. Assumes nothing.
use Prim.Native.Nat.{ℕ}
use mathlib.Core.Path.{◌≡◌, sym, ◌∙◌}
use mathlib.Core.Bool.{Bool, true, false}
use mathlib.Core.List.{List, [], ◌∷◌, ◌++◌, append-nil}
use lib.ListN.{length}
use Rattle.rules.specs.Lists.{joined}
use Rattle.rules.proofs.Cases.{impossible}
use Rattle.session_records.specs.Faults.{too_much}
use Rattle.session_records.specs.RecordAt.{record_at}
use Rattle.session_records.specs.declared.record.Record.{Record}
use Rattle.session_records.specs.declared.record.RecordAt.TheVariants.{Is, Refused}
use Rattle.session_records.proofs.Answers.{found_is}
use Rattle.session_records.proofs.Accepted.{found_accepted}
use Rattle.session_records.proofs.Behind.{body_kept, found_behind}
use Rattle.session_answers.specs.Status.{needs_more}
use Rattle.session.specs.Held.{Held}
use Rattle.session.specs.Record.{status_by, context_of, stepped}
use Rattle.session_files.specs.Steps.{none}
use Rattle.session_files.proofs.Step.{Stepped, lists, ends, lacks, stops, by_found, step}

module _ (held : Held) (bytes rest : List ℕ) where
  -- a record's body is the same, whatever follows
  did_behind : (last : Bool) {which : Record} {count : ℕ} → record_at (context_of held last) bytes ≡ Is which count → status_by held (bytes ++ rest) (Is which count) ≡ status_by held bytes (Is which count)
  did_behind last e = rw (body_kept bytes rest (found_accepted (context_of held last) bytes e).whole)

  -- a record is found wherever the file ends
  pub found_anyway : (last last' : Bool) {which : Record} {count : ℕ} → record_at (context_of held last) bytes ≡ Is which count
      → record_at (context_of held last') bytes ≡ Is which count
  unfolding too_much
  found_anyway last last' {which} {count} e =
      let fits = found_accepted (context_of held last) bytes e in
      let is = found_is (context_of held last') bytes fits.right fits.whole fits.few in
      rw (fits.record_is, fits.length_is) is

  -- a record that is found is the same, whatever follows and wherever the file ends
  pub record_behind : (last last' : Bool) {which : Record} {count : ℕ} → record_at (context_of held last) bytes ≡ Is which count
      → stepped last' held (bytes ++ rest) ≡ stepped last held bytes
  record_behind last last' {which} {count} e =
      by_found last' held (bytes ++ rest) (found_behind held.records (length held.table) bytes rest last' (Is which count) (λ more. impossible cc) (found_anyway last false e))
      ∙ did_behind last e
      ∙ sym (by_found last held bytes e)

  -- a step that doesn't wait is the same, whatever follows and wherever the file ends
  pub step_behind : (last : Bool) → ((stepped false held bytes).1 ≡ needs_more → ⊥) → stepped last held (bytes ++ rest) ≡ stepped false held bytes
  step_behind last sure = by (step false held bytes)
    where
      -- by what the step comes to
      by : Stepped false held bytes → stepped last held (bytes ++ rest) ≡ stepped false held bytes
      by (lists is counts s) = record_behind false last is
      by (ends is s) = record_behind false last is
      by (lacks is s) = absurd (sure (rw s))
      by (stops {refusal = refusal} is s) =
          by_found last held (bytes ++ rest) (found_behind held.records (length held.table) bytes rest last (Refused refusal) (λ more. impossible cc) is) ∙ sym s

-- a step that doesn't wait is that of the whole file
pub step_of_whole : (held : Held) (unread : List ℕ) (pieces : List (List ℕ)) → ((stepped (none pieces) held unread).1 ≡ needs_more → ⊥)
    → stepped true held (unread ++ joined pieces) ≡ stepped (none pieces) held unread
step_of_whole held unread [] sure = rw (append-nil unread)
step_of_whole held unread (piece ∷ pieces) sure = step_behind held unread (piece ++ joined pieces) true sure
