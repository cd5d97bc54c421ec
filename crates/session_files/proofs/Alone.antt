-- A record's own bytes are enough for its step. Assumes nothing.
use Prim.Native.Nat.{ℕ, ◌+◌, ◌≤◌}
use mathlib.Core.Path.{◌≡◌, sym, ◌∙◌}
use mathlib.Core.Bool.{Bool, false}
use mathlib.Core.List.{List, ◌++◌}
use native.Mathlib.Omega.{arith}
use borrow.Author.Tests.{le-leb}
use lib.ListN.{length}
use Rattle.rules.proofs.Cases.{impossible}
use Rattle.session_records.specs.Parts.{length_of}
use Rattle.session_records.specs.Faults.{missing}
use Rattle.session_records.specs.RecordAt.{record_at}
use Rattle.session_records.specs.declared.record.Record.{Record}
use Rattle.session_records.specs.declared.record.RecordAt.{RecordAt}
use Rattle.session_records.specs.declared.record.RecordAt.TheVariants.{Is, More}
use Rattle.session_records.proofs.Answers.{found_wrong, found_much, found_is}
use Rattle.session_records.proofs.Judged.{Judged, faulty, waiting, cut_much, cut, much, good, judged}
use Rattle.session_records.proofs.Accepted.{found_accepted}
use Rattle.session_records.proofs.Behind.{length_kept, found_behind}
use Rattle.session.specs.Held.{Held}
use Rattle.session.specs.Record.{context_of, stepped}
use Rattle.session_files.proofs.Behind.{found_anyway, record_behind}

module _ (held : Held) (bytes rest : List ℕ) (last : Bool) {which : Record} {count : ℕ}
    (e : record_at (context_of held last) (bytes ++ rest) ≡ Is which count) (enough : 3 + count ≤ length bytes) where
  -- no byte of the record is missing
  all_there : missing bytes ≡ false
  unfolding missing
  all_there =
      let long : count ≡ length_of bytes = (found_accepted (context_of held last) (bytes ++ rest) e).length_is ∙ length_kept bytes rest (omega arith) in
      rw (← long, le-leb 3 (length bytes) (omega arith), le-leb (3 + count) (length bytes) enough)

  -- what is found in these bytes is found with those behind them
  same_behind : {answer : RecordAt} → (answer ≡ More → ⊥) → record_at (context_of held false) bytes ≡ answer → record_at (context_of held last) (bytes ++ rest) ≡ answer
  same_behind {answer} sure is = found_behind held.records (length held.table) bytes rest last answer sure is

  -- by the way in which the bytes are judged
  alone_by : Judged (context_of held false) bytes → record_at (context_of held false) bytes ≡ Is which count
  alone_by (faulty w) = impossible (cc (same_behind (λ more. impossible cc) (found_wrong (context_of held false) bytes w)))
  alone_by (waiting w s l) = impossible (cc all_there)
  alone_by (cut_much w s l m) = impossible cc
  alone_by (cut w s l m) = impossible cc
  alone_by (much w s m) = impossible (cc (same_behind (λ more. impossible cc) (found_much (context_of held false) bytes w s m)))
  alone_by (good w s m) =
      let is = found_is (context_of held false) bytes w s m in
      is ∙ sym (same_behind (λ more. impossible cc) is) ∙ e

  -- the step of a record rests on its own bytes
  pub record_alone : (last' : Bool) → stepped last' held bytes ≡ stepped last held (bytes ++ rest)
  record_alone last' = sym (record_behind held bytes rest last' last (found_anyway held bytes rest false last' (alone_by (judged (context_of held false) bytes))))
