-- A record at which the file ends is refused exactly by the first of 12, 14 and 13 that holds. Assumes nothing.
use Prim.Native.Nat.{ℕ}
use mathlib.Core.Path.{◌≡◌, ap, sym, ◌∙◌}
use mathlib.Core.Bool.{true}
use mathlib.Core.List.{List}
use Rattle.rules.specs.Rule.{Outcome, ok, refused}
use Rattle.rules.specs.Faults.{Numbered, Clear, First}
use Rattle.rules.specs.Checked.{verdict}
use Rattle.rules.proofs.Cases.{impossible}
use Rattle.rules.proofs.Checked.{verdict_first, first_verdict}
use Rattle.session_records.specs.Parts.{record_of, length_of}
use Rattle.session_records.specs.RecordAt.{record_at}
use Rattle.session_records.specs.declared.record.Record.{Record}
use Rattle.session_records.specs.declared.record.RecordAt.TheVariants.{Is}
use Rattle.session_records.proofs.Accepted.{found_accepted}
use Rattle.session_records.proofs.Answers.{found_wrong, found_cut_much, found_cut, found_much, found_is}
use Rattle.session_records.proofs.Judged.{Judged, faulty, waiting, cut_much, cut, much, good, judged}
use Rattle.session_answers.specs.Status.{Status, listed, ended, needs_more, stopped}
use Rattle.session.specs.Held.{Held}
use Rattle.session.specs.Record.{context_of, stepped}
use Rattle.session_files.specs.Faults.{record_faults}
use Rattle.session_files.proofs.Step.{Stepped, lists, ends, lacks, stops, by_found, step}

-- what a step says of its record: a fault of the file, or none
abbrev verdict_of : Status → Outcome Numbered (Unit {0})
verdict_of (listed entry) = ok tt
verdict_of ended = ok tt
verdict_of needs_more = ok tt
verdict_of (stopped refusal) = refused refusal

module _ (held : Held) (bytes : List ℕ) where
  -- a record that was found is no fault
  record_fine : Stepped true held bytes → record_at (context_of held true) bytes ≡ Is (record_of bytes) (length_of bytes) → verdict_of (stepped true held bytes).1 ≡ ok tt
  record_fine (lists is counts s) e = rw s
  record_fine (ends is s) e = rw s
  record_fine (lacks is s) e = rw s
  record_fine (stops is s) e = impossible cc

  -- by the way in which the bytes are judged
  judged_so : Judged (context_of held true) bytes → verdict_of (stepped true held bytes).1 ≡ verdict (record_faults (context_of held true) bytes)
  judged_so (faulty w) = rw (by_found true held bytes (found_wrong (context_of held true) bytes w), w)
  judged_so (waiting w s l) = impossible cc
  judged_so (cut_much w s l m) = rw (by_found true held bytes (found_cut_much (context_of held true) bytes w s l m), w, m)
  judged_so (cut w s l m) = rw (by_found true held bytes (found_cut (context_of held true) bytes w s l m), w, m, s)
  judged_so (much w s m) = rw (by_found true held bytes (found_much (context_of held true) bytes w s m), w, m)
  judged_so (good w s m) = rw (w, m, s) (record_fine (step true held bytes) (found_is (context_of held true) bytes w s m))

  -- the faults decide, in their order
  told_so : verdict_of (stepped true held bytes).1 ≡ verdict (record_faults (context_of held true) bytes)
  told_so = judged_so (judged (context_of held true) bytes)

  -- a step stops the run by the first fault of the record that holds
  pub stopped_exactly : (refusal : Numbered) → (stepped true held bytes).1 ≡ stopped refusal → First (record_faults (context_of held true) bytes) refusal
  stopped_exactly refusal e = first_verdict (record_faults (context_of held true) bytes) refusal (sym told_so ∙ ap verdict_of e)

  -- only a stop says a fault
  stopped_by : (status : Status) {refusal : Numbered} → verdict_of status ≡ refused refusal → status ≡ stopped refusal
  stopped_by (listed entry) e = impossible cc
  stopped_by ended e = impossible cc
  stopped_by needs_more e = impossible cc
  stopped_by (stopped refusal) e = cc

  -- wherever a fault holds, the first of them stops the run
  pub exactly_stopped : (refusal : Numbered) → First (record_faults (context_of held true) bytes) refusal → (stepped true held bytes).1 ≡ stopped refusal
  exactly_stopped refusal first =
      stopped_by (stepped true held bytes).1 (told_so ∙ verdict_first (record_faults (context_of held true) bytes) refusal first)

  -- a record is found only where none holds
  pub found_clear : {which : Record} {count : ℕ} → record_at (context_of held true) bytes ≡ Is which count → Clear (record_faults (context_of held true) bytes)
  found_clear e = let fits = found_accepted (context_of held true) bytes e in (fits.right, (fits.few, (fits.whole, tt)))

  -- wherever no fault holds, the record of these bytes is found
  pub clear_found : Clear (record_faults (context_of held true) bytes) → record_at (context_of held true) bytes ≡ Is (record_of bytes) (length_of bytes)
  clear_found clear = found_is (context_of held true) bytes clear.0 clear.1.1.0 clear.1.0
