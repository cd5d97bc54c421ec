-- What the output held before counts for nothing: a step lists the same over any output as long. Assumes nothing.
use Prim.Native.Nat.{ℕ, zero, suc, ◌+◌}
use mathlib.Core.Path.{◌≡◌, refl, ap, ap₂, sym, ◌∙◌}
use mathlib.Core.Bool.{Bool, true, cond}
use mathlib.Core.List.{List, [], ◌∷◌, ◌++◌}
use lib.ListN.{length, drop, length-replicate}
use lib.Seq.{take_at}
use Rattle.rules.specs.Rule.{Outcome, ok, refused}
use Rattle.rules.specs.Faults.{Numbered}
use Rattle.chip.specs.Write.{written}
use Rattle.chip.specs.Dots.{ran}
use Rattle.session_records.specs.Tags.{most_records}
use Rattle.session_records.specs.RecordAt.{record_at}
use Rattle.session_records.specs.declared.record.Record.{Record}
use Rattle.session_records.specs.declared.record.Record.TheVariants.{End, Write, Dots, Table, Normal, Overlay, Line}
use Rattle.session_records.specs.declared.record.RecordAt.{RecordAt}
use Rattle.session_records.specs.declared.record.RecordAt.TheVariants.{Is, More, Refused}
use Rattle.session_listing.specs.Text.{ascii, ended, spaced, pixels, EntrySays, text, says_ok, says_line}
use Rattle.session_answers.specs.Status.{Status, listed, text_of, goes_on}
use Rattle.session_rooms.specs.Rooms.{longest_line}
use Rattle.line_setup.specs.Controls.{controls_of}
use Rattle.line.specs.Cells.{Lent, lent_of}
use Rattle.line.specs.Line.{line_of}
use Rattle.line.specs.Request.{request_of}
use Rattle.line.specs.Drawn.{setup_of, drawn, without_colours, output_after}
use Rattle.line.specs.declared.request.Request.{Request}
use Rattle.line_reads.proofs.Answers.{state_stays}
use Rattle.line_reads.proofs.Outputs.{colours_length, output_length}
use Rattle.session.specs.Held.{Held, nothing_held}
use Rattle.session.specs.Record.{entry_of, at_position, status_by, context_of, stepped}
use Rattle.session.specs.Listing.{listing_from, listing}
use Rattle.session_files.specs.Outputs.{with_output}
use Rattle.session_files.specs.Ends.{is_end, ends_from, reaches_end}
use Rattle.session_files.proofs.Step.{by_found}

-- two steps that leave, take, come to and list the same, but for the output that they leave
record Alike (one other : (Held × ℕ) × Status) : Type 0 where
  same_held : one.0.0 ≡ with_output other.0.0 one.0.0.output
  same_length : length one.0.0.output ≡ length other.0.0.output
  same_taken : one.0.1 ≡ other.0.1
  same_status : one.1 ≡ other.1
  same_text : text_of one.0.0.output one.1 ≡ text_of other.0.0.output other.1

-- an entry whose text shows no colour lists the same over any output, and so does a refusal in its place
plain : {A : Type 0} (entry : EntrySays) → ((one other : List ℕ) → text entry one ≡ text entry other) → (outcome : Outcome Numbered A) (one other : List ℕ)
    → text (entry_of entry outcome) one ≡ text (entry_of entry outcome) other
unfolding text
plain entry same (ok answer) one other = same one other
plain entry same (refused refusal) one other = refl

module _ (held : Held) (output : List ℕ) (long : length output ≡ length held.output) where
  -- what is asked of a line
  abbrev asked : ℕ → Request
  asked y = request_of held.chip.0 y

  -- what a line is lent of what is held
  abbrev lent_of_held : Lent
  lent_of_held = lent_of held.chip.1 held.table held.normal held.overlay

  -- the active width
  abbrev width : ℕ
  width = (controls_of held.chip.0.control).width

  -- a line's rule over what is held, with an output so long
  abbrev line_with : ℕ → ℕ → Outcome Numbered (List ℕ)
  line_with y count = line_of (setup_of (asked y) lent_of_held count) lent_of_held

  -- the text of a line, by what came of it: the words that were there before are none of those shown
  shown_by : (y : ℕ) (line : Outcome Numbered (List ℕ)) → line_with y (length held.output) ≡ line
      → text (entry_of (says_line y width) (without_colours line)) (output_after width output line)
      ≡ text (entry_of (says_line y width) (without_colours line)) (output_after width held.output line)
  unfolding text setup_of
  shown_by y (ok colours) e =
      let many : length colours ≡ width = colours_length (setup_of (asked y) lent_of_held (length held.output)) lent_of_held e in
      ap (λ (shown : List ℕ). ended (ascii "line" ++ spaced (y ∷ [])) ++ pixels shown)
      (take_at colours (drop width output) width many ∙ sym (take_at colours (drop width held.output) width many))
  shown_by y (refused refusal) e = refl

  -- a line comes to the same
  line_outcome : (y : ℕ) → (drawn (asked y) lent_of_held output).1 ≡ (drawn (asked y) lent_of_held held.output).1
  unfolding drawn
  line_outcome y = ap (λ (count : ℕ). without_colours (line_with y count)) long

  -- a line lists the same
  line_text : (y : ℕ)
      → text (entry_of (says_line y width) (drawn (asked y) lent_of_held output).1) (drawn (asked y) lent_of_held output).0.1
      ≡ text (entry_of (says_line y width) (drawn (asked y) lent_of_held held.output).1) (drawn (asked y) lent_of_held held.output).0.1
  unfolding drawn setup_of
  line_text y =
      ap (λ (count : ℕ). text (entry_of (says_line y width) (without_colours (line_with y count))) (output_after width output (line_with y count))) long
      ∙ shown_by y (line_with y (length held.output)) refl

  -- a line leaves outputs of the same length
  line_length : (y : ℕ) → length (drawn (asked y) lent_of_held output).0.1 ≡ length (drawn (asked y) lent_of_held held.output).0.1
  line_length y = output_length (asked y) lent_of_held output ∙ long ∙ sym (output_length (asked y) lent_of_held held.output)

  -- every record does the same, but for the output
  acted_alike : (bytes : List ℕ) (count : ℕ) (which : Record) → Alike (status_by (with_output held output) bytes (Is which count)) (status_by held bytes (Is which count))
  unfolding text
  acted_alike bytes count End = record { same_held = refl; same_length = long; same_taken = refl; same_status = refl; same_text = refl }
  acted_alike bytes count (Write address value) =
      record { same_held = refl; same_length = long; same_taken = refl; same_status = refl; same_text = plain says_ok (λ one other. refl) (written held.chip address value).1 output held.output }
  acted_alike bytes count (Dots dot_count) =
      record {
        same_held = refl;
        same_length = long;
        same_taken = refl;
        same_status = refl;
        same_text = plain (at_position (ran held.chip dot_count).0.0.at) (λ one other. refl) (ran held.chip dot_count).1 output held.output;
      }
  acted_alike bytes count Table = record { same_held = refl; same_length = long; same_taken = refl; same_status = refl; same_text = refl }
  acted_alike bytes count Normal = record { same_held = refl; same_length = long; same_taken = refl; same_status = refl; same_text = refl }
  acted_alike bytes count Overlay = record { same_held = refl; same_length = long; same_taken = refl; same_status = refl; same_text = refl }
  acted_alike bytes count (Line y) =
      record {
        same_held = rw (state_stays (asked y) lent_of_held output, state_stays (asked y) lent_of_held held.output) refl;
        same_length = line_length y;
        same_taken = refl;
        same_status = ap (λ (outcome : Outcome Numbered (Unit {0})). listed (entry_of (says_line y width) outcome)) (line_outcome y);
        same_text = line_text y;
      }

  -- a step does the same, but for the output
  step_alike : (last : Bool) (bytes : List ℕ) → Alike (stepped last (with_output held output) bytes) (stepped last held bytes)
  unfolding text
  step_alike last bytes = by (record_at (context_of held last) bytes) refl
    where
      -- by what was found
      by : (answer : RecordAt) → record_at (context_of held last) bytes ≡ answer → Alike (stepped last (with_output held output) bytes) (stepped last held bytes)
      by (Is which count) e = rw (by_found last (with_output held output) bytes e, by_found last held bytes e) (acted_alike bytes count which)
      by More e =
          rw (by_found last (with_output held output) bytes e, by_found last held bytes e)
          (record { same_held = refl; same_length = long; same_taken = refl; same_status = refl; same_text = refl })
      by (Refused refusal) e =
          rw (by_found last (with_output held output) bytes e, by_found last held bytes e)
          (record { same_held = refl; same_length = long; same_taken = refl; same_status = refl; same_text = refl })

-- what comes of the records behind a step is the same over any output as long, where that holds of what is held after the step
further_alike : {A : Type 0} (of : Held → List ℕ → A)
    → ((held : Held) (output bytes : List ℕ) → length output ≡ length held.output → of (with_output held output) bytes ≡ of held bytes)
    → (held : Held) (output bytes : List ℕ) → length output ≡ length held.output
    → let one = stepped true (with_output held output) bytes in
    let other = stepped true held bytes in
    of one.0.0 (drop one.0.1 bytes) ≡ of other.0.0 (drop other.0.1 bytes)
further_alike of same_of held output bytes long =
    let same = step_alike held output long true bytes in
    let one = stepped true (with_output held output) bytes in
    let other = stepped true held bytes in
    ap (λ (next : Held). of next (drop one.0.1 bytes)) same.same_held
    ∙ ap (λ (taken : ℕ). of (with_output other.0.0 one.0.0.output) (drop taken bytes)) same.same_taken
    ∙ same_of other.0.0 one.0.0.output (drop other.0.1 bytes) same.same_length

-- the listing of further records is the same over any output as long
pub listing_over : (count : ℕ) (held : Held) (output bytes : List ℕ) → length output ≡ length held.output
    → listing_from count (with_output held output) bytes ≡ listing_from count held bytes
listing_over zero held output bytes long = refl
listing_over (suc count) held output bytes long =
    let same = step_alike held output long true bytes in
    let further = further_alike (listing_from count) (listing_over count) held output bytes long in
    ap₂ (λ (front rest : List ℕ). front ++ rest) same.same_text
    (ap₂ (λ (status : Status) (rest : List ℕ). cond (goes_on status) rest []) same.same_status further)

-- the listing of a file doesn't rest on what the output held at first
pub listing_any_output : (output file : List ℕ) → length output ≡ longest_line → listing_from (most_records + 1) (with_output nothing_held output) file ≡ listing file
unfolding listing
listing_any_output output file long = listing_over (most_records + 1) nothing_held output file (long ∙ sym (length-replicate {A = ℕ} longest_line 0))

-- further records reach the end record or not, over any output as long
pub ends_over : (count : ℕ) (held : Held) (output bytes : List ℕ) → length output ≡ length held.output
    → ends_from count (with_output held output) bytes ≡ ends_from count held bytes
ends_over zero held output bytes long = refl
ends_over (suc count) held output bytes long =
    let same = step_alike held output long true bytes in
    let further = further_alike (ends_from count) (ends_over count) held output bytes long in
    ap₂ (λ (status : Status) (rest : Bool). cond (goes_on status) rest (is_end status)) same.same_status further

-- whether the run over a file reaches its end record doesn't rest on what the output held at first
pub end_any_output : (output file : List ℕ) → length output ≡ longest_line → ends_from (most_records + 1) (with_output nothing_held output) file ≡ reaches_end file
unfolding reaches_end
end_any_output output file long = ends_over (most_records + 1) nothing_held output file (long ∙ sym (length-replicate {A = ℕ} longest_line 0))
