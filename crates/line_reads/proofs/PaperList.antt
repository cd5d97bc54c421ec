-- What a line reads is on the paper's list, and so demand 3 holds by that list. Assumes nothing.
use Prim.Native.Nat.{ℕ, suc, ◌≤◌}
use mathlib.Core.Path.{◌≡◌, refl, ap}
use mathlib.Core.List.{List}
use mathlib.Core.Logic.{⊎_elim}
use native.Mathlib.Omega.{arith}
use native.Mathlib.Nat.{eq-or-lt_of_le}
use lib.ListN.{length}
use Rattle.rules.specs.Rule.{Outcome, ok, refused, run}
use Rattle.rules.specs.Faults.{Numbered, place_in}
use Rattle.rules.proofs.Checked.{verdict_first}
use Rattle.line_colour.specs.declared.entry.WindowEntry.{WindowEntry}
use Rattle.line_windows.specs.Table.{yend, line_table, xend, window_id}
use Rattle.line_setup.specs.Faults.{line_faults}
use Rattle.line_setup.specs.declared.setup.Setup.{Setup}
use Rattle.line.specs.Cells.{Cell, of_table, window_entry, of_colour, Lent, view}
use Rattle.line.specs.Line.{line_of}
use Rattle.line.specs.Drawn.{setup_of}
use Rattle.line.specs.declared.request.Request.{Request}
use Rattle.line_reads.specs.Calls.{SameCall, DrawnAlike}
use Rattle.line_reads.specs.Reach.{Search, to_the_one_found, through_all, Reach, drawn_whole, no_frame_entry, no_line_entry, undefined_entry}
use Rattle.line_reads.specs.TableList.{FrameEntry, HasEntry, FrameListed}
use Rattle.line_reads.specs.Listed.{UpToFault, of_7, of_8, of_9, ListedTo, ListedFor, AsFarAs, Listed}
use Rattle.line_reads.specs.PaperList.{PaperTo, PaperListed, AgreeOnPaper}
use Rattle.line_reads.specs.Reasons.{ComesTo, Reason, at_once, is_no_frame_entry, is_no_line_entry, is_undefined_entry}
use Rattle.line_reads.proofs.Frames.{starting, identifying, starts_found}
use Rattle.line_reads.proofs.Served.{line_found}
use Rattle.line_reads.proofs.Having.{has_id}
use Rattle.line_reads.proofs.MetPixels.{AllIds, searched_for}
use Rattle.line_reads.proofs.Early.{early}
use Rattle.line_reads.proofs.Reasons.{refused_for}
use Rattle.line_reads.proofs.PixelColour.{pixel_colour}
use Rattle.line_reads.proofs.ByList.{alike_on_list}

module _ (setup : Setup) (lent : Lent) where
  -- ---- whole entries

  -- the frame entry found is one of those searched
  found_searched : (frames : Search) {number : ℕ} → FrameEntry setup lent number → FrameListed setup lent frames number
  found_searched to_the_one_found {number} found = record { entry = number; found = found; up_to = omega arith }
  found_searched through_all {number} found =
      found.whole

  -- each pixel met has an ID
  abbrev MetIds : Reach → Type 0
  MetIds reach = (start : ℕ) (started : run (view lent) (starting setup lent) ≡ ok start) → AllIds setup lent started reach.met

  -- what is listed of a line that gets so far is on the paper's list
  longer : (reach : Reach) → MetIds reach → (cell : Cell) → ListedTo setup lent reach cell → PaperTo setup lent reach cell
  longer reach ids (of_table (yend number)) listed = listed
  longer reach ids (of_table (line_table number)) listed = found_searched reach.frames listed
  longer reach ids (of_table (xend byte)) listed = listed
  longer reach ids (of_table (window_id byte)) listed =
      let started = starts_found setup lent listed.starts in
      record {
        start = listed.start;
        starts = listed.starts;
        number = listed.entry;
        searched = searched_for setup lent started reach.lines listed.starts.found.whole.on (ids listed.start started) listed.is_met
            (line_found setup lent listed.start listed.found) (omega arith);
        stands = listed.stands;
      }
  longer reach ids (window_entry id) listed = listed
  longer reach ids (of_colour cell) listed = listed

  -- ---- the pixels met

  module _ {start : ℕ} (started : run (view lent) (starting setup lent) ≡ ok start) where
    -- a pixel that has a window entry has an ID
    id_of : (x : ℕ) {entry : WindowEntry} → HasEntry setup lent x entry → (id : ℕ) × (run (view lent) (identifying setup lent start x) ≡ ok id)
    id_of x at = (at.id, has_id setup lent started x at.has)

    -- so has each pixel before one that a line comes to
    ids_before : {x : ℕ} → ComesTo setup lent x → AllIds setup lent started x
    ids_before comes = λ i below. id_of i (comes.earlier i below).1

    -- for 8 the pixels before its place are met
    ids_8 : {refusal : Numbered} → refusal.number ≡ 8 → Reason setup lent refusal → AllIds setup lent started (place_in refusal)
    ids_8 is (at_once first) = absurd ((early setup (verdict_first (line_faults setup) _ first)).not_8 is)
    ids_8 is (is_no_frame_entry clear none e) = absurd (omega (arith, ap (λ (told : Numbered). told.number) e))
    ids_8 is (is_no_line_entry clear x comes none e) = rw e (ids_before comes)
    ids_8 is (is_undefined_entry clear x comes at e) = absurd (omega (arith, ap (λ (told : Numbered). told.number) e))

    -- for 9 the pixel at its place too
    ids_9 : {refusal : Numbered} → refusal.number ≡ 9 → Reason setup lent refusal → AllIds setup lent started (suc (place_in refusal))
    ids_9 is (at_once first) = absurd ((early setup (verdict_first (line_faults setup) _ first)).not_9 is)
    ids_9 is (is_no_frame_entry clear none e) = absurd (omega (arith, ap (λ (told : Numbered). told.number) e))
    ids_9 is (is_no_line_entry clear x comes none e) = absurd (omega (arith, ap (λ (told : Numbered). told.number) e))
    ids_9 is (is_undefined_entry clear x comes at e) =
        rw e (λ i below.
        let up_to : i ≤ x = omega arith in
        ⊎_elim (λ same. (at.id, rw same (has_id setup lent started x at.has))) (λ before. ids_before comes i before)
        (eq-or-lt_of_le up_to))

  -- ---- the line

  -- what is listed for a refusal is on the paper's list
  longer_refused : {refusal : Numbered} → Reason setup lent refusal → (cell : Cell) → UpToFault (ListedTo setup lent) refusal cell
      → UpToFault (PaperTo setup lent) refusal cell
  longer_refused reason cell (of_7 is listed) = of_7 is (longer no_frame_entry (λ start started i below. absurd (omega arith)) cell listed)
  longer_refused {refusal} reason cell (of_8 is listed) = of_8 is (longer (no_line_entry (place_in refusal)) (λ start started. ids_8 started is reason) cell listed)
  longer_refused {refusal} reason cell (of_9 is listed) = of_9 is (longer (undefined_entry (place_in refusal)) (λ start started. ids_9 started is reason) cell listed)

  -- every cell that is listed is on the paper's list
  pub listed_on_paper : (cell : Cell) → Listed setup lent cell → PaperListed setup lent cell
  listed_on_paper cell listed = by (line_of setup lent) refl listed
    where
      -- whether the line is drawn or refused
      by : (line : Outcome Numbered (List ℕ)) → line_of setup lent ≡ line → ListedFor setup lent line cell
          → AsFarAs setup.controls.width (PaperTo setup lent) line cell
      by (ok colours) e there =
          longer (drawn_whole setup.controls.width) (λ start started i below. id_of started i (pixel_colour setup lent e i below).has) cell there
      by (refused refusal) e there = longer_refused (refused_for setup lent e) cell there

-- two calls that go by the same and agree on the paper's list for the first answer and draw the same
pub alike_on_paper : (request again : Request) (lent other : Lent) (output old : List ℕ) → SameCall request again lent other output old
    → AgreeOnPaper (setup_of request lent (length output)) lent other → DrawnAlike request again lent other output old
alike_on_paper request again lent other output old same agree =
    alike_on_list request again lent other output old same
    (λ cell listed. agree cell (listed_on_paper (setup_of request lent (length output)) lent cell listed))
