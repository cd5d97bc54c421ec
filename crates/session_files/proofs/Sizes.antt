-- What a session holds keeps its sizes. Assumes nothing.
use Prim.Native.Nat.{ℕ}
use mathlib.Core.Path.{◌≡◌, refl, sym, subst, ◌∙◌}
use mathlib.Core.Bool.{Bool}
use mathlib.Core.List.{List, [], ◌∷◌}
use native.Mathlib.Omega.{arith}
use lib.ListN.{length, length-append, length-replicate}
use Rattle.chip_registers.specs.Store.{store_length}
use Rattle.chip.specs.State.{HasArrays}
use Rattle.chip.proofs.Good.{fresh_whole}
use Rattle.chip_history.specs.Calls.{Call, write, dots, left_by, end}
use Rattle.chip_history.proofs.Calls.{call_whole}
use Rattle.chip_history.proofs.Stays.{stays_length}
use Rattle.session_records.specs.Parts.{body_of}
use Rattle.session_records.specs.RecordAt.{record_at}
use Rattle.session_records.specs.declared.record.Record.{Record}
use Rattle.session_records.specs.declared.record.Record.TheVariants.{End, Write, Dots, Table, Normal, Overlay, Line}
use Rattle.session_records.specs.declared.record.RecordAt.{RecordAt}
use Rattle.session_records.specs.declared.record.RecordAt.TheVariants.{Is, More, Refused}
use Rattle.session_records.proofs.Whole.{body_long}
use Rattle.session_records.proofs.Accepted.{found_accepted}
use Rattle.session_records.proofs.Limits.{table_fits, normal_fits, overlay_fits}
use Rattle.line.specs.Cells.{lent_of}
use Rattle.line.specs.Request.{request_of}
use Rattle.session.specs.Held.{Held, nothing_held, with_chip}
use Rattle.session.specs.Record.{acted, context_of, stepped}
use Rattle.line_reads.proofs.Answers.{state_stays}
use Rattle.line_reads.proofs.Outputs.{output_length}
use Rattle.session_files.specs.Outputs.{with_output}
use Rattle.session_files.specs.Calls.{Roomy}
use Rattle.session_files.proofs.Step.{by_found}

-- at first what is held has its sizes, over any output
pub empty_roomy : (output : List ℕ) → Roomy (with_output nothing_held output)
empty_roomy output =
    record {
      store_long = length-replicate {A = ℕ} store_length 0;
      table_held = omega arith;
      normal_held = omega arith;
      overlay_held = omega arith;
      state_whole = fresh_whole;
    }

module _ (held : Held) (roomy : Roomy held) where
  -- a call of the chip leaves the sizes
  chip_roomy : (call : Call) → Roomy (with_chip held (left_by held.chip call))
  unfolding end
  chip_roomy call =
      record {
        store_long = stays_length held.chip (call ∷ []) roomy.state_whole ∙ roomy.store_long;
        table_held = roomy.table_held;
        normal_held = roomy.normal_held;
        overlay_held = roomy.overlay_held;
        state_whole = call_whole held.chip call roomy.state_whole;
      }

  module _ (last : Bool) (bytes : List ℕ) where
    -- the body of a record that was found has its length
    body_is : {which : Record} {count : ℕ} → record_at (context_of held last) bytes ≡ Is which count → length (body_of bytes) ≡ count
    body_is e = let fits = found_accepted (context_of held last) bytes e in body_long bytes fits.whole ∙ sym fits.length_is

    -- every record leaves the sizes
    record_roomy : (which : Record) {count : ℕ} → record_at (context_of held last) bytes ≡ Is which count → Roomy (acted held which (body_of bytes)).0
    unfolding left_by
    record_roomy End is = roomy
    record_roomy (Write address value) is = chip_roomy (write address value)
    record_roomy (Dots dot_count) is = chip_roomy (dots dot_count)
    record_roomy Table is =
        record {
          store_long = roomy.store_long;
          table_held = omega (arith, length-append held.table (body_of bytes), body_is is, table_fits (context_of held last) bytes is);
          normal_held = roomy.normal_held;
          overlay_held = roomy.overlay_held;
          state_whole = roomy.state_whole;
        }
    record_roomy Normal is =
        record {
          store_long = roomy.store_long;
          table_held = roomy.table_held;
          normal_held = rw (body_is is) (normal_fits (context_of held last) bytes is);
          overlay_held = roomy.overlay_held;
          state_whole = roomy.state_whole;
        }
    record_roomy Overlay is =
        record {
          store_long = roomy.store_long;
          table_held = roomy.table_held;
          normal_held = roomy.normal_held;
          overlay_held = rw (body_is is) (overlay_fits (context_of held last) bytes is);
          state_whole = roomy.state_whole;
        }
    record_roomy (Line y) is =
        let lent = lent_of held.chip.1 held.table held.normal held.overlay in
        record {
          store_long = roomy.store_long;
          table_held = roomy.table_held;
          normal_held = roomy.normal_held;
          overlay_held = roomy.overlay_held;
          state_whole = subst HasArrays (sym (state_stays (request_of held.chip.0 y) lent held.output)) roomy.state_whole;
        }

-- every step keeps the sizes of what is held
pub stays_roomy : (last : Bool) (held : Held) (bytes : List ℕ) → Roomy held → Roomy (stepped last held bytes).0.0
stays_roomy last held bytes roomy = by (record_at (context_of held last) bytes) refl
  where
    -- by what was found
    by : (answer : RecordAt) → record_at (context_of held last) bytes ≡ answer → Roomy (stepped last held bytes).0.0
    by (Is which count) e = rw (by_found last held bytes e) (record_roomy held roomy last bytes which e)
    by More e = rw (by_found last held bytes e) roomy
    by (Refused refusal) e = rw (by_found last held bytes e) roomy

-- every step leaves an output as long
pub stays_long : (last : Bool) (held : Held) (bytes : List ℕ) → length (stepped last held bytes).0.0.output ≡ length held.output
stays_long last held bytes = by (record_at (context_of held last) bytes) refl
  where
    -- by what was found, and then by the record: only a line writes to the output
    by : (answer : RecordAt) → record_at (context_of held last) bytes ≡ answer → length (stepped last held bytes).0.0.output ≡ length held.output
    by (Is End count) e = rw (by_found last held bytes e) refl
    by (Is (Write address value) count) e = rw (by_found last held bytes e) refl
    by (Is (Dots dot_count) count) e = rw (by_found last held bytes e) refl
    by (Is Table count) e = rw (by_found last held bytes e) refl
    by (Is Normal count) e = rw (by_found last held bytes e) refl
    by (Is Overlay count) e = rw (by_found last held bytes e) refl
    by (Is (Line y) count) e =
        rw (by_found last held bytes e)
        (output_length (request_of held.chip.0 y) (lent_of held.chip.1 held.table held.normal held.overlay) held.output)
    by More e = rw (by_found last held bytes e) refl
    by (Refused refusal) e = rw (by_found last held bytes e) refl
