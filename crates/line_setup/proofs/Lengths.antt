-- What comes of the tests before anything is read: 11, 10, 6, then 5 at the lowest place, or nothing. Assumes nothing.
use Prim.Native.Nat.{◌≤◌, ◌<◌}
use mathlib.Core.Path.{◌≡◌, refl}
use mathlib.Core.Bool.{true, false}
use borrow.Author.Tests.{eq-eqb, ne_eqb, lt-ltb, le-ltb, le-leb, lt-leb}
use Rattle.rules.specs.Rule.{ok, refused}
use Rattle.rules.specs.Checked.{verdict}
use Rattle.refusals.specs.Refusal.{numbered}
use Rattle.refusals.specs.declared.Refusal.TheVariants.{StoreLength, TableLength, NormalLength, OverlayLength, OutputLength, BelowActive, AboveTotal, BadState}
use Rattle.chip_registers.specs.Store.{store_length}
use Rattle.line_setup.specs.Faults.{above_total, normal_length, table_too_long, overlay_wrong, length_faults, line_faults}
use Rattle.line_setup.specs.declared.setup.Setup.{Setup}

module _ (setup : Setup) where
  -- the state is against its rule
  pub state_bad : setup.good ≡ false → refused (numbered BadState) ≡ verdict (line_faults setup)
  unfolding line_faults
  state_bad bad = rw bad refl

  module _ (good : setup.good ≡ true) where
    -- else the picture is too large
    pub above : above_total setup.controls ≡ true → refused (numbered AboveTotal) ≡ verdict (line_faults setup)
    unfolding line_faults
    above large = rw (good, large) refl

    module _ (fits : above_total setup.controls ≡ false) where
      -- else the line is below it
      pub below : setup.controls.height ≤ setup.y → refused (numbered (BelowActive setup.y)) ≡ verdict (line_faults setup)
      unfolding line_faults
      below low = rw (good, fits, le-leb setup.controls.height setup.y low) refl

      -- else the lengths decide
      pub by_lengths : setup.y < setup.controls.height → verdict (length_faults setup) ≡ verdict (line_faults setup)
      unfolding line_faults
      by_lengths high = rw (good, fits, lt-leb setup.controls.height setup.y high) refl

  -- the store has another length
  pub store_wrong : (setup.lengths.store ≡ store_length → ⊥) → refused (numbered StoreLength) ≡ verdict (length_faults setup)
  unfolding length_faults
  store_wrong ne = rw (ne_eqb setup.lengths.store store_length ne) refl

  module _ (store : setup.lengths.store ≡ store_length) where
    -- else the table is too long
    pub table_wrong : table_too_long setup ≡ true → refused (numbered TableLength) ≡ verdict (length_faults setup)
    unfolding length_faults
    table_wrong long = rw (eq-eqb setup.lengths.store store_length store, long) refl

    module _ (table : table_too_long setup ≡ false) where
      -- else the normal row has another length
      pub normal_wrong : (setup.lengths.normal ≡ normal_length setup.controls → ⊥) → refused (numbered NormalLength) ≡ verdict (length_faults setup)
      unfolding length_faults
      normal_wrong ne =
          rw (eq-eqb setup.lengths.store store_length store, table, ne_eqb setup.lengths.normal (normal_length setup.controls) ne) refl

      module _ (normal : setup.lengths.normal ≡ normal_length setup.controls) where
        -- else the overlay row has another length
        pub overlay_bad : overlay_wrong setup ≡ true → refused (numbered OverlayLength) ≡ verdict (length_faults setup)
        unfolding length_faults
        overlay_bad wrong =
            rw (eq-eqb setup.lengths.store store_length store, table, eq-eqb setup.lengths.normal (normal_length setup.controls) normal, wrong) refl

        module _ (overlay : overlay_wrong setup ≡ false) where
          -- else the output is too short
          pub output_short : setup.lengths.output < setup.controls.width → refused (numbered OutputLength) ≡ verdict (length_faults setup)
          unfolding length_faults
          output_short short =
              rw (eq-eqb setup.lengths.store store_length store, table, eq-eqb setup.lengths.normal (normal_length setup.controls) normal, overlay, lt-ltb setup.lengths.output setup.controls.width short) refl

          -- else nothing is wrong
          pub lengths_right : setup.controls.width ≤ setup.lengths.output → ok tt ≡ verdict (length_faults setup)
          unfolding length_faults
          lengths_right enough =
              rw (eq-eqb setup.lengths.store store_length store, table, eq-eqb setup.lengths.normal (normal_length setup.controls) normal, overlay, le-ltb setup.lengths.output setup.controls.width enough) refl
