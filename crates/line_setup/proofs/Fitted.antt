-- What a line that is not refused before anything is read has. Assumes nothing.
use Prim.Native.Nat.{◌≤◌}
use mathlib.Core.Path.{◌≡◌, sym}
use mathlib.Core.Bool.{Bool, true, false, true≢false, ◌&&◌}
use borrow.Author.Tests.{eqb-true, ltb-false, not-false}
use Rattle.rules.specs.Rule.{ok}
use Rattle.rules.specs.Checked.{verdict}
use Rattle.rules.proofs.Checked.{clear_verdict}
use Rattle.chip_registers.specs.Store.{store_length}
use Rattle.line_setup.specs.Faults.{normal_length, overlay_wrong, length_faults, line_faults}
use Rattle.line_setup.specs.declared.setup.Setup.{Setup}

-- of two switches that are not both on, the second is off where the first is on
both : (first second : Bool) → first && second ≡ false → first ≡ true → second ≡ false
both true second e on = e
both false second e on = absurd (true≢false (sym on))

-- what a line that passes its first checks has
pub record Fitted (setup : Setup) : Type 0 where
  pub store_right : setup.lengths.store ≡ store_length
  pub normal_right : setup.lengths.normal ≡ normal_length setup.controls
  pub overlay_right : setup.controls.overlay ≡ true → setup.lengths.overlay ≡ setup.controls.width
  pub output_right : setup.controls.width ≤ setup.lengths.output

-- the lengths of a line that passes them
pub fitted : (setup : Setup) → verdict (line_faults setup) ≡ ok tt → Fitted setup
unfolding line_faults length_faults overlay_wrong
fitted setup passes =
    let clear = clear_verdict (line_faults setup) passes in
    let lengths = clear.1.1.1 in
    record {
      store_right = eqb-true _ _ (not-false _ lengths.0);
      normal_right = eqb-true _ _ (not-false _ lengths.1.1.0);
      overlay_right = λ on. eqb-true _ _ (not-false _ (both _ _ lengths.1.1.1.0 on));
      output_right = ltb-false _ _ lengths.1.1.1.1.0;
    }
