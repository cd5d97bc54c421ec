-- What a line is refused for before anything is read, in plain numbers: in which order, and exactly where none of it holds. Assumes nothing.
use Prim.Native.Nat.{◌+◌, ◌*◌, ◌≤◌, ◌<◌}
use mathlib.Core.Path.{◌≡◌, refl, ap}
use mathlib.Core.Bool.{Bool, true, false, not, ◌&&◌}
use mathlib.Core.List.{[], ◌∷◌}
use mathlib.Core.Logic.{◌⊎◌, inl, inr}
use native.Mathlib.Omega.{arith}
use borrow.Author.Tests.{eq-eqb, le-ltb, lt-leb, eqb-true, ltb-false, leb-false, not-false}
use lib.Dec.{ltb}
use Rattle.rules.proofs.Faults.{refusals_in, refusal_at}
use Rattle.rules.proofs.Cases.{neither, not_both}
use Rattle.rules.specs.Faults.{Clear}
use Rattle.line_setup.specs.Faults.{above_total, normal_length, table_too_long, overlay_wrong, length_faults, line_faults}
use Rattle.line_setup.specs.declared.setup.Setup.{Setup}

-- 11, 10 and 6 come first, then 5 at its places from the lowest up
pub line_order : (setup : Setup)
    → refusals_in (line_faults setup) ≡ refusal_at 11 0 ∷ refusal_at 10 0 ∷ refusal_at 6 setup.y ∷ refusal_at 5 1 ∷ refusal_at 5 2 ∷ refusal_at 5 3 ∷ refusal_at 5 4 ∷ refusal_at 5 5 ∷ []
unfolding line_faults length_faults
line_order setup = refl

-- a line that nothing stands against before it reads: at depth 16 or 32
pub record LineFits (setup : Setup) : Type 0 where
  pub good : setup.good ≡ true
  pub across : setup.controls.left + setup.controls.width ≤ setup.controls.columns
  pub down : setup.controls.top + setup.controls.height ≤ setup.controls.lines
  pub inside : setup.y < setup.controls.height
  pub store : setup.lengths.store ≡ 4963
  pub table : setup.controls.ids ≡ true → setup.lengths.table ≤ 65536
  pub normal : ((setup.controls.depth ≡ 16) × (setup.lengths.normal ≡ 2 * setup.controls.width)) ⊎ ((setup.controls.depth ≡ 32) × (setup.lengths.normal ≡ 4 * setup.controls.width))
  pub overlay : setup.controls.overlay ≡ true → setup.lengths.overlay ≡ setup.controls.width
  pub output : setup.controls.width ≤ setup.lengths.output

-- where a test holds of a switch that is on, the two don't hold together
off_or : (on test : Bool) → (on ≡ true → test ≡ false) → on && test ≡ false
off_or true test holds = holds refl
off_or false test holds = refl

-- the normal row has its length
normal_long : (setup : Setup) → LineFits setup → setup.lengths.normal ≡ normal_length setup.controls
normal_long setup fits = by fits.normal
  where
    -- by the depth
    by : ((setup.controls.depth ≡ 16) × (setup.lengths.normal ≡ 2 * setup.controls.width)) ⊎ ((setup.controls.depth ≡ 32) × (setup.lengths.normal ≡ 4 * setup.controls.width))
        → setup.lengths.normal ≡ normal_length setup.controls
    by (inl is) = rw is.0 (omega (arith, is.1))
    by (inr is) = rw is.0 (omega (arith, is.1))

-- such a line is not refused before it reads
pub fits_clear : (setup : Setup) → LineFits setup → Clear (line_faults setup)
unfolding line_faults length_faults above_total table_too_long overlay_wrong
fits_clear setup fits =
    let wide : ltb setup.controls.columns (setup.controls.left + setup.controls.width) ≡ false = le-ltb _ _ fits.across in
    let high : ltb setup.controls.lines (setup.controls.top + setup.controls.height) ≡ false = le-ltb _ _ fits.down in (
      ap not fits.good,
      (
        rw (wide, high),
        (
          lt-leb _ _ fits.inside,
          (
            ap not (eq-eqb _ _ fits.store),
            (
              off_or _ _ (λ on. le-ltb _ _ (fits.table on)),
              (
                ap not (eq-eqb _ _ (normal_long setup fits)),
                (
                  off_or _ _ (λ on. ap not (eq-eqb _ _ (fits.overlay on))),
                  (
                    le-ltb _ _ fits.output,
                    tt,
                  ),
                ),
              ),
            ),
          ),
        ),
      ),
    )

-- a line that is not refused before it reads, at depth 16 or 32, is such a line
pub clear_fits : (setup : Setup) → (setup.controls.depth ≡ 16) ⊎ (setup.controls.depth ≡ 32) → Clear (line_faults setup) → LineFits setup
unfolding line_faults length_faults above_total table_too_long overlay_wrong
clear_fits setup depth clear =
    let total = neither _ _ clear.1.0 in
    let lengths = clear.1.1.1 in
    let row : setup.lengths.normal ≡ normal_length setup.controls = eqb-true _ _ (not-false _ lengths.1.1.0) in
    record {
      good = not-false _ clear.0;
      across = ltb-false _ _ total.0;
      down = ltb-false _ _ total.1;
      inside = leb-false _ _ clear.1.1.0;
      store = eqb-true _ _ (not-false _ lengths.0);
      table = λ on. ltb-false _ _ (not_both _ _ lengths.1.0 on);
      normal = by depth row;
      overlay = λ on. eqb-true _ _ (not-false _ (not_both _ _ lengths.1.1.1.0 on));
      output = ltb-false _ _ lengths.1.1.1.1.0;
    }
  where
    -- by the depth
    by : (setup.controls.depth ≡ 16) ⊎ (setup.controls.depth ≡ 32) → setup.lengths.normal ≡ normal_length setup.controls
        → ((setup.controls.depth ≡ 16) × (setup.lengths.normal ≡ 2 * setup.controls.width)) ⊎ ((setup.controls.depth ≡ 32) × (setup.lengths.normal ≡ 4 * setup.controls.width))
    by (inl is) row = inl (is, let long = rw is at row in omega (arith, long))
    by (inr is) row = inr (is, let long = rw is at row in omega (arith, long))
