-- What a line leaves and answers, by what its rule comes to. Assumes nothing.
use Prim.Native.Nat.{ℕ, ◌≤◌}
use mathlib.Core.Path.{◌≡◌, refl, sym, ap, subst, ◌∙◌}
use mathlib.Core.Bool.{Bool, true, false, cond}
use mathlib.Core.List.{List}
use mathlib.Core.Logic.{◌⊎◌, inl, inr}
use native.Mathlib.Omega.{arith}
use lib.ListN.{length, get_or}
use Rattle.rules.specs.Rule.{Outcome, ok, run}
use Rattle.rules.specs.Faults.{Numbered}
use Rattle.rules.specs.Checked.{verdict}
use Rattle.line_setup.specs.Controls.{switch, depth_of, controls_of}
use Rattle.line_setup.specs.Faults.{line_faults}
use Rattle.line_setup.specs.declared.setup.Lengths.{Lengths}
use Rattle.line_setup.specs.declared.setup.Setup.{Setup}
use Rattle.line_setup.proofs.Fitted.{fitted}
use Rattle.line.specs.Cells.{Lent, view}
use Rattle.line.specs.Line.{line_rule, line_of}
use Rattle.line.specs.Drawn.{setup_of, without_colours, output_after, drawn}
use Rattle.line.specs.Inner.{InRange, Enough}
use Rattle.line.specs.declared.request.Request.{Request}

-- either depth, by the switch
either_depth : (on : Bool) → (◌≡◌ {A = ℕ} (cond on 32 16) 16) ⊎ (◌≡◌ {A = ℕ} (cond on 32 16) 32)
either_depth true = inr refl
either_depth false = inl refl

-- width and depth of control words have their ranges
controls_sized : (control : List ℕ) → InRange (controls_of control)
unfolding controls_of depth_of
controls_sized control = record {
  width_le = omega arith;
  at_depth = either_depth (switch (get_or control 0 0) 4);
}

module _ (request : Request) (lent : Lent) (output : List ℕ) (setup : Setup) (is : setup ≡ setup_of request lent (length output)) where
  -- its lengths of store and table are those that are lent
  pub lengths_lent : (length lent.store ≡ setup.lengths.store) × (length lent.table ≡ setup.lengths.table)
  unfolding setup_of
  lengths_lent = rw is (refl, refl)

  -- its width and depth have their ranges
  pub setup_sized : InRange setup.controls
  unfolding setup_of
  setup_sized = rw is (controls_sized request.state.control)

  -- where nothing refuses the line at once, what is lent is enough
  pub enough_lent : verdict (line_faults setup) ≡ ok tt → Enough setup.controls lent output
  unfolding setup_of
  enough_lent fit =
      let right = fitted setup fit in
      let lengths : setup.lengths ≡ (setup_of request lent (length output)).lengths = ap (λ (by : Setup). by.lengths) is in
      record {
        store_long = sym (ap (λ (long : Lengths). long.store) lengths) ∙ right.store_right;
        normal_long = sym (ap (λ (long : Lengths). long.normal) lengths) ∙ right.normal_right;
        overlay_long = λ on. sym (ap (λ (long : Lengths). long.overlay) lengths) ∙ right.overlay_right on;
        output_long = subst (λ (long : ℕ). setup.controls.width ≤ long) (ap (λ (long : Lengths). long.output) lengths) right.output_right;
      }

  -- what the rule comes to is all of it
  pub drawn_by : {line : Outcome Numbered (List ℕ)} → run (view lent) (line_rule setup) ≡ line
      → ((request.state, output_after setup.controls.width output line), without_colours line) ≡ drawn request lent output
  unfolding drawn line_of
  drawn_by e =
      ap (λ (line : Outcome Numbered (List ℕ)). ((request.state, output_after setup.controls.width output line), without_colours line)) (sym e)
      ∙ ap (λ (by : Setup). ((request.state, output_after by.controls.width output (run (view lent) (line_rule by))), without_colours (run (view lent) (line_rule by)))) is
