-- A run of dots is so many single dots. Assumes nothing.
use Prim.Native.Nat.{ℕ, zero, suc}
use mathlib.Core.Path.{◌≡◌, refl, ap, sym, ◌∙◌}
use lib.ListN.{length, replicate}
use Rattle.rules.specs.Rule.{Outcome, ok, refused}
use Rattle.rules.specs.Faults.{Numbered}
use Rattle.chip.specs.State.{HasArrays}
use Rattle.chip.specs.Call.{Chip}
use Rattle.chip.specs.Dot.{after_dot, dotted}
use Rattle.chip.specs.Dots.{after_dots, last_report, ran}
use Rattle.chip.proofs.Good.{dot_length, dot_whole, dot_good, dots_length, dots_good}
use Rattle.chip.proofs.CallCheck.{tested, GoesOn, allowed_says, says_allowed}
use Rattle.chip.proofs.Runs.{dot_unfit, dot_done, dots_unfit, dots_done}
use Rattle.chip_history.specs.Calls.{dot, dots, left_by, end}

-- what a dot leaves goes on where the dot did
pub dot_goes_on : (chip : Chip) → HasArrays chip.0 → GoesOn chip → GoesOn (after_dot chip)
dot_goes_on chip whole on =
    let said = allowed_says chip.0 (length chip.1) on in
    says_allowed (after_dot chip).0 (length (after_dot chip).1) (dot_good chip whole said.0) (dot_length chip ∙ said.1)

-- single dots that may go on leave what so many dots leave
dots_on : (count : ℕ) (chip : Chip) → HasArrays chip.0 → GoesOn chip → end chip (replicate count dot) ≡ after_dots count chip
unfolding left_by end after_dots
dots_on zero chip whole on = refl
dots_on (suc count) chip whole on =
    ap (λ (left : Chip). end left (replicate count dot)) (ap (λ all. all.0) (dot_done chip on))
    ∙ dots_on count (after_dot chip) (dot_whole chip whole) (dot_goes_on chip whole on)

-- single dots that are refused leave all as it was
dots_off : (count : ℕ) (chip : Chip) (refusal : Numbered) → tested chip ≡ refused refusal → end chip (replicate count dot) ≡ chip
unfolding left_by end
dots_off zero chip refusal off = refl
dots_off (suc count) chip refusal off = ap (λ (left : Chip). end left (replicate count dot)) (ap (λ all. all.0) (dot_unfit chip refusal off)) ∙ dots_off count chip refusal off

-- so many dots at once leave what so many single dots leave, refused or not
pub dots_as_dots : (chip : Chip) (count : ℕ) → HasArrays chip.0 → left_by chip (dots count) ≡ end chip (replicate count dot)
unfolding left_by
dots_as_dots chip count whole = by (tested chip) refl
  where
    -- by whether the dots may go on
    by : (test : Outcome Numbered (Unit {0})) → tested chip ≡ test → left_by chip (dots count) ≡ end chip (replicate count dot)
    by (ok _) on = ap (λ all. all.0) (dots_done chip count on) ∙ sym (dots_on count chip whole on)
    by (refused refusal) off = ap (λ all. all.0) (dots_unfit chip count refusal off) ∙ sym (dots_off count chip refusal off)

-- so many dots at once answer what the last of so many single dots answers, refused or not
pub dots_answer : (chip : Chip) (count : ℕ) → HasArrays chip.0 → (ran chip (suc count)).1 ≡ (dotted (end chip (replicate count dot))).1
unfolding last_report
dots_answer chip count whole = by (tested chip) refl
  where
    -- by whether the dots may go on
    by : (test : Outcome Numbered (Unit {0})) → tested chip ≡ test → (ran chip (suc count)).1 ≡ (dotted (end chip (replicate count dot))).1
    by (ok _) on =
        let said = allowed_says chip.0 (length chip.1) on in
        let there : GoesOn (after_dots count chip) = says_allowed (after_dots count chip).0 (length (after_dots count chip).1) (dots_good count chip whole said.0) (dots_length count chip ∙ said.1) in
        ap (λ all. all.1) (dots_done chip (suc count) on)
        ∙ sym (ap (λ (c : Chip). (dotted c).1) (dots_on count chip whole on) ∙ ap (λ all. all.1) (dot_done (after_dots count chip) there))
    by (refused refusal) off =
        ap (λ all. all.1) (dots_unfit chip (suc count) refusal off)
        ∙ sym (ap (λ (c : Chip). (dotted c).1) (dots_off count chip refusal off) ∙ ap (λ all. all.1) (dot_unfit chip refusal off))
