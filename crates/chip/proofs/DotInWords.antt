-- A dot that was made, by the control words and the position before it: what it reports, what it puts into the store, and where the beam then is. Assumes nothing.
use Prim.Native.Nat.{ℕ, ◌+◌, ◌/◌, ◌%◌, ◌<◌}
use mathlib.Core.Path.{◌≡◌, refl, sym, ap, ◌∙◌}
use mathlib.Core.Bool.{Bool, true, false, ◌||◌}
use native.Mathlib.Omega.{arith}
use lib.ListN.{length, get_or, set}
use borrow.Author.Tests.{lt-ltb}
use Rattle.std.specs.Prelude.{Some}
use Rattle.rules.specs.Rule.{ok}
use Rattle.rules.proofs.Faults.{none_holds, accepted_clear}
use Rattle.words.specs.Field.{field}
use Rattle.chip_timing.specs.Window.{in_window}
use Rattle.chip_timing.specs.Signals.{signals_at, window_holds}
use Rattle.chip_timing.specs.Move.{next_position}
use Rattle.chip_timing.specs.declared.Signals.{Signals}
use Rattle.chip_timing.proofs.Round.{syncs}
use Rattle.chip_queue.specs.Queue.{oldest}
use Rattle.chip.specs.State.{windows_of}
use Rattle.chip.specs.Call.{Chip, call_faults}
use Rattle.chip.specs.Dot.{signals_of, drains, after_dot, dotted}

-- whether a window of a state holds p: on in bits 11..0 of its control word, off in 27..16
abbrev pub holds_in : Chip → ℕ → ℕ → Bool
holds_in chip word p = in_window (get_or chip.0.control word 0 % 4096) (get_or chip.0.control word 0 / 65536 % 4096) p

module _ (chip : Chip) {signals : Signals} (made : (dotted chip).1 ≡ ok (Some signals)) where
  -- a dot that was made is what its definition does
  does : dotted chip ≡ (after_dot chip, ok (Some (signals_of chip.0)))
  unfolding dotted
  does =
      none_holds chip (after_dot chip, Some (signals_of chip.0)) (call_faults chip.0 (length chip.1))
      (accepted_clear chip (after_dot chip, Some (signals_of chip.0)) (call_faults chip.0 (length chip.1)) (Some signals) made)

  -- it reports the signals of the position
  reports : signals ≡ signals_of chip.0
  reports = let same : ok (Some signals) ≡ ok (Some (signals_of chip.0)) = sym made ∙ ap (λ all. all.1) does in cc

  -- horizontal sync by control word 2 and x, vertical sync by control word 3 and y, both of the state before the dot
  pub reported_syncs : (signals.hsync ≡ holds_in chip 2 chip.0.at.x) × (signals.vsync ≡ holds_in chip 3 chip.0.at.y)
  reported_syncs =
      let by = syncs (windows_of chip.0) chip.0.at in
      (ap (λ (s : Signals). s.hsync) reports ∙ by.0, ap (λ (s : Signals). s.vsync) reports ∙ by.1)

  -- blank by control word 4 and x or by control word 5 and y, both of the state before the dot
  pub reported_blank : signals.blank ≡ (holds_in chip 4 chip.0.at.x || holds_in chip 5 chip.0.at.y)
  unfolding signals_at window_holds
  reported_blank =
      let low : field (get_or chip.0.control 4 0) 11 0 ≡ get_or chip.0.control 4 0 % 4096 = omega arith in
      let low' : field (get_or chip.0.control 5 0) 11 0 ≡ get_or chip.0.control 5 0 % 4096 = omega arith in
      ap (λ (s : Signals). s.blank) reports ∙ rw (low, low') refl

  -- a dot that reports no blank leaves the store and what waits
  pub unblanked_leaves : signals.blank ≡ false → ((dotted chip).0.1 ≡ chip.1) × ((dotted chip).0.0.queue ≡ chip.0.queue)
  unfolding drains after_dot
  unblanked_leaves none =
      let clear : (signals_of chip.0).blank ≡ false = sym (ap (λ (s : Signals). s.blank) reports) ∙ none in
      (ap (λ all. all.0.1) does ∙ rw clear refl, ap (λ all. all.0.0.queue) does ∙ rw clear refl)

  -- one that reports blank while something waits puts the oldest write's value into word 32 of the store and its entry on, and nothing else
  pub blanked_puts : signals.blank ≡ true → 0 < chip.0.queue.waiting
      → (dotted chip).0.1 ≡ set chip.1 (32 + (oldest chip.0.queue).word) (oldest chip.0.queue).value
  unfolding drains after_dot
  blanked_puts blank some =
      let there : (signals_of chip.0).blank ≡ true = sym (ap (λ (s : Signals). s.blank) reports) ∙ blank in
      ap (λ all. all.0.1) does ∙ rw (there, lt-ltb 0 chip.0.queue.waiting some) refl

  -- the beam moves on by the totals of control word 1
  pub beam_moves : (dotted chip).0.0.at ≡ next_position chip.0.at (get_or chip.0.control 1 0)
  unfolding drains after_dot
  beam_moves = ap (λ all. all.0.0.at) does ∙ by (drains chip.0) refl
    where
      -- whether or not a write was applied
      by : (applies : Bool) → drains chip.0 ≡ applies → (after_dot chip).0.at ≡ next_position chip.0.at (get_or chip.0.control 1 0)
      by true is = rw is refl
      by false is = rw is refl
