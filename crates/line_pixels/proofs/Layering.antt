-- One layer over another: a run that is filled, and then changed as far. Assumes nothing.
use Prim.Native.Nat.{ℕ}
use mathlib.Core.Path.{◌≡◌, ap, ◌∙◌}
use mathlib.Core.List.{List}
use native.Mathlib.Nat.{le_refl}
use lib.ListN.{length}
use Rattle.rules.specs.Rule.{Rule, value}
use Rattle.rules.proofs.Change.{changed_run}
use Rattle.rules.proofs.Fill.{filled_length}
use Rattle.line_pixels.specs.Cells.{PixelCell}
use Rattle.line_pixels.specs.Source.{view_of, Drawn, Laid}
use Rattle.line_pixels.specs.declared.source.Source.{Source}

module _ (source : Source) (under both : ℕ → Rule ⊥ PixelCell ℕ) (over : ℕ → ℕ → Rule ⊥ PixelCell ℕ) where
  -- what is laid over a drawn run gives what each pixel shows of both
  pub laid_over : (x : ℕ) (before : List ℕ) {drawn after : List ℕ} → Drawn source under x before drawn → Laid source over x drawn after
      → ((p : ℕ) → value (view_of source) (over p (value (view_of source) (under p))) ≡ value (view_of source) (both p)) → Drawn source both x before after
  laid_over x before {drawn} {after} is laid same =
      let memory = view_of source in
      let long : length drawn ≡ length before = ap length is ∙ filled_length _ x before (length before) (le_refl (length before)) in
      changed_run (λ p word. value memory (over p word)) (λ p. value memory (under p)) (λ p. value memory (both p)) x before drawn after (length before) is (rw long at laid) same
