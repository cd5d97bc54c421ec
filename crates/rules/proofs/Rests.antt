-- What a rule rests on: two memories that agree on the cells that it reads have one outcome, and the same cells are read. Assumes nothing.
use Prim.Native.Nat.{ℕ}
use mathlib.Core.Path.{◌≡◌, refl, ap, ◌∙◌}
use mathlib.Core.List.Memᴰ
use mathlib.Core.List.{List, ◌∷◌}
use Rattle.rules.specs.Rule.{Rule, done, stop, ask, run, reads, Agree}

-- memories that agree on some cells agree on all but the first of them
agree_later : {Q : Type 0} {memory other : Q → ℕ} {asked : Q} {cells : List Q} → Agree memory other (asked ∷ cells) → Agree memory other cells
agree_later agree = λ cell here. agree cell (Memᴰ.tail here)

module _ {R Q A : Type 0} (memory other : Q → ℕ) where
  -- demand 3, for any rule: memories that agree on what it reads have one outcome
  pub same_run : (rule : Rule R Q A) → Agree memory other (reads memory rule) → run memory rule ≡ run other rule
  same_run (done answer) agree = refl
  same_run (stop refusal) agree = refl
  same_run (ask cell next) agree =
      same_run (next (memory cell)) (agree_later agree)
      ∙ ap (λ (held : ℕ). run other (next held)) (agree cell (Memᴰ.head refl))

  -- and it reads the same cells of both
  pub same_reads : (rule : Rule R Q A) → Agree memory other (reads memory rule) → reads memory rule ≡ reads other rule
  same_reads (done answer) agree = refl
  same_reads (stop refusal) agree = refl
  same_reads (ask cell next) agree =
      ap (λ (cells : List Q). cell ∷ cells)
      (same_reads (next (memory cell)) (agree_later agree)
      ∙ ap (λ (held : ℕ). reads other (next held)) (agree cell (Memᴰ.head refl)))
