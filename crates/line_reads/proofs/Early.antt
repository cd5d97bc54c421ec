-- What a line is refused for before anything is read is none of 7, 8 and 9, and of it nothing is listed. Assumes nothing.
use Prim.Native.Nat.{◌<◌}
use mathlib.Core.Path.{◌≡◌}
use native.Mathlib.Omega.{arith}
use lib.Dec.{lit<}
use Rattle.rules.specs.Rule.{refused}
use Rattle.rules.specs.Faults.{Numbered}
use Rattle.rules.specs.Checked.{verdict}
use Rattle.rules.proofs.Faults.{first_holding}
use Rattle.rules.proofs.Checked.{first_verdict}
use Rattle.line_setup.specs.Faults.{length_faults, line_faults}
use Rattle.line_setup.specs.declared.setup.Setup.{Setup}
use Rattle.line.specs.Cells.{Cell, Lent}
use Rattle.line_reads.specs.Listed.{RefusedListed, of_7, of_8, of_9}

-- a refusal that lists nothing
pub record NothingListed (refusal : Numbered) : Type 0 where
  pub not_7 : refusal.number ≡ 7 → ⊥
  pub not_8 : refusal.number ≡ 8 → ⊥
  pub not_9 : refusal.number ≡ 9 → ⊥

-- a number below these
below_7 : {refusal : Numbered} → refusal.number < 7 → NothingListed refusal
below_7 low = record { not_7 = λ e. omega arith; not_8 = λ e. omega arith; not_9 = λ e. omega arith }

-- a number above them
above_9 : {refusal : Numbered} → 9 < refusal.number → NothingListed refusal
above_9 high = record { not_7 = λ e. omega arith; not_8 = λ e. omega arith; not_9 = λ e. omega arith }

-- the faults that come before anything is read are such: 11, 10, 6 and 5 at each place
pub early : (setup : Setup) {refusal : Numbered} → verdict (line_faults setup) ≡ refused refusal → NothingListed refusal
unfolding line_faults length_faults
early setup {refusal} e =
    first_holding NothingListed
    (λ h. above_9 (lit< tt), (λ h. above_9 (lit< tt), (λ h. below_7 (lit< tt), (λ h. below_7 (lit< tt), (λ h. below_7 (lit< tt), (λ h. below_7 (lit< tt), (λ h. below_7 (lit< tt), (λ h. below_7 (lit< tt), tt))))))))
    (first_verdict (line_faults setup) refusal e)

-- of such a refusal nothing is listed
pub nothing_listed : (setup : Setup) (lent : Lent) {refusal : Numbered} (cell : Cell) → NothingListed refusal → RefusedListed setup lent refusal cell → ⊥
nothing_listed setup lent cell none (of_7 is listed) = none.not_7 is
nothing_listed setup lent cell none (of_8 is listed) = none.not_8 is
nothing_listed setup lent cell none (of_9 is listed) = none.not_9 is
