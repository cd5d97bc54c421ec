-- A fact of every tag, tag by tag. Assumes nothing.
use Prim.Native.Nat.{ℕ, zero, suc, ◌<◌}
use native.Mathlib.Omega.{arith}

module _ (Fact : ℕ → Type 0) (of_0 : Fact 0) (of_1 : Fact 1) (of_2 : Fact 2) (of_3 : Fact 3) (of_4 : Fact 4) (of_5 : Fact 5) (of_6 : Fact 6) where
  -- what holds of the tags 0 to 6 holds of each
  pub each_tag : (tag : ℕ) → tag < 7 → Fact tag
  each_tag zero h = of_0
  each_tag (suc zero) h = of_1
  each_tag (suc (suc zero)) h = of_2
  each_tag (suc (suc (suc zero))) h = of_3
  each_tag (suc (suc (suc (suc zero)))) h = of_4
  each_tag (suc (suc (suc (suc (suc zero))))) h = of_5
  each_tag (suc (suc (suc (suc (suc (suc zero)))))) h = of_6
  each_tag (suc (suc (suc (suc (suc (suc (suc tag))))))) h = absurd (omega arith)
