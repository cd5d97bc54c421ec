-- What control words say of a line in plain numbers: which bit is which switch, and which half of a word is x or y. Assumes nothing.
use Prim.Native.Nat.{ℕ, ◌+◌, ◌/◌, ◌%◌}
use mathlib.Core.Path.{◌≡◌, refl}
use mathlib.Core.Bool.{cond}
use mathlib.Core.List.{List}
use native.Mathlib.Omega.{arith}
use lib.Dec.{eqb}
use lib.ListN.{get_or}
use Rattle.words.specs.Field.{field}
use Rattle.line_setup.specs.Controls.{switch, depth_of, controls_of}

module _ (control : List ℕ) where
  -- bits 0 to 4 of word 0: overlay, window IDs, cursor, cross-hair, and depth 32
  pub switch_bits : let word = get_or control 0 0 in
      ((controls_of control).overlay ≡ eqb (word % 2) 1)
      × ((controls_of control).ids ≡ eqb (word / 2 % 2) 1)
      × ((controls_of control).cursor ≡ eqb (word / 4 % 2) 1)
      × ((controls_of control).crosshair ≡ eqb (word / 8 % 2) 1)
      × ((controls_of control).depth ≡ cond (eqb (word / 16 % 2) 1) 32 16)
  unfolding controls_of switch depth_of
  switch_bits = let lowest : field (get_or control 0 0) 0 0 ≡ get_or control 0 0 % 2 = omega arith in (rw lowest, refl, refl, refl, refl)

  -- word 1 has the totals, word 6 the origin, word 7 the active size, word 8 the cursor: across in the low half, down in the high one
  pub halves :
      ((controls_of control).columns ≡ get_or control 1 0 % 4096 + 1)
      × ((controls_of control).lines ≡ get_or control 1 0 / 65536 % 4096 + 1)
      × ((controls_of control).left ≡ get_or control 6 0 % 4096)
      × ((controls_of control).top ≡ get_or control 6 0 / 65536 % 4096)
      × ((controls_of control).width ≡ get_or control 7 0 % 2048 + 1)
      × ((controls_of control).height ≡ get_or control 7 0 / 65536 % 2048 + 1)
      × ((controls_of control).cx ≡ get_or control 8 0 % 4096)
      × ((controls_of control).cy ≡ get_or control 8 0 / 65536 % 4096)
  unfolding controls_of
  halves = (omega arith, refl, omega arith, refl, omega arith, refl, omega arith, refl)
