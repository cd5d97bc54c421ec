-- How long the normal row is under an entry that is defined at the depth. Assumes nothing.
use Prim.Native.Nat.{ℕ, ◌*◌, ◌/◌, ◌≤◌}
use mathlib.Core.Logic.{⊎_elim}
use mathlib.Core.List.{List}
use native.Mathlib.Nat.{le_trans, mul-le-mul_right}
use native.Mathlib.Omega.{arith}
use lib.ListN.{length}
use Rattle.line_colour.specs.declared.entry.WindowEntry.{WindowEntry}
use Rattle.line_colour.proofs.Defined.{Says, defined_says}
use Rattle.line_pixels.specs.Colour.{SaidAt}
use Rattle.line_pixels.specs.Inner.{RowLent, PlainLent}

-- what some window entry says at a depth fits the depth
pub said_says : (depth : ℕ) (entry : WindowEntry) → SaidAt depth entry → Says depth entry
said_says depth entry said = defined_says said.0 depth said.1

-- the normal row has no fewer bytes than pixels
pub pixels_le : {depth end : ℕ} {entry : WindowEntry} {store normal : List ℕ} → PlainLent depth entry store normal end → end ≤ length normal
pixels_le {depth} {end} {entry} {store} {normal} lent =
    ⊎_elim
    (λ is. let h : end * 2 ≤ length normal = rw is at lent.normal_long in omega arith)
    (λ is. let h : end * 4 ≤ length normal = rw is at lent.normal_long in omega arith)
    (said_says depth entry lent.said).at_depth

-- a row that has the pixels of a run has those before each of them
pub row_before : (depth : ℕ) (entry : WindowEntry) (normal : List ℕ) {end : ℕ} → RowLent depth entry normal end → {before : ℕ} → before ≤ end
    → before * (depth / 8) ≤ length normal
row_before depth entry normal lent le = le_trans (mul-le-mul_right (depth / 8) le) lent.1
