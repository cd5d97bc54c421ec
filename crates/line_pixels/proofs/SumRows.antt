-- Tables of sums, row by row. Assumes nothing.
use Prim.Native.Nat.{ℕ, ◌+◌, ◌-◌, ◌*◌, ◌/◌, ◌%◌, ◌≤◌, ◌<◌}
use mathlib.Core.Path.{◌≡◌, ap, ◌∙◌}
use mathlib.Core.List.{List, append_assoc, append-nil}
use native.Mathlib.Nat.{zero-add, add-mul, one-mul, mul-le-mul_right}
use native.Mathlib.Omega.{arith}
use borrow.Rule.Slice.PartMut.{put_mid}
use lib.Arith.{digits_div, digits_mod}
use lib.ListN.{length, get_or, take, drop, drop_of_length-le, length-take}
use lib.Seq.{take_at, drop_at, drop-drop}
use Rattle.rules.specs.Lists.{values, filled}
use Rattle.rules.proofs.Lists.{length_values, values_add}
use Rattle.rules.proofs.Fill.{filled_same, filled_from, filled_length}

module _ {A : Type 0} (f : ℕ → A) where
  -- a part that is filled from its first element on is its values
  part_values : (x n : ℕ) (room last : List A) → last ≡ filled f x (take n room) n → last ≡ values f n x
  part_values x n room last is =
      let short : length (take n room) ≤ n = omega (arith, length-take n room) in
      is ∙ rw (drop_of_length-le (take n room) short) (append-nil (values f n x))

  -- a part that was lent and is filled on makes a list filled to x one filled to its end
  part_run : (x n : ℕ) (before now last : List A) → now ≡ filled f 0 before x → last ≡ filled f x (take n (drop x now)) n
      → put_mid x n now last ≡ filled f 0 before (x + n)
  part_run x n before now last list made =
      rw (part_values x n (drop x now) last made, list, take_at (values f x 0) (drop x before) x (length_values f x 0), drop_at (values f x 0) (drop x before) x (length_values f x 0), drop-drop, values_add f x n 0, zero-add, append_assoc)

module _ (across down : List ℕ) where
  -- how many columns there are
  abbrev columns : ℕ
  columns = length across

  -- how many rows there are
  abbrev rows : ℕ
  rows = length down

  -- sum k: a row for each of the second table, in it a column for each of the first
  abbrev sum_of : ℕ → ℕ
  sum_of k = get_or across (k % columns) 0 + get_or down (k / columns) 0

  -- `now` is what a loop has made of `before` once the rows before this one are made
  pub record Summing (before now : List ℕ) (row : ℕ) : Type 0 where
    pub in_range : row ≤ rows
    pub fits : rows * columns ≤ length before
    pub long : length now ≡ length before
    pub list : now ≡ filled sum_of 0 before (row * columns)

  -- one row on, made by a callee that was lent its part of the table
  pub summing_next : {before now : List ℕ} {row : ℕ} (last : List ℕ) → Summing before now row → row < rows
      → last ≡ filled (λ k. get_or across k 0 + get_or down row 0) 0 (take (row * columns + columns - row * columns) (drop (row * columns) now)) columns
      → Summing before (put_mid (row * columns) (row * columns + columns - row * columns) now last) (row + 1)
  summing_next {before} {now} {row} last summing more made =
      let x = row * columns in
      let count : x + columns - x ≡ columns = omega arith in
      let next : (row + 1) * columns ≡ x + columns = rw (add-mul row 1 columns, one-mul columns) in
      let below : (row + 1) * columns ≤ rows * columns = mul-le-mul_right columns (omega arith) in
      let rest = take columns (drop x now) in
      let row_made : last ≡ filled (λ k. get_or across k 0 + get_or down row 0) 0 rest columns = rw count at made in
      let here : last ≡ filled sum_of x rest columns =
      row_made
      ∙ (filled_same (λ k. get_or across k 0 + get_or down row 0) (λ k. sum_of (x + k)) 0 rest columns (λ k low high. let below : k < columns = omega arith in rw (digits_mod row below, digits_div row below))
      ∙ filled_from sum_of x rest columns) in
      let list : put_mid x (x + columns - x) now last ≡ filled sum_of 0 before (x + columns) =
      rw count (part_run sum_of x columns before now last summing.list here) in
      record {
        in_range = omega arith;
        fits = summing.fits;
        long = ap length list ∙ filled_length sum_of 0 before (x + columns) (omega (arith, below, next, summing.fits));
        list = rw next list;
      }
