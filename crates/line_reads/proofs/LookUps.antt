-- Which cells a look-up by an end reads, of frame entries and of line entries alike. Assumes nothing.
use Prim.Native.Nat.{ℕ, suc, ◌≤◌, ◌<◌}
use mathlib.Core.Path.{◌≡◌, refl, sym, subst}
use mathlib.Core.List.Memᴰ
use native.Mathlib.Omega.{arith}
use Rattle.rules.specs.Rule.{Rule, ok, refused, run, reads, get, ◌>>=◌}
use Rattle.rules.specs.Lists.{values}
use Rattle.rules.proofs.Cases.{impossible}
use Rattle.rules.proofs.Lists.{Among, value_among, among_values}
use Rattle.rules.proofs.Parts.{both, Either, at_first, at_second, either, Read, by_first, by_second, read_either, either_read}
use Rattle.line_windows.specs.Search.{serving_entry}
use Rattle.line_windows.proofs.Whole.{whole_reads, none_named, none_reads}

module _ {R Q : Type 0} (memory : Q → ℕ) (missing : R) (end cell_of : ℕ → Q) (count position : ℕ) where
  -- the entry whose end is the first of at least `position`
  abbrev searched : Rule R Q ℕ
  searched = serving_entry missing end count position

  -- the look-up: the search for that entry, and then one of its cells
  abbrev looked_up : Rule R Q ℕ
  looked_up = searched >>= (λ entry. get (cell_of entry))

  -- a look-up that answers reads the ends up to the entry found, and that entry's cell
  pub data LookedUpCell (cell : Q) : Type 0 where
    an_end : (entry : ℕ) → run memory searched ≡ ok entry → (number : ℕ) → number ≤ entry → cell ≡ end number → LookedUpCell cell
    its_cell : (entry : ℕ) → run memory searched ≡ ok entry → cell ≡ cell_of entry → LookedUpCell cell

  -- one that refuses reads all ends
  pub record AnyEnd (cell : Q) : Type 0 where
    pub number : ℕ
    pub below : number < count
    pub is : cell ≡ end number

  -- ---- a search

  module _ {entry : ℕ} (found : run memory searched ≡ ok entry) where
    -- a search that finds reads the ends up to the entry found
    read_list : reads memory searched ≡ values end (suc entry) 0
    read_list = whole_reads memory missing end count position found

    -- each cell that a search reads that finds is the end of an entry up to the one found
    found_read : {cell : Q} → Among cell (reads memory searched) → LookedUpCell cell
    found_read {cell} here =
        let at = value_among end (suc entry) 0 (subst (Among cell) read_list here) in
        an_end entry found at.position (omega (arith, at.high)) at.is

    -- the end of each entry up to the one found is read
    read_found : (number : ℕ) → number ≤ entry → Among (end number) (reads memory searched)
    read_found number up_to_lem = subst (Among (end number)) (sym read_list) (among_values end (suc entry) 0 number (omega arith) (omega arith))

  module _ {refusal : R} (none : run memory searched ≡ refused refusal) where
    -- a search that finds nothing reads every end
    read_all : reads memory searched ≡ values end count 0
    read_all = none_reads memory missing end count position none

    -- each cell that a search reads that finds nothing is the end of some entry
    missing_read : {cell : Q} → Among cell (reads memory searched) → AnyEnd cell
    missing_read {cell} here =
        let at = value_among end count 0 (subst (Among cell) read_all here) in
        record { number = at.position; below = omega (arith, at.high); is = at.is }

    -- the end of every entry is read by a search that finds nothing
    read_missing : (number : ℕ) → number < count → Among (end number) (reads memory searched)
    read_missing number below = subst (Among (end number)) (sym read_all) (among_values end count 0 number (omega arith) (omega arith))

  -- ---- a look-up

  -- each cell that a look-up reads that answers is such an end or the cell of the entry found
  pub look_up_read : {answer : ℕ} → run memory looked_up ≡ ok answer → {cell : Q} → Among cell (reads memory looked_up) → LookedUpCell cell
  look_up_read e {cell} here = by (both memory searched (λ entry. get (cell_of entry)) e).found (read_either memory searched _ here)
    where
      -- the search reads ends, and the look-up then the cell of the entry found
      by : {entry : ℕ} → run memory searched ≡ ok entry → Read memory searched (λ entry. get (cell_of entry)) cell → LookedUpCell cell
      by found (by_first there) = found_read found there
      by found (by_second entry found' there) = its_cell entry found' (Memᴰ.eq_of_singleton there)

  -- an end up to that of the entry found is read
  pub read_end : {entry : ℕ} → run memory searched ≡ ok entry → (number : ℕ) → number ≤ entry → Among (end number) (reads memory looked_up)
  read_end found number up_to_lem = either_read memory searched _ (by_first (read_found found number up_to_lem))

  -- the cell of the entry found is read
  pub read_cell : {entry : ℕ} → run memory searched ≡ ok entry → Among (cell_of entry) (reads memory looked_up)
  read_cell {entry} found = either_read memory searched _ (by_second entry found (Memᴰ.head refl))

  -- a look-up refuses where the search does
  pub not_found : {refusal : R} → run memory looked_up ≡ refused refusal → run memory searched ≡ refused refusal
  not_found {refusal} e = by (either memory searched _ e)
    where
      -- reading the cell of an entry that is found refuses nothing
      by : Either memory searched (λ entry. get (cell_of entry)) refusal → run memory searched ≡ refused refusal
      by (at_first none) = none
      by (at_second entry found none) = impossible (cc)

  -- it refuses only as it is told to
  pub refusal_named : {refusal : R} → run memory looked_up ≡ refused refusal → refusal ≡ missing
  refusal_named e = none_named memory missing end count position (not_found e)

  -- each cell that a look-up reads that refuses is the end of some entry
  pub refused_look_up_read : {refusal : R} → run memory looked_up ≡ refused refusal → {cell : Q} → Among cell (reads memory looked_up) → AnyEnd cell
  refused_look_up_read e {cell} here = by (not_found e) (read_either memory searched _ here)
    where
      -- the search reads all ends, and without an entry nothing is read behind it
      by : {refusal : R} → run memory searched ≡ refused refusal → Read memory searched (λ entry. get (cell_of entry)) cell → AnyEnd cell
      by none (by_first there) = missing_read none there
      by none (by_second entry found there) = impossible (cc)

  -- a look-up that refuses reads every end
  pub read_any_end : {refusal : R} → run memory looked_up ≡ refused refusal → (number : ℕ) → number < count → Among (end number) (reads memory looked_up)
  read_any_end e number below = either_read memory searched _ (by_first (read_missing (not_found e) number below))
