-- The search for an end from some entry on: what its outcome tells and reads, and a loop that makes it. Assumes nothing.
use Prim.Native.Nat.{ℕ, suc, ◌+◌, ◌-◌, ◌≤◌, ◌<◌}
use mathlib.Core.Path.{◌≡◌, refl, ap}
use mathlib.Core.Logic.{⊎_elim}
use native.Mathlib.Omega.{arith}
use borrow.Author.Tests.{leb-true, leb-false}
use lib.Dec.{leb}
use Rattle.rules.specs.Rule.{Outcome, ok, refused, run, reads}
use Rattle.rules.specs.Lists.{values}
use Rattle.rules.proofs.Cases.{le_or_lt}
use Rattle.rules.proofs.First.{found_from, missing_from}
use Rattle.line_windows.specs.Search.{serving_from}

module _ {Q : Type 0} (memory : Q → ℕ) (end : ℕ → Q) where
  -- each entry from `first` on and before `last` ends below `position`
  pub record Short (first last position : ℕ) : Type 0 where
    pub each : (i : ℕ) → first ≤ i → i < last → memory (end i) < position

  -- of `count` entries `entry` is the first, from `from` on, whose end is at least `position`
  pub record Reached (count from position entry : ℕ) : Type 0 where
    pub after : from ≤ entry
    pub below : entry < count
    pub reaches : position ≤ memory (end entry)
    pub short : Short from entry position

  -- a loop that searches from entry `from` on is at entry `at`: it passed all before
  pub record Searching (from position at : ℕ) : Type 0 where
    pub after : from ≤ at
    pub short : Short from at position

-- ---- ends below a position

module _ {Q : Type 0} {memory : Q → ℕ} {end : ℕ → Q} where
  -- where each entry of a stretch and the one behind it end below a position, so does each of the longer stretch
  short_more : {first last position : ℕ} → Short memory end first last position → memory (end last) < position
      → Short memory end first (last + 1) position
  short_more {first} {last} before under =
      record {
        each = λ i low high.
            ⊎_elim (λ above. let same : last ≡ i = omega arith in rw same at under) (λ earlier. before.each i low earlier) (le_or_lt last i);
      }

-- ---- the entry that serves

module _ {Q : Type 0} {memory : Q → ℕ} {end : ℕ → Q} {count from : ℕ} where
  -- the entry that serves a later position is no earlier entry
  reached_monotone : {p q k l : ℕ} → Reached memory end count from p k → Reached memory end count from q l → p ≤ q → k ≤ l
  reached_monotone {p} {q} {k} {l} first second le =
      ⊎_elim (λ fine. fine) (λ l<k. absurd (omega (arith, first.short.each l second.after l<k, second.reaches))) (le_or_lt k l)

-- ---- what the search answers

module _ {R Q : Type 0} (memory : Q → ℕ) (missing : R) (end : ℕ → Q) (count from position : ℕ) where
  -- the search answers the entry that serves the position
  pub found_tells : {entry : ℕ} → run memory (serving_from missing end count from position) ≡ ok entry → Reached memory end count from position entry
  unfolding serving_from
  found_tells e =
      let found = found_from missing end (leb position) memory (count - from) from e in
      record {
        after = found.after;
        below = omega (arith, found.after, found.below);
        reaches = leb-true _ _ found.passed;
        short = record { each = λ i low high. leb-false _ _ (found.failed i low high) };
      }

  -- where the search answers an entry, it has read the ends up to that of the entry
  pub found_reads : {entry : ℕ} → run memory (serving_from missing end count from position) ≡ ok entry
      → reads memory (serving_from missing end count from position) ≡ values end (suc (entry - from)) from
  unfolding serving_from
  found_reads e = (found_from missing end (leb position) memory (count - from) from e).read

  -- the search refuses only by the refusal that it is given
  pub missing_named : {refusal : R} → run memory (serving_from missing end count from position) ≡ refused refusal → refusal ≡ missing
  unfolding serving_from
  missing_named e = (missing_from missing end (leb position) memory (count - from) from e).named

  -- the search refuses only where no entry serves the position
  pub missing_tells : {refusal : R} → run memory (serving_from missing end count from position) ≡ refused refusal → Short memory end from count position
  unfolding serving_from
  missing_tells e =
      let none = missing_from missing end (leb position) memory (count - from) from e in
      record { each = λ i low high. leb-false _ _ (none.failed i low (omega arith)) }

  -- where the search refuses, it has read every end
  pub missing_reads : {refusal : R} → run memory (serving_from missing end count from position) ≡ refused refusal
      → reads memory (serving_from missing end count from position) ≡ values end (count - from) from
  unfolding serving_from
  missing_reads e = (missing_from missing end (leb position) memory (count - from) from e).read

  -- where an entry serves the position, the search answers that entry
  pub finds : {entry : ℕ} → Reached memory end count from position entry → run memory (serving_from missing end count from position) ≡ ok entry
  finds {entry} here = by (run memory (serving_from missing end count from position)) refl
    where
      -- it answers no other entry, for two that serve are one, and it does not refuse, for one serves
      by : (outcome : Outcome R ℕ) → run memory (serving_from missing end count from position) ≡ outcome → outcome ≡ ok entry
      by (ok other) e =
          ap ok (let there = found_tells e in omega (arith, reached_monotone there here (omega arith), reached_monotone here there (omega arith)))
      by (refused refusal) e =
          absurd (omega (arith, (missing_tells e).each entry here.after here.below, here.reaches))

  -- where no entry serves the position, the search refuses
  pub misses : Short memory end from count position → run memory (serving_from missing end count from position) ≡ refused missing
  misses none = by (run memory (serving_from missing end count from position)) refl
    where
      -- it answers no entry, for none serves, and it refuses by no other refusal
      by : (outcome : Outcome R ℕ) → run memory (serving_from missing end count from position) ≡ outcome → outcome ≡ refused missing
      by (ok entry) e =
          let here = found_tells e in absurd (omega (arith, none.each entry here.after here.below, here.reaches))
      by (refused refusal) e = ap refused (missing_named e)

-- ---- a loop that makes the search

module _ {Q : Type 0} {memory : Q → ℕ} {end : ℕ → Q} where
  -- a loop that starts at entry `from` has passed none
  pub search_start : (from position : ℕ) → Searching memory end from position from
  search_start from position = record { after = omega arith; short = record { each = λ i low high. absurd (omega arith) } }

  module _ {from position at : ℕ} (here : Searching memory end from position at) where
    -- where the entry at which a loop is ends below the position, the loop goes one on
    pub search_next : memory (end at) < position → Searching memory end from position (at + 1)
    search_next under = record { after = omega (arith, here.after); short = short_more here.short under }

    module _ {R : Type 0} (missing : R) (count : ℕ) where
      -- where that entry ends at the position or later, the search answers it
      pub search_found : at < count → position ≤ memory (end at) → run memory (serving_from missing end count from position) ≡ ok at
      search_found more reaches =
          finds memory missing end count from position (record { after = here.after; below = more; reaches = reaches; short = here.short })

      -- where the loop is past the last entry, the search refuses
      pub search_over : count ≤ at → run memory (serving_from missing end count from position) ≡ refused missing
      search_over all = misses memory missing end count from position (record { each = λ i low high. here.short.each i low (omega arith) })
