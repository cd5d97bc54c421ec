-- The search for an end among all entries: what its outcome tells and reads, and from which entry it may go on. Assumes nothing.
use Prim.Native.Nat.{ℕ, suc, ◌+◌, ◌≤◌, ◌<◌}
use mathlib.Core.Path.{◌≡◌}
use mathlib.Core.Logic.{⊎_elim}
use native.Mathlib.Nat.{sub-zero}
use native.Mathlib.Omega.{arith}
use Rattle.rules.specs.Rule.{ok, refused, run, reads}
use Rattle.rules.specs.Lists.{values}
use Rattle.rules.proofs.Cases.{le_or_lt}
use Rattle.line_windows.specs.Search.{serving_from, serving_entry, NoneServes}
use Rattle.line_windows.proofs.Search.{Reached, Short, found_tells, found_reads, missing_named, missing_tells, missing_reads, finds, misses}

-- of `count` entries `entry` serves `position`: it is the first that ends there or later
pub record ReachedAt {Q : Type 0} (memory : Q → ℕ) (end : ℕ → Q) (count position entry : ℕ) : Type 0 where
  pub below : entry < count
  pub reaches : position ≤ memory (end entry)
  pub earlier : NoneServes memory end entry position

-- ---- what the search answers

module _ {R Q : Type 0} (memory : Q → ℕ) (missing : R) (end : ℕ → Q) (count position : ℕ) where
  module _ {entry : ℕ} (found : run memory (serving_entry missing end count position) ≡ ok entry) where
    -- the search answers the entry that serves the position
    pub whole_tells : ReachedAt memory end count position entry
    whole_tells =
        let here = found_tells memory missing end count 0 position found in
        record { below = here.below; reaches = here.reaches; earlier = record { short = λ i high. here.short.each i (omega arith) high } }

    -- where the search answers an entry, it has read the ends up to that of the entry
    pub whole_reads : reads memory (serving_entry missing end count position) ≡ values end (suc entry) 0
    whole_reads = rw sub-zero at (found_reads memory missing end count 0 position found)

  module _ {refusal : R} (none : run memory (serving_entry missing end count position) ≡ refused refusal) where
    -- the search refuses only by the refusal that it is given
    pub none_named : refusal ≡ missing
    none_named = missing_named memory missing end count 0 position none

    -- the search refuses only where no entry serves the position
    pub none_tells : NoneServes memory end count position
    none_tells = record { short = λ i high. (missing_tells memory missing end count 0 position none).each i (omega arith) high }

    -- where the search refuses, it has read every end
    pub none_reads : reads memory (serving_entry missing end count position) ≡ values end count 0
    none_reads = rw sub-zero at (missing_reads memory missing end count 0 position none)

  -- where an entry serves the position, the search answers that entry
  pub whole_finds : {entry : ℕ} → ReachedAt memory end count position entry → run memory (serving_entry missing end count position) ≡ ok entry
  whole_finds here =
      finds memory missing end count 0 position
      (record { after = omega arith; below = here.below; reaches = here.reaches; short = record { each = λ i low high. here.earlier.short i high } })

  -- where no entry serves the position, the search refuses
  pub whole_misses : NoneServes memory end count position → run memory (serving_entry missing end count position) ≡ refused missing
  whole_misses none = misses memory missing end count 0 position (record { each = λ i low high. none.short i high })

-- ---- the entry that serves

module _ {Q : Type 0} {memory : Q → ℕ} {end : ℕ → Q} {count : ℕ} where
  -- the entry that serves a later position is no earlier entry
  pub later_entry : {p q k l : ℕ} → ReachedAt memory end count p k → ReachedAt memory end count q l → p ≤ q → k ≤ l
  later_entry {p} {q} {k} {l} first second le =
      ⊎_elim (λ fine. fine) (λ l<k. absurd (omega (arith, first.earlier.short l l<k, second.reaches))) (le_or_lt k l)

  -- the entry that serves a position serves each later one up to its end
  pub same_entry : {p q k : ℕ} → ReachedAt memory end count p k → p ≤ q → q ≤ memory (end k) → ReachedAt memory end count q k
  same_entry here le up_to_lem =
      record { below = here.below; reaches = up_to_lem; earlier = record { short = λ i high. omega (arith, here.earlier.short i high) } }

  -- which entry serves rests on no end behind its own
  pub rests_on_earlier : {other : Q → ℕ} {p k : ℕ} → ReachedAt memory end count p k → ((i : ℕ) → i ≤ k → memory (end i) ≡ other (end i))
      → ReachedAt other end count p k
  rests_on_earlier {other} {p} {k} here same = record {
    below = here.below;
    reaches = omega (arith, here.reaches, same k (omega arith));
    earlier = record { short = λ i high. omega (arith, here.earlier.short i high, same i (omega arith)) };
  }

-- ---- from which entry it may go on

-- none of the entries before `from` serves the position, so that a search may start at `from`
module _ {Q : Type 0} {memory : Q → ℕ} {end : ℕ → Q} {from position : ℕ} (passed : NoneServes memory end from position) where
  -- where none from `from` on and before `last` serves it either, none before `last` does
  none_joined : {last : ℕ} → Short memory end from last position → NoneServes memory end last position
  none_joined behind =
      record { short = λ i high. ⊎_elim (λ above. behind.each i above high) (λ under. passed.short i under) (le_or_lt from i) }

  module _ {count entry : ℕ} (here : Reached memory end count from position entry) where
    -- the entry that the search from `from` on finds serves among all entries
    pub reached_whole : ReachedAt memory end count position entry
    reached_whole = record { below = here.below; reaches = here.reaches; earlier = none_joined here.short }

    -- past the end of that entry a search may start at the entry after it
    pub reached_passed : NoneServes memory end (entry + 1) (memory (end entry) + 1)
    reached_passed =
        record {
          short = λ i high.
              ⊎_elim (λ (above : entry ≤ i). let same : i ≡ entry = omega arith in rw same (omega arith))
              (λ (under : i < entry). omega (arith, reached_whole.earlier.short i under, here.reaches)) (le_or_lt entry i);
        }

  -- the search among all entries refuses as the one from `from` on
  pub missing_whole : {R : Type 0} (missing : R) (count : ℕ) {refusal : R} → run memory (serving_from missing end count from position) ≡ refused refusal
      → run memory (serving_entry missing end count position) ≡ refused refusal
  missing_whole missing count e =
      rw (missing_named memory missing end count from position e)
      (whole_misses memory missing end count position (none_joined (missing_tells memory missing end count from position e)))
