-- A queue as a list: writes join at its end, and each blanked dot takes from its front. Assumes nothing.
use Prim.Native.Nat.{ℕ, zero, suc, ◌-◌, ◌≤◌, ◌<◌}
use mathlib.Core.Path.{◌≡◌, refl, ap, sym, ◌∙◌}
use mathlib.Core.List.{List, [], ◌∷◌, ◌++◌, append_assoc, append-nil}
use native.Mathlib.Nat.{sub-zero, suc-sub-suc}
use native.Mathlib.Numerals.{add-one}
use native.Mathlib.Omega.{arith}
use lib.ListN.{length, get_or, length-append, get_or-append}
use Rattle.rules.specs.Lists.{joined}
use Rattle.chip_queue.specs.declared.Waiting.{Waiting}
use Rattle.chip_history.specs.Ledger.{met}

-- from one queue to another: what each blanked dot took, and what joined on the way
pub data Acts : List Waiting → List (List Waiting) → List Waiting → List Waiting → Type 0 where
  -- nothing happens
  still : {queue : List Waiting} → Acts queue [] [] queue
  -- a write joins behind the others
  joins : {queue last : List Waiting} {dark : List (List Waiting)} {took : List Waiting} (write : Waiting)
      → Acts (queue ++ (write ∷ [])) dark took last → Acts queue dark (write ∷ took) last
  -- a blanked dot takes the oldest
  leaves : {queue last : List Waiting} {dark : List (List Waiting)} {took : List Waiting} (write : Waiting)
      → Acts queue dark took last → Acts (write ∷ queue) ((write ∷ []) ∷ dark) took last
  -- a blanked dot finds nothing
  finds_none : {last : List Waiting} {dark : List (List Waiting)} {took : List Waiting} → Acts [] dark took last → Acts [] ([] ∷ dark) took last

-- what two stretches of acts do one after the other is one stretch
pub acts_then : {first middle last : List Waiting} {dark dark' : List (List Waiting)} {took took' : List Waiting}
    → Acts first dark took middle → Acts middle dark' took' last → Acts first (dark ++ dark') (took ++ took') last
acts_then still b = b
acts_then (joins write a) b = joins write (acts_then a b)
acts_then (leaves write a) b = leaves write (acts_then a b)
acts_then (finds_none a) b = finds_none (acts_then a b)

-- what waited and then what joined is what the blanked dots took and then what waits
pub acts_ledger : {first last : List Waiting} {dark : List (List Waiting)} {took : List Waiting} → Acts first dark took last → first ++ took ≡ joined dark ++ last
acts_ledger (still {queue = queue}) = append-nil queue
acts_ledger (joins {queue = queue} {took = took} write a) = sym (append_assoc queue (write ∷ []) took) ∙ acts_ledger a
acts_ledger (leaves write a) = ap (λ (rest : List Waiting). write ∷ rest) (acts_ledger a)
acts_ledger (finds_none a) = acts_ledger a

-- a blanked dot takes one write where it finds something waiting
pub acts_met : {first last : List Waiting} {dark : List (List Waiting)} {took : List Waiting} → Acts first dark took last → length (joined dark) ≡ met dark
acts_met still = refl
acts_met (joins write a) = acts_met a
acts_met (leaves write a) = rw add-one (ap suc (acts_met a))
acts_met (finds_none a) = acts_met a

-- fewer blanked dots than stand before it leave a write waiting, so many places further on
pub acts_waits : {first last : List Waiting} {dark : List (List Waiting)} {took : List Waiting} → Acts first dark took last
    → (k : ℕ) (d : Waiting) → k < length first → length dark ≤ k → (get_or last (k - length dark) d ≡ get_or first k d) × (k - length dark < length last)
acts_waits still k d here few = rw sub-zero (refl, here)
acts_waits (joins {queue = queue} write a) k d here few =
    let e = acts_waits a k d (simp length-append (omega arith)) few in
    (e.0 ∙ get_or-append queue (write ∷ []) d k here, e.1)
acts_waits (leaves write a) zero d here few = absurd (omega arith)
acts_waits (leaves write a) (suc k) d here few = rw suc-sub-suc (acts_waits a k d (omega arith) (omega arith))
acts_waits (finds_none a) k d here few = absurd (omega arith)

-- the write at place k is what the blanked dot number k takes
pub acts_exact : {first last : List Waiting} {dark : List (List Waiting)} {took : List Waiting} → Acts first dark took last
    → (k : ℕ) (d : Waiting) → k < length first → k < length dark → get_or dark k [] ≡ get_or first k d ∷ []
acts_exact still k d here past = absurd (omega arith)
acts_exact (joins {queue = queue} write a) k d here past =
    acts_exact a k d (simp length-append (omega arith)) past
    ∙ ap (λ (other : Waiting). other ∷ []) (get_or-append queue (write ∷ []) d k here)
acts_exact (leaves write a) zero d here past = refl
acts_exact (leaves write a) (suc k) d here past = acts_exact a k d (omega arith) (omega arith)
acts_exact (finds_none a) k d here past = absurd (omega arith)
