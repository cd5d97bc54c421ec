-- A call is refused exactly by the first of its faults that holds, and a refused call leaves all as it was. Assumes nothing.
use Prim.Native.Nat.{ℕ}
use mathlib.Core.Path.{◌≡◌, refl, ap, sym, subst, ◌∙◌}
use mathlib.Core.Bool.{Bool, true, false, true≢false}
use mathlib.Core.List.{List, [], ◌∷◌, ◌++◌}
use Rattle.rules.specs.Rule.{Outcome, ok, refused}
use Rattle.rules.specs.Faults.{Numbered, Fault, Clear, First, unless}

-- the refusals of some faults, in their order
abbrev pub refusals_in : List Fault → List Numbered
refusals_in [] = []
refusals_in (fault ∷ faults) = fault.refusal ∷ refusals_in faults

-- a refusal by a number at a place
abbrev pub refusal_at : ℕ → ℕ → Numbered
refusal_at number place = record { number = number; values = place ∷ [] }

-- the refusal, where there is one
abbrev refusal_of : {Answer : Type 0} → Numbered → Outcome Numbered Answer → Numbered
refusal_of other (ok answer) = other
refusal_of other (refused refusal) = refusal

-- an answer is no refusal
abbrev answered : {Answer : Type 0} → Outcome Numbered Answer → Bool
answered (ok answer) = true
answered (refused refusal) = false

module _ {Memory Answer : Type 0} (before : Memory) (result : Memory × Answer) where
  -- what the first of some faults decides goes by its test
  by_test : (fault : Fault) (faults : List Fault) {test : Bool} → fault.holds ≡ test
      → unless (fault ∷ faults) before result ≡ unless (record { holds = test; refusal = fault.refusal } ∷ faults) before result
  by_test fault faults h = ap (λ test. unless (record { holds = test; refusal = fault.refusal } ∷ faults) before result) h

  -- faults that are clear decide nothing
  pub past_clear : (passed others : List Fault) → Clear passed → unless (passed ++ others) before result ≡ unless others before result
  past_clear [] others clear = refl
  past_clear (fault ∷ passed) others clear = by_test fault (passed ++ others) clear.0 ∙ past_clear passed others clear.1

  -- where none holds, the call does what it does
  pub none_holds : (faults : List Fault) → Clear faults → unless faults before result ≡ (result.0, ok result.1)
  none_holds [] clear = refl
  none_holds (fault ∷ faults) clear = by_test fault faults clear.0 ∙ none_holds faults clear.1

  -- the first that holds is the refusal, and all is left as it was
  pub first_holds : (faults : List Fault) (refusal : Numbered) → First faults refusal → unless faults before result ≡ (before, refused refusal)
  first_holds faults refusal f =
      ap (λ all. unless all before result) f.order
      ∙ past_clear f.passed (f.found ∷ f.later) f.clear
      ∙ by_test f.found f.later f.holds
      ∙ ap (λ (r : Numbered). (before, refused r)) f.is

  -- what the first of some faults makes of the answer goes by its test
  outcome_of : (fault : Fault) (faults : List Fault) {test : Bool} → fault.holds ≡ test
      → (unless (fault ∷ faults) before result).1 ≡ (unless (record { holds = test; refusal = fault.refusal } ∷ faults) before result).1
  outcome_of fault faults h = ap (λ (all : Memory × Outcome Numbered Answer). all.1) (by_test fault faults h)

  -- a refusal is that of the first that holds: there is no other reason
  pub refused_first : (faults : List Fault) (refusal : Numbered) → (unless faults before result).1 ≡ refused refusal → First faults refusal
  refused_first [] refusal e = absurd (true≢false (ap answered e))
  refused_first (fault ∷ faults) refusal e = by (refused_first faults refusal) fault.holds refl
    where
      -- the first fault holds, or a later one is the first that does
      by : ((unless faults before result).1 ≡ refused refusal → First faults refusal) → (test : Bool) → fault.holds ≡ test → First (fault ∷ faults) refusal
      by on true h =
          record { passed = []; found = fault; later = faults; order = refl; clear = tt; holds = h; is = ap (refusal_of refusal) (sym (outcome_of fault faults h) ∙ e) }
      by on false h =
          let f = on (sym (outcome_of fault faults h) ∙ e) in
          record {
            passed = fault ∷ f.passed;
            found = f.found;
            later = f.later;
            order = ap (λ (rest : List Fault). fault ∷ rest) f.order;
            clear = (h, f.clear);
            holds = f.holds;
            is = f.is;
          }

  -- an answer comes only where no fault holds
  pub accepted_clear : (faults : List Fault) (answer : Answer) → (unless faults before result).1 ≡ ok answer → Clear faults
  accepted_clear [] answer e = tt
  accepted_clear (fault ∷ faults) answer e = by (accepted_clear faults answer) fault.holds refl
    where
      -- the first fault is clear, as no answer would come otherwise, and so are the later ones
      by : ((unless faults before result).1 ≡ ok answer → Clear faults) → (test : Bool) → fault.holds ≡ test → Clear (fault ∷ faults)
      by on true h = absurd (true≢false (sym (ap answered (sym (outcome_of fault faults h) ∙ e))))
      by on false h = (h, on (sym (outcome_of fault faults h) ∙ e))

  -- a refused call leaves all as it was
  pub refused_leaves : (faults : List Fault) (refusal : Numbered) → (unless faults before result).1 ≡ refused refusal → (unless faults before result).0 ≡ before
  refused_leaves faults refusal e = ap (λ (all : Memory × Outcome Numbered Answer). all.0) (first_holds faults refusal (refused_first faults refusal e))

-- ---- what the refusals of some faults have in common

module _ (Is : Numbered → Type 0) where
  -- of each of some faults, where it holds its refusal is such
  abbrev pub EachHolding : List Fault → Type 0
  EachHolding [] = Unit {0}
  EachHolding (fault ∷ faults) = (fault.holds ≡ true → Is fault.refusal) × EachHolding faults

  -- then the refusal of one that stands behind others is such, where it holds
  holding_at : (passed : List Fault) (found : Fault) (later : List Fault) → EachHolding (passed ++ (found ∷ later)) → found.holds ≡ true → Is found.refusal
  holding_at [] found later all holds = all.0 holds
  holding_at (fault ∷ passed) found later all holds = holding_at passed found later all.1 holds

  -- and so is the refusal of the first that holds
  pub first_holding : {faults : List Fault} {refusal : Numbered} → EachHolding faults → First faults refusal → Is refusal
  first_holding all first =
      subst Is first.is (holding_at first.passed first.found first.later (subst EachHolding first.order all) first.holds)
