-- One fault more, behind all others: it counts only where none of them holds. Assumes nothing.
use mathlib.Core.Path.{◌≡◌, refl, ap, ◌∙◌}
use mathlib.Core.Bool.{Bool, true, false, cond}
use mathlib.Core.List.{List, [], ◌∷◌, ◌++◌}
use Rattle.rules.specs.Rule.{Outcome, ok, refused}
use Rattle.rules.specs.Faults.{Numbered, Fault, unless}

-- the first refusal of some faults, or else the last one
abbrev pub first_or : List Fault → Numbered → Numbered
first_or [] last = last
first_or (fault ∷ faults) last = cond fault.holds fault.refusal (first_or faults last)

module _ {Memory Answer : Type 0} (before : Memory) (result : Memory × Answer) where
  -- refused by one or by the other
  one_or_other : (test : Bool) (one other : Numbered)
      → ◌≡◌ {A = Memory × Outcome Numbered Answer} (cond test (before, refused one) (before, refused other)) (before, refused (cond test one other))
  one_or_other true one other = refl
  one_or_other false one other = refl

  -- a last fault that is clear doesn't count
  pub last_clear : (faults : List Fault) (last : Fault) → last.holds ≡ false → unless (faults ++ last ∷ []) before result ≡ unless faults before result
  last_clear [] last clear =
      ap (λ (test : Bool). cond test (before, refused last.refusal) (result.0, ok result.1)) clear
  last_clear (fault ∷ faults) last clear =
      ap (λ (rest : Memory × Outcome Numbered Answer). cond fault.holds (before, refused fault.refusal) rest) (last_clear faults last clear)

  -- one that holds refuses where no other did
  pub last_holds : (faults : List Fault) (last : Fault) → last.holds ≡ true
      → unless (faults ++ last ∷ []) before result ≡ (before, refused (first_or faults last.refusal))
  last_holds [] last holds =
      ap (λ (test : Bool). cond test (before, refused last.refusal) (result.0, ok result.1)) holds
  last_holds (fault ∷ faults) last holds =
      ap (λ (rest : Memory × Outcome Numbered Answer). cond fault.holds (before, refused fault.refusal) rest) (last_holds faults last holds)
      ∙ one_or_other fault.holds fault.refusal (first_or faults last.refusal)
