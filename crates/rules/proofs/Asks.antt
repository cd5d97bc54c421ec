-- What a rule may do at all, whatever the memory holds: what it may ask for bounds what it reads; one that never refuses adds nothing to a refusal. Assumes nothing.
use Prim.Native.Nat.{ℕ, zero, suc}
use mathlib.Core.Path.{◌≡◌, refl, sym, ap, subst}
use mathlib.Core.Bool.{Bool, true, false, cond}
use mathlib.Core.List.Memᴰ
use mathlib.Core.List.{List, [], ◌∷◌, Memᴰ}
use mathlib.Core.Logic.{⊎_elim}
use Rattle.rules.specs.Rule.{Rule, done, stop, ask, ok, refused, run, reads, ◌>>=◌, within}
use Rattle.rules.specs.Each.{each, each_of}
use Rattle.rules.proofs.Cases.{impossible}

module _ {R Q A : Type 0} where
  -- every cell that the rule may ask for is one of these
  abbrev pub Asks : (Q → Type 0) → Rule R Q A → Type 0
  Asks Allowed (done answer) = Unit {0}
  Asks Allowed (stop refusal) = Unit {0}
  Asks Allowed (ask cell next) = Allowed cell × ((held : ℕ) → Asks Allowed (next held))

  -- the rule refuses nothing
  abbrev pub NeverRefuses : Rule R Q A → Type 0
  NeverRefuses (done answer) = Unit {0}
  NeverRefuses (stop refusal) = ⊥
  NeverRefuses (ask cell next) = (held : ℕ) → NeverRefuses (next held)

module _ {R Q A : Type 0} (Allowed : Q → Type 0) (memory : Q → ℕ) where
  -- what is read is allowed
  pub asks_reads : (rule : Rule R Q A) → Asks Allowed rule → (cell : Q) → Memᴰ cell (reads memory rule) → Allowed cell
  asks_reads (done answer) asks cell here = absurd (Memᴰ.not-nil here)
  asks_reads (stop refusal) asks cell here = absurd (Memᴰ.not-nil here)
  asks_reads (ask asked on) asks cell here =
      ⊎_elim
      (λ same. subst Allowed (sym same) asks.0)
      (λ later. asks_reads (on (memory asked)) (asks.1 (memory asked)) cell later)
      (Memᴰ.cases_cons here)

module _ {R Q A : Type 0} (memory : Q → ℕ) where
  -- a rule that never refuses has no refusal for its outcome
  pub never_refused : (rule : Rule R Q A) {refusal : R} → NeverRefuses rule → run memory rule ≡ refused refusal → ⊥
  never_refused (done answer) never e = impossible (cc)
  never_refused (stop refusal) never e = never
  never_refused (ask cell on) never e = never_refused (on (memory cell)) (never (memory cell)) e

  -- a rule that never refuses has an answer
  pub never_answers : (rule : Rule R Q A) → NeverRefuses rule → (answer : A) × (run memory rule ≡ ok answer)
  never_answers (done answer) never = (answer, refl)
  never_answers (stop refusal) never = absurd never
  never_answers (ask cell on) never = never_answers (on (memory cell)) (never (memory cell))

module _ {R Q A B : Type 0} where
  -- one rule and then another ask for what each may ask for
  pub asks_then : (Allowed : Q → Type 0) (rule : Rule R Q A) (after : A → Rule R Q B)
      → Asks Allowed rule → ((a : A) → Asks Allowed (after a)) → Asks Allowed (rule >>= after)
  asks_then Allowed (done answer) after asks asks_after = asks_after answer
  asks_then Allowed (stop refusal) after asks asks_after = tt
  asks_then Allowed (ask cell on) after asks asks_after = (asks.0, λ held. asks_then Allowed (on held) after (asks.1 held) asks_after)

  -- one rule and then another never refuse where neither does
  pub never_then : (rule : Rule R Q A) (after : A → Rule R Q B) → NeverRefuses rule → ((a : A) → NeverRefuses (after a)) → NeverRefuses (rule >>= after)
  never_then (done answer) after never never_after = never_after answer
  never_then (stop refusal) after never never_after = never
  never_then (ask cell on) after never never_after = λ held. never_then (on held) after (never held) never_after

  -- a rule, and then one that never refuses: where the whole is refused, it has read what the first one reads
  pub refused_reads : (memory : Q → ℕ) (rule : Rule R Q A) (after : A → Rule R Q B) → ((a : A) → NeverRefuses (after a))
      → {refusal : R} → run memory (rule >>= after) ≡ refused refusal → reads memory (rule >>= after) ≡ reads memory rule
  refused_reads memory (done answer) after never e = absurd (never_refused memory (after answer) (never answer) e)
  refused_reads memory (stop refusal) after never e = refl
  refused_reads memory (ask cell on) after never e =
      ap (λ (cells : List Q). cell ∷ cells) (refused_reads memory (on (memory cell)) after never e)

module _ {R Q A : Type 0} where
  -- a rule by a test asks for what either side may ask for
  pub asks_cond : (Allowed : Q → Type 0) (test : Bool) (yes_rule no_rule : Rule R Q A)
      → Asks Allowed yes_rule → Asks Allowed no_rule → Asks Allowed (cond test yes_rule no_rule)
  asks_cond Allowed true yes_rule no_rule asks_yes asks_no = asks_yes
  asks_cond Allowed false yes_rule no_rule asks_yes asks_no = asks_no

  -- a rule whose every cell is allowed
  pub asks_any : (Allowed : Q → Type 0) → ((cell : Q) → Allowed cell) → (rule : Rule R Q A) → Asks Allowed rule
  asks_any Allowed all (done answer) = tt
  asks_any Allowed all (stop refusal) = tt
  asks_any Allowed all (ask cell on) = (all cell, λ held. asks_any Allowed all (on held))

  -- a pass asks for what its positions may ask for
  pub asks_each : (Allowed : Q → Type 0) (rule : ℕ → Rule R Q A) → ((x : ℕ) → Asks Allowed (rule x))
      → (count from : ℕ) → Asks Allowed (each rule count from)
  asks_each Allowed rule asks zero from = tt
  asks_each Allowed rule asks (suc count) from =
      asks_then Allowed (rule from) _ (asks from)
      (λ a. asks_then Allowed (each rule count (suc from)) _ (asks_each Allowed rule asks count (suc from)) (λ l. tt))

  -- a second pass never refuses where no position does
  pub never_each_of : {B : Type 0} (rule : B → ℕ → Rule R Q A) → ((b : B) (x : ℕ) → NeverRefuses (rule b x))
      → (found : List B) (from : ℕ) → NeverRefuses (each_of rule found from)
  never_each_of rule never [] from = tt
  never_each_of rule never (b ∷ others) from =
      never_then (rule b from) _ (never b from)
      (λ a. never_then (each_of rule others (suc from)) _ (never_each_of rule never others (suc from)) (λ l. tt))

-- a rule taken into more cells asks for those that its own become
pub asks_within : {R S P Q A : Type 0} (Allowed : Q → Type 0) (name : R → S) (into : P → Q) (rule : Rule R P A)
    → Asks (λ cell. Allowed (into cell)) rule → Asks Allowed (within name into rule)
asks_within Allowed name into (done answer) asks = tt
asks_within Allowed name into (stop refusal) asks = tt
asks_within Allowed name into (ask cell on) asks = (asks.0, λ held. asks_within Allowed name into (on held) (asks.1 held))
