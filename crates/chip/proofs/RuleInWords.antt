-- The state's rule, number 11, in the paper's own words and numbers: a state keeps it exactly where these hold. Assumes nothing.
use Prim.Native.Nat.{ℕ, zero, suc, ◌+◌, ◌^◌, ◌≤◌, ◌<◌}
use mathlib.Core.Path.{◌≡◌, refl, sym, ◌∙◌}
use mathlib.Core.Bool.{true}
use mathlib.Core.List.{List, [], ◌∷◌}
use native.Mathlib.Decide.{ℕ_discrete}
use native.Mathlib.Nat.{add-zero, zero-add}
use native.Mathlib.Omega.{arith}
use borrow.Author.Tests.{ltb-true, leb-true, lt-ltb}
use lib.ListN.{length, get_or, length-take}
use lib.Seq.{get_or-take}
use Rattle.std.proofs.lemmas.Bool.{and_parts}
use Rattle.std.proofs.lemmas.List.Elements.{All-from_get_or}
use Rattle.std.proofs.lemmas.List.Sums.{list_all-from_AllPass}
use Rattle.chip_registers.specs.Kept.{fits}
use Rattle.chip_registers.specs.declared.Block.TheVariants.{Control}
use Rattle.chip_registers.proofs.Kept.{colour_fits}
use Rattle.chip_registers.proofs.Map.{register_in}
use Rattle.chip_registers.proofs.Fields.{TwoFields, fits_switches, switches_fit, fits_size, size_fits, fits_pair, pair_fits}
use Rattle.chip_queue.specs.Queue.{zero_slot, waiting_in}
use Rattle.chip_queue.specs.Waiting.{good_write}
use Rattle.chip_queue.specs.Good.{all_good}
use Rattle.chip_queue.specs.declared.Waiting.{Waiting}
use Rattle.chip_queue.proofs.Rule as queue_rule
use Rattle.chip.specs.State.{HasArrays, control_word, good_words, good_state}
use Rattle.chip.specs.declared.state.State.{State}
use Rattle.chip.proofs.Good.{says_good}

-- what the rule of number 11 asks of a state
pub record KeepsRule (state : State) : Type 0 where
  -- word 0 has five switches
  pub switches : control_word state 0 < 32
  -- words 1 to 6 and 8 have no bits but 11..0 and 27..16
  pub pairs : (word : ℕ) → word < 9 → (word ≡ 0 → ⊥) → (word ≡ 7 → ⊥) → TwoFields 4096 (control_word state word)
  -- word 7 has none but 10..0 and 26..16
  pub size : TwoFields 2048 (control_word state 7)
  -- the position is at most 4,095 either way
  pub column : state.at.x ≤ 4095
  pub line : state.at.y ≤ 4095
  -- at most 64 wait, each for one of 4,608 colour entries and with a colour of 24 bits; slots beyond them do not count
  pub few : state.queue.waiting ≤ 64
  pub entries : (slot : ℕ) → slot < state.queue.waiting → (get_or state.queue.slots slot zero_slot).word < 4608
  pub colours : (slot : ℕ) → slot < state.queue.waiting → (get_or state.queue.slots slot zero_slot).value < 2 ^ 24

-- ---- the control words

-- where the words are good, each fits
words_fit : (from : ℕ) (words : List ℕ) → good_words from words ≡ true → (n : ℕ) → n < length words → fits (register_in Control (from + n)) (get_or words n 0) ≡ true
words_fit from [] good n h = absurd (omega arith)
words_fit from (first ∷ words) good zero h = rw add-zero (and_parts (fits (register_in Control from) first) (good_words (suc from) words) good).0
words_fit from (first ∷ words) good (suc n) h =
    let same : from + suc n ≡ suc from + n = omega arith in
    rw same (words_fit (suc from) words (and_parts (fits (register_in Control from) first) (good_words (suc from) words) good).1 n (omega arith))

-- where each fits, the words are good
fit_words : (from : ℕ) (words : List ℕ) → ((n : ℕ) → n < length words → fits (register_in Control (from + n)) (get_or words n 0) ≡ true) → good_words from words ≡ true
fit_words from [] fit = refl
fit_words from (first ∷ words) fit =
    rw (rw add-zero at (fit 0 (omega arith)))
    (fit_words (suc from) words (λ n h. let same : suc from + n ≡ from + suc n = omega arith in rw same (fit (suc n) (omega arith))))

-- ---- the writes that wait

-- where each of some writes is good, all are
each_good : (writes : List Waiting) → ((k : ℕ) → k < length writes → good_write (get_or writes k zero_slot) ≡ true) → all_good writes ≡ true
each_good writes each = list_all-from_AllPass good_write writes (All-from_get_or (λ write. good_write write ≡ true) writes zero_slot each)

module _ (write : Waiting) where
  -- a good write is for one of 4,608 entries and has a colour of 24 bits
  write_in_words : good_write write ≡ true → (write.word < 4608) × (write.value < 2 ^ 24)
  write_in_words good =
      let said = queue_rule.write_says write good in
      (said.0, ltb-true write.value (2 ^ 24) (sym (colour_fits write.word write.value) ∙ said.1))

  -- a write for one of 4,608 entries with a colour of 24 bits is good
  words_write : write.word < 4608 → write.value < 2 ^ 24 → good_write write ≡ true
  words_write here small = queue_rule.says_write write here (colour_fits write.word write.value ∙ lt-ltb write.value (2 ^ 24) small)

module _ (state : State) (whole : HasArrays state) where
  -- a state that keeps the rule is as the paper asks
  pub rule_says : good_state state ≡ true → KeepsRule state
  unfolding good_state
  rule_says good =
      let all = and_parts _ _ good in
      let three = and_parts _ _ all.0 in
      let two = and_parts _ _ three.0 in
      let word : (n : ℕ) → n < 9 → fits (register_in Control n) (control_word state n) ≡ true =
      λ n h. rw zero-add at (words_fit 0 state.control two.0 n (omega (arith, whole.0))) in
      let queue = queue_rule.good_says state.queue all.1 in
      let slot : (k : ℕ) → k < state.queue.waiting → good_write (get_or state.queue.slots k zero_slot) ≡ true =
      λ k h. rw (get_or-take state.queue.waiting state.queue.slots k zero_slot h) at
      (queue_rule.good_each (waiting_in state.queue) k queue.1 (simp length-take (omega (arith, whole.1, queue.0)))) in
      record {
        switches = fits_switches (control_word state 0) (word 0 (omega arith));
        pairs = λ n h not0 not7. fits_pair (control_word state n) n not0 not7 (word n h);
        size = fits_size (control_word state 7) (word 7 (omega arith));
        column = leb-true state.at.x 4095 two.1;
        line = leb-true state.at.y 4095 three.1;
        few = queue.0;
        entries = λ k h. (write_in_words (get_or state.queue.slots k zero_slot) (slot k h)).0;
        colours = λ k h. (write_in_words (get_or state.queue.slots k zero_slot) (slot k h)).1;
      }

  -- a state as the paper asks keeps the rule
  pub says_rule : KeepsRule state → good_state state ≡ true
  says_rule keeps =
      let word : (n : ℕ) → n < 9 → fits (register_in Control n) (control_word state n) ≡ true =
      λ n h. elim (ℕ_discrete n 0) [
        | yes is ↦ rw is (switches_fit (control_word state 0) keeps.switches)
        | no not0 ↦ elim (ℕ_discrete n 7) [
          | yes is ↦ rw is (size_fits (control_word state 7) keeps.size)
          | no not7 ↦ pair_fits (control_word state n) n not0 not7 (keeps.pairs n h not0 not7)
        ]
      ] in
      says_good state
      (fit_words 0 state.control (λ n h. rw zero-add (word n (omega (arith, whole.0)))))
      keeps.column keeps.line
      (queue_rule.says_good state.queue keeps.few
      (each_good (waiting_in state.queue)
      (λ k h.
      let here : k < state.queue.waiting = omega (arith, simp length-take at h) in
      rw (get_or-take state.queue.waiting state.queue.slots k zero_slot here)
      (words_write (get_or state.queue.slots k zero_slot) (keeps.entries k here) (keeps.colours k here)))))
