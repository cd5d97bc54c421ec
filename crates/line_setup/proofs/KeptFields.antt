-- The kept bits of the control words are the fields that definitions read, no more and no fewer: good words that say the same are the same, and other bits say nothing. Assumes nothing.
use Prim.Native.Nat.{ℕ, zero, suc, ◌+◌, ◌*◌, ◌/◌, ◌≤◌, ◌<◌}
use mathlib.Core.Path.{◌≡◌, refl, sym, ap, ◌∙◌}
use mathlib.Core.Bool.{Bool, true, false, true≢false, cond}
use mathlib.Core.List.{List}
use mathlib.Core.Logic.{⊎_elim}
use native.Mathlib.Omega.{arith}
use borrow.Author.Tests.{eq-eqb, ne_eqb}
use lib.Dec.{eqb}
use lib.ListN.{length, get_or}
use lib.Seq.{ext_get_or}
use Rattle.rules.specs.Lists.{values}
use Rattle.rules.proofs.Cases.{le_or_lt}
use Rattle.words.specs.Field.{field}
use Rattle.chip_timing.specs.Signals.{window_holds}
use Rattle.chip_timing.specs.Move.{next_position}
use Rattle.chip_timing.specs.declared.Position.{Position}
use Rattle.chip_registers.specs.Kept.{kept_of_control, kept_of, fits}
use Rattle.chip_registers.specs.declared.Block.TheVariants.{Control}
use Rattle.chip_registers.proofs.Kept.{kept_pair}
use Rattle.chip_registers.proofs.Map.{register_in}
use Rattle.chip_registers.proofs.Fields.{TwoFields, fits_switches, fits_size, fits_pair}
use Rattle.line_setup.specs.Controls.{switch, depth_of, controls_of}
use Rattle.line_setup.specs.declared.controls.Controls.{Controls}

-- nine control words without stray bits
abbrev pub NineFit : List ℕ → Type 0
NineFit control = (length control ≡ 9) × ((word : ℕ) → word < 9 → fits (register_in Control word) (get_or control word 0) ≡ true)

-- on and off of the windows, control words 2 to 5, are the same in both
abbrev pub SameWindows : List ℕ → List ℕ → Type 0
SameWindows control other = (word : ℕ) → 2 ≤ word → word ≤ 5
    → (field (get_or control word 0) 11 0 ≡ field (get_or other word 0) 11 0) × (field (get_or control word 0) 27 16 ≡ field (get_or other word 0) 27 16)

-- ---- words that say the same

-- two bits that are alike 1 or not are the same
same_bit : (bit bit' : ℕ) → bit < 2 → bit' < 2 → eqb bit 1 ≡ eqb bit' 1 → bit ≡ bit'
same_bit bit bit' small small' same =
    ⊎_elim
    (λ set. ⊎_elim
    (λ set'. omega arith)
    (λ clear'. absurd (true≢false (sym (eq-eqb bit 1 (omega arith)) ∙ same ∙ ne_eqb bit' 1 (omega arith))))
    (le_or_lt 1 bit'))
    (λ clear. ⊎_elim
    (λ set'. absurd (true≢false (sym (eq-eqb bit' 1 (omega arith)) ∙ sym same ∙ ne_eqb bit 1 (omega arith))))
    (λ clear'. omega arith)
    (le_or_lt 1 bit'))
    (le_or_lt 1 bit)

-- two depths that are the same come of one bit
same_depth : (deep deep' : Bool) → ◌≡◌ {A = ℕ} (cond deep 32 16) (cond deep' 32 16) → deep ≡ deep'
same_depth true true same = refl
same_depth true false same = absurd (omega arith)
same_depth false true same = absurd (omega arith)
same_depth false false same = refl

-- a number halved again and again, down to its bit 4
halvings : (w : ℕ)
    → (w ≡ field w 0 0 + 2 * (w / 2))
    × (w / 2 ≡ field w 1 1 + 2 * (w / 4))
    × (w / 4 ≡ field w 2 2 + 2 * (w / 8))
    × (w / 8 ≡ field w 3 3 + 2 * (w / 16))
    × (w < 32 → w / 16 ≡ field w 4 4)
halvings w = omega arith

-- a number of five bits is what its bits make
five_bits : (w : ℕ) → w < 32 → w ≡ field w 0 0 + 2 * (field w 1 1 + 2 * (field w 2 2 + 2 * (field w 3 3 + 2 * field w 4 4)))
five_bits w small =
    let half = halvings w in
    half.0
    ∙ ap (λ (rest : ℕ). field w 0 0 + 2 * rest) (half.1
    ∙ ap (λ (rest : ℕ). field w 1 1 + 2 * rest) (half.2
    ∙ ap (λ (rest : ℕ). field w 2 2 + 2 * rest) (half.3
    ∙ ap (λ (rest : ℕ). field w 3 3 + 2 * rest) (half.4 small))))

-- words of two fields of 12 bits that are the same
same_pair : (word word' : ℕ) → TwoFields 4096 word → TwoFields 4096 word' → field word 11 0 ≡ field word' 11 0 → field word 27 16 ≡ field word' 27 16 → word ≡ word'
same_pair word word' small small' low high = omega arith

-- what holds of each of nine numbers
each_of_nine : (P : ℕ → Type 0) → P 0 → P 1 → P 2 → P 3 → P 4 → P 5 → P 6 → P 7 → P 8 → (word : ℕ) → word < 9 → P word
each_of_nine P p0 p1 p2 p3 p4 p5 p6 p7 p8 zero h = p0
each_of_nine P p0 p1 p2 p3 p4 p5 p6 p7 p8 (suc zero) h = p1
each_of_nine P p0 p1 p2 p3 p4 p5 p6 p7 p8 (suc (suc zero)) h = p2
each_of_nine P p0 p1 p2 p3 p4 p5 p6 p7 p8 (suc (suc (suc zero))) h = p3
each_of_nine P p0 p1 p2 p3 p4 p5 p6 p7 p8 (suc (suc (suc (suc zero)))) h = p4
each_of_nine P p0 p1 p2 p3 p4 p5 p6 p7 p8 (suc (suc (suc (suc (suc zero))))) h = p5
each_of_nine P p0 p1 p2 p3 p4 p5 p6 p7 p8 (suc (suc (suc (suc (suc (suc zero)))))) h = p6
each_of_nine P p0 p1 p2 p3 p4 p5 p6 p7 p8 (suc (suc (suc (suc (suc (suc (suc zero))))))) h = p7
each_of_nine P p0 p1 p2 p3 p4 p5 p6 p7 p8 (suc (suc (suc (suc (suc (suc (suc (suc zero)))))))) h = p8
each_of_nine P p0 p1 p2 p3 p4 p5 p6 p7 p8 (suc (suc (suc (suc (suc (suc (suc (suc (suc word))))))))) h = absurd (omega arith)

module _ (control other : List ℕ) (good : NineFit control) (good' : NineFit other) (same : controls_of control ≡ controls_of other) where
  -- a word of two fields of 12 bits in both
  pair_in : (word : ℕ) → word < 9 → (word ≡ 0 → ⊥) → (word ≡ 7 → ⊥)
      → field (get_or control word 0) 11 0 ≡ field (get_or other word 0) 11 0 → field (get_or control word 0) 27 16 ≡ field (get_or other word 0) 27 16
      → get_or control word 0 ≡ get_or other word 0
  pair_in word below not0 not7 low high =
      same_pair (get_or control word 0) (get_or other word 0)
      (fits_pair (get_or control word 0) word not0 not7 (good.1 word below)) (fits_pair (get_or other word 0) word not0 not7 (good'.1 word below))
      low high

  -- the switches and the depth tell word 0
  word_0 : get_or control 0 0 ≡ get_or other 0 0
  unfolding controls_of switch depth_of
  word_0 =
      let w : ℕ = get_or control 0 0 in
      let w' : ℕ = get_or other 0 0 in
      let b0 = same_bit (field w 0 0) (field w' 0 0) (omega arith) (omega arith) (ap (λ (c : Controls). c.overlay) same) in
      let b1 = same_bit (field w 1 1) (field w' 1 1) (omega arith) (omega arith) (ap (λ (c : Controls). c.ids) same) in
      let b2 = same_bit (field w 2 2) (field w' 2 2) (omega arith) (omega arith) (ap (λ (c : Controls). c.cursor) same) in
      let b3 = same_bit (field w 3 3) (field w' 3 3) (omega arith) (omega arith) (ap (λ (c : Controls). c.crosshair) same) in
      let b4 = same_bit (field w 4 4) (field w' 4 4) (omega arith) (omega arith) (same_depth _ _ (ap (λ (c : Controls). c.depth) same)) in
      cc (five_bits w (fits_switches w (good.1 0 (omega arith))), five_bits w' (fits_switches w' (good'.1 0 (omega arith))))

  -- the totals tell word 1
  word_1 : get_or control 1 0 ≡ get_or other 1 0
  unfolding controls_of
  word_1 =
      let columns = ap (λ (c : Controls). c.columns) same in
      let lines = ap (λ (c : Controls). c.lines) same in
      pair_in 1 (omega arith) (omega arith) (omega arith) (omega arith) (omega arith)

  -- the origin tells word 6
  word_6 : get_or control 6 0 ≡ get_or other 6 0
  unfolding controls_of
  word_6 = pair_in 6 (omega arith) (omega arith) (omega arith) (ap (λ (c : Controls). c.left) same) (ap (λ (c : Controls). c.top) same)

  -- the active size tells word 7
  word_7 : get_or control 7 0 ≡ get_or other 7 0
  unfolding controls_of
  word_7 =
      let width = ap (λ (c : Controls). c.width) same in
      let height = ap (λ (c : Controls). c.height) same in
      let small = fits_size (get_or control 7 0) (good.1 7 (omega arith)) in
      let small' = fits_size (get_or other 7 0) (good'.1 7 (omega arith)) in
      omega arith

  -- the cursor's place tells word 8
  word_8 : get_or control 8 0 ≡ get_or other 8 0
  unfolding controls_of
  word_8 = pair_in 8 (omega arith) (omega arith) (omega arith) (ap (λ (c : Controls). c.cx) same) (ap (λ (c : Controls). c.cy) same)

  -- control words without stray bits that say the same of a line and of the windows are the same: no bit is kept that nothing reads
  pub same_words : SameWindows control other → control ≡ other
  same_words windows =
      let window : (word : ℕ) → 2 ≤ word → word ≤ 5 → get_or control word 0 ≡ get_or other word 0 =
      λ word from upto. pair_in word (omega arith) (omega arith) (omega arith) (windows word from upto).0 (windows word from upto).1 in
      ext_get_or 0 control other (good.0 ∙ sym good'.0)
      (λ word below. each_of_nine (λ (word : ℕ). get_or control word 0 ≡ get_or other word 0)
      word_0 word_1 (window 2 (omega arith) (omega arith)) (window 3 (omega arith) (omega arith)) (window 4 (omega arith) (omega arith)) (window 5 (omega arith) (omega arith))
      word_6 word_7 word_8 word (omega arith))

-- ---- bits that are not kept

-- the kept bits of nine control words
abbrev pub kept_words : List ℕ → List ℕ
kept_words control = values (λ (word : ℕ). kept_of (register_in Control word) (get_or control word 0)) 9 0

-- the switches are among the kept bits of word 0
switches_kept : (value : ℕ) → let kept : ℕ = kept_of (register_in Control 0) value in
    (field kept 0 0 ≡ field value 0 0)
    × (field kept 1 1 ≡ field value 1 1)
    × (field kept 2 2 ≡ field value 2 2)
    × (field kept 3 3 ≡ field value 3 3)
    × (field kept 4 4 ≡ field value 4 4)
unfolding kept_of_control
switches_kept value = omega arith

-- the two fields of 11 bits are among the kept bits of word 7
size_kept : (value : ℕ) → let kept : ℕ = kept_of (register_in Control 7) value in
    (field kept 10 0 ≡ field value 10 0) × (field kept 26 16 ≡ field value 26 16)
unfolding kept_of_control
size_kept value = omega arith

module _ (word value : ℕ) (not0 : word ≡ 0 → ⊥) (not7 : word ≡ 7 → ⊥) where
  -- the two fields of 12 bits are among the kept bits of any other word
  pair_kept : let kept : ℕ = kept_of (register_in Control word) value in (field kept 11 0 ≡ field value 11 0) × (field kept 27 16 ≡ field value 27 16)
  pair_kept = rw (kept_pair word value not0 not7) (omega arith)

  -- a window rests on the kept bits of its word alone
  pub window_kept : (p : ℕ) → window_holds (kept_of (register_in Control word) value) p ≡ window_holds value p
  unfolding window_holds
  window_kept p = rw (pair_kept.0, pair_kept.1)

-- the move of the beam rests on the kept bits of word 1 alone
pub move_kept : (at : Position) (value : ℕ) → next_position at (kept_of (register_in Control 1) value) ≡ next_position at value
unfolding next_position
move_kept at value = let total = pair_kept 1 value (omega arith) (omega arith) in rw (total.0, total.1)

-- what control words say of a line rests on their kept bits alone
pub controls_kept : (control : List ℕ) → controls_of (kept_words control) ≡ controls_of control
unfolding controls_of switch depth_of
controls_kept control =
    let bits = switches_kept (get_or control 0 0) in
    let total = pair_kept 1 (get_or control 1 0) (omega arith) (omega arith) in
    let origin = pair_kept 6 (get_or control 6 0) (omega arith) (omega arith) in
    let active = size_kept (get_or control 7 0) in
    let cursor = pair_kept 8 (get_or control 8 0) (omega arith) (omega arith) in
    λ i.
    record {
      overlay = eqb (bits.0 i) 1;
      ids = eqb (bits.1 i) 1;
      cursor = eqb (bits.2 i) 1;
      crosshair = eqb (bits.3 i) 1;
      depth = cond (eqb (bits.4 i) 1) 32 16;
      columns = total.0 i + 1;
      lines = total.1 i + 1;
      left = origin.0 i;
      top = origin.1 i;
      width = active.0 i + 1;
      height = active.1 i + 1;
      cx = cursor.0 i;
      cy = cursor.1 i;
    }
