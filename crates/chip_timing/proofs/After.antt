-- So many moves at once: the position in closed form, and moves after moves. Assumes nothing.
use Prim.Native.Nat.{ℕ, zero, suc, min, ◌+◌, ◌-◌, ◌/◌, ◌%◌, ◌≤◌, ◌<◌}
use mathlib.Core.Path.{◌≡◌, refl, sym, ap, ◌∙◌}
use native.Mathlib.Decide.{dec_lt}
use native.Mathlib.Nat.{mod-eq_of_lt, mod_self, add-mod_right, add-div_right, div-eq_of_lt}
use native.Mathlib.Numerals.{add-one}
use native.Mathlib.Omega.{arith}
use borrow.Author.Tests.{le-leb, lt-leb}
use Rattle.words.specs.Field.{field}
use Rattle.chip_timing.specs.Move.{total_width, total_lines, onwards, next_position, position_after}
use Rattle.chip_timing.specs.declared.Position.{Position}
use Rattle.chip_timing.proofs.Move.{move_along, move_end, next_x_le}

-- the line after so many ends of a line
line_after : ℕ → ℕ → ℕ → ℕ
line_after y last zero = y
line_after y last (suc ends) = (min y last + suc ends) % (last + 1)

-- after some ends, in closed form
line_past : (y last ends : ℕ) → (ends ≡ 0 → ⊥) → line_after y last ends ≡ (min y last + ends) % (last + 1)
unfolding line_after
line_past y last zero some = absurd (some refl)
line_past y last (suc ends) some = refl

-- from a line before the last, one end more is one from the next line
line_along : (y last ends : ℕ) → y < last → line_after y last (suc ends) ≡ line_after (y + 1) last ends
unfolding line_after
line_along y last zero h = let e : min y last + 1 ≡ y + 1 = omega arith in ap (λ (n : ℕ). n % (last + 1)) e ∙ mod-eq_of_lt (omega arith)
line_along y last (suc ends) h =
    let e : min y last + suc (suc ends) ≡ min (y + 1) last + suc ends = omega arith in ap (λ (n : ℕ). n % (last + 1)) e

-- from the last line or beyond, one end more is one from line 0
line_home : (y last ends : ℕ) → last ≤ y → line_after y last (suc ends) ≡ line_after 0 last ends
unfolding line_after
line_home y last zero h = let e : min y last + 1 ≡ last + 1 = omega arith in ap (λ (n : ℕ). n % (last + 1)) e ∙ mod_self (last + 1)
line_home y last (suc ends) h =
    let e : min y last + suc (suc ends) ≡ min 0 last + suc ends + (last + 1) = omega arith in
    ap (λ (n : ℕ). n % (last + 1)) e ∙ add-mod_right (min 0 last + suc ends) (last + 1)

-- one end more is one from where y moves on to
line_step : (y last ends : ℕ) → line_after y last (suc ends) ≡ line_after (onwards y (last + 1)) last ends
unfolding onwards
line_step y last ends =
    elim (dec_lt y last) [
      | yes h ↦ rw (lt-leb (last + 1) (y + 1) (omega arith)) (line_along y last ends h)
      | no h ↦ rw (le-leb (last + 1) (y + 1) (omega arith)) (line_home y last ends (omega arith))
    ]

-- where so many dots lead, from the start of a line on
dots_on : ℕ → ℕ → ℕ → Position
dots_on y dots word = record { x = dots % total_width word; y = line_after y (field word 27 16) (dots / total_width word) }

-- the dots from the start of its line to a position, or to the line's end if that comes first, and so many more
abbrev dots_to : Position → ℕ → ℕ → ℕ
dots_to at word count = min at.x (field word 11 0) + count

-- a whole line of dots more moves y on
past_end : (y count word : ℕ) → dots_on y (count + total_width word) word ≡ dots_on (onwards y (total_lines word)) count word
unfolding dots_on line_after
past_end y count word =
    rw (add-mod_right count (total_width word), add-div_right count {k = total_width word} (omega arith), add-one (count / total_width word))
    (ap (λ (line : ℕ). record { x = count % total_width word; y = line }) (line_step y (field word 27 16) (count / total_width word)))

module _ (word : ℕ) where
  -- one dot more is as many as before from the next position
  dots_step : (at : Position) (count : ℕ)
      → dots_on at.y (dots_to at word (suc count)) word ≡ dots_on (next_position at word).y (dots_to (next_position at word) word count) word
  dots_step at count =
      elim (dec_lt at.x (field word 11 0)) [
        | yes h ↦ rw (move_along at word h) (ap (λ (n : ℕ). dots_on at.y n word) (omega arith))
        | no h ↦
            rw (move_end at word (omega arith))
            (ap (λ (n : ℕ). dots_on at.y n word) (omega arith) ∙ past_end at.y (min 0 (field word 11 0) + count) word)
      ]

  -- no dot more is the position itself, within its line
  dots_none : (at : Position) → at.x ≤ field word 11 0 → dots_on at.y (dots_to at word 0) word ≡ at
  unfolding dots_on line_after
  dots_none at h =
      let e : dots_to at word 0 ≡ at.x = omega arith in
      rw (e, mod-eq_of_lt {n = at.x} {m = total_width word} (omega arith), div-eq_of_lt {n = at.x} {m = total_width word} (omega arith))

  -- within its line, any number of moves is as many dots on
  after_inside : (at : Position) (count : ℕ) → at.x ≤ field word 11 0 → position_after at count word ≡ dots_on at.y (dots_to at word count) word
  unfolding position_after
  after_inside at zero h = sym (dots_none at h)
  after_inside at (suc count) h = after_inside (next_position at word) count (next_x_le at word) ∙ sym (dots_step at count)

  -- from anywhere, any number of moves but 0 is as many dots on
  after_dots : (at : Position) (count : ℕ) → (count ≡ 0 → ⊥) → position_after at count word ≡ dots_on at.y (dots_to at word count) word
  unfolding position_after
  after_dots at zero more = absurd (more refl)
  after_dots at (suc count) more = after_inside (next_position at word) count (next_x_le at word) ∙ sym (dots_step at count)

  module _ (at : Position) (count : ℕ) (more : count ≡ 0 → ⊥) where
    -- where no line ends on the way, y stays
    pub after_along : dots_to at word count / total_width word ≡ 0 → position_after at count word ≡ record { x = dots_to at word count % total_width word; y = at.y }
    unfolding dots_on line_after
    after_along none = after_dots at count more ∙ rw none

    -- where lines end, y has moved on as often
    pub after_ends : (dots_to at word count / total_width word ≡ 0 → ⊥)
        → position_after at count word
        ≡ record { x = dots_to at word count % total_width word; y = (min at.y (field word 27 16) + dots_to at word count / total_width word) % total_lines word }
    unfolding dots_on
    after_ends some = after_dots at count more ∙ rw (line_past at.y (field word 27 16) (dots_to at word count / total_width word) some)

-- one move more, as the last
pub after_next : (at : Position) (count word : ℕ) → position_after at (suc count) word ≡ next_position (position_after at count word) word
unfolding position_after
after_next at zero word = refl
after_next at (suc count) word = after_next (next_position at word) count word

-- moves that stay on the line add to x
pub after_line : (at : Position) (count word : ℕ) → at.x + count ≤ field word 11 0 → position_after at count word ≡ record { x = at.x + count; y = at.y }
unfolding position_after
after_line at zero word h = ap (λ (x : ℕ). record { x = x; y = at.y }) (omega arith)
after_line at (suc count) word h =
    rw (move_along at word (omega arith)) (after_line (record { x = at.x + 1; y = at.y }) count word (omega arith) ∙ ap (λ (x : ℕ). record { x = x; y = at.y }) (omega arith))

-- after a run of which only the last move may leave the line, the position is the next one of the last on the line
pub after_run : (at : Position) (run word : ℕ) → 0 < run → min at.x (field word 11 0) + run ≤ field word 11 0 + 1
    → position_after at run word ≡ next_position (record { x = at.x + (run - 1); y = at.y }) word
unfolding position_after
after_run at run word some fits =
    let e : run ≡ suc (run - 1) = omega arith in
    ap (λ (count : ℕ). position_after at count word) e
    ∙ after_next at (run - 1) word
    ∙ ap (λ (last : Position). next_position last word)
    (elim (dec_lt 1 run) [
      | yes more ↦ after_line at (run - 1) word (omega arith)
      | no one ↦
          let none : run - 1 ≡ 0 = omega arith in
          rw none (ap (λ (x : ℕ). record { x = x; y = at.y }) (omega arith))
    ])
