-- What a read leaves, from the bytes moved to the front and those put behind them. Assumes nothing.
use Prim.Native.Nat.{ℕ, suc, ◌+◌, ◌≤◌}
use mathlib.Core.Path.{◌≡◌, refl, sym, ap, ap₂, ◌∙◌}
use mathlib.Core.Bool.{true, false}
use mathlib.Core.List.{List, ◌++◌}
use native.Mathlib.Omega.{arith}
use borrow.Author.Tests.{ne_eqb}
use lib.ListN.{length, take, drop, length-drop}
use lib.Seq.{length-take-le, take_at, take-add}
use Rattle.replay.specs.Run.{unread_in, to_front, taken_in}
use Rattle.replay.specs.Inner.{AfterReading, took}
use Rattle.replay.specs.declared.course.Course.{Course}

module _ (course : Course) (input : List ℕ) (inside : course.to ≤ length input) {kept : ℕ} {moved : List ℕ}
    (front : ◌≡◌ {A = ℕ × List ℕ} (kept, moved) (to_front input (unread_in course input))) where
  -- as many bytes are kept as are unread
  pub kept_many : kept ≡ length (unread_in course input)
  kept_many = ap (λ (all : ℕ × List ℕ). all.0) front

  -- they are the unread ones
  kept_front : take kept moved ≡ unread_in course input
  kept_front =
      rw (kept_many, ap (λ (all : ℕ × List ℕ). all.1) front)
      (take_at (unread_in course input) (drop (length (unread_in course input)) input) (length (unread_in course input)) refl)

  module _ {more : List ℕ} (stays : take kept more ≡ take kept moved) where
    -- a read that put so many bytes behind them
    pub read_some : (count : ℕ) {next : Course} → kept + count ≤ length more → next ≡ taken_in course kept count → AfterReading course input next more
    read_some count there is =
        let many : count ≡ length (take count (drop kept more)) =
        sym (length-take-le count (drop kept more) (omega (arith, there, length-drop kept more))) in
        took (take count (drop kept more)) (is ∙ ap₂ (taken_in course) kept_many many)
        (rw is (take-add kept count more ∙ ap (λ (bytes : List ℕ). bytes ++ take count (drop kept more)) (stays ∙ kept_front)))

-- a read that puts nothing is the end of the file
pub nothing_ends : (course : Course) (kept : ℕ) → (taken_in course kept 0).last ≡ true
nothing_ends course kept = refl

-- a read that puts something is not
pub something_goes_on : (course : Course) (kept count : ℕ) → (taken_in course kept (suc count)).last ≡ false
something_goes_on course kept count = ne_eqb (suc count) 0 (λ same. absurd (omega arith))
