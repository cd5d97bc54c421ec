-- The store as an array holds what the store that is lent does.
use Rattle.std.proofs.Common.{rules, ◌≡◌, sym, refl, ℕ, length, take, drop, [], append-nil}
use native.Mathlib.Nat.{add-zero}
use Rattle.std.proofs.lemmas.List.{drop-take}
use Rattle.rules.specs.Rule.{value}
use Rattle.rules.specs.Lists.{filled}
use Rattle.line_pixels.specs.Cells.{pixel_view}
use Rattle.line_pixels.specs.Colour.{colour_of_pixel}
use Rattle.line_pixels.proofs.Screen.fill.Goals as goal

pub returns-then-count-lt-LAYERED_RUN : goal.returns-then-count-lt-LAYERED_RUN
returns-then-count-lt-LAYERED_RUN c =
    let a = c.args in
    let shows : ℕ → ℕ = λ p. value (pixel_view c.whole.result.now a.normal.now a.overlay.now) (colour_of_pixel a.self a.entry p) in
    let ran : c.fill_pixels.new.out ≡ filled shows a.x (take a.count a.out.now) (length (take a.count a.out.now)) = c.fill_pixels.ensures in
    let long : length (take a.count a.out.now) ≡ a.count = search rules in
    let none : drop a.count (take a.count a.out.now) ≡ [] = rw add-zero at (drop-take a.count 0 a.out.now) in
    rw (sym c.whole.ensures) (rw (ran, long, none, append-nil) refl)
