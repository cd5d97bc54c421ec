use Rattle.std.proofs.Common.{ℕ, ◌+◌, rules}
use Rattle.rules.proofs.Fill.{looked_up}
use Rattle.line_pixels.specs.Cells.{map_entry, pixel_view}
use Rattle.line_pixels.proofs.mapped.map_colours.Goals as goal

pub returns : goal.returns
returns c =
    let a = c.args in
    λ k below normal overlay.
    let colour : ℕ → ℕ = λ k. pixel_view a.store.now normal overlay (map_entry (a.first + k)) in
    looked_up colour a.colours.now 256 k 0 (rw c.told-colours at (c.fill.ensures colour (λ i answer _ post. search rules))) below
