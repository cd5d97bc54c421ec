-- Every marked example holds. Assumes nothing.
use mathlib.Core.Path.{refl}
use native.Mathlib.Omega.{arith}
use Rattle.chip_timing.specs.Window.{in_window}
use Rattle.line_formats.specs.Channel.{widened}
use Rattle.line_formats.specs.Table.{part_at}
use Rattle.line_colour.specs.Entry.{decoded}
use Rattle.line_windows.proofs.Search.{search_start, search_next, search_found}
use Rattle.line_windows.proofs.Answers.{table_of_entry, id_of_entry}
use Rattle.line_pixels.specs.Cursor.{in_glyph, cursor_at}
use Rattle.line_pixels.specs.Colour.{through_gamma, normal_at, overlaid, overlay_at, under_cursor}
use Rattle.marked_examples.specs.Table.{All, examples}

infixr 20 ◌&◌
-- a row, and then the others
◌&◌ : {Row Rows : Type 0} → Row → Rows → Row × Rows
row & rows = (row, rows)

-- the table, row by row
pub examples_hold : All examples
unfolding widened in_window cursor_at in_glyph decoded part_at normal_at under_cursor overlay_at overlaid through_gamma
examples_hold =
    -- (a) to (e): computed, for every p in (e)
    refl & refl & refl & refl & (λ p. refl)
    -- (f) the cell's two bits are the lowest
    & (λ store normal overlay on depth. (refl, omega arith), λ store normal overlay on depth. (refl, refl))
    -- (g) to (i): computed, whatever the store holds
    & ((_, refl, refl), (_, refl, refl), (refl, refl), (refl, refl))
    & (refl, _, refl, refl, λ store more overlay. (refl, refl))
    & (refl, _, refl, refl, λ store more overlay. (refl, refl))
    -- (j) the first entry ends at pixel 0, so pixel 1 has the second
    & (λ more. (
      id_of_entry _ _ _ _ (search_found (search_start 0 0) _ _ (omega arith) (omega arith)),
      id_of_entry _ _ _ _ (search_found (search_next (search_start 0 1) (omega arith)) _ _ (omega arith) (omega arith)),
    ))
    -- (k) the entry ends at the last line that there can be
    & (λ more y low. table_of_entry _ _ _ (search_found (search_start 0 y) _ _ (omega arith) (omega arith)))
    -- (l) byte 1 isn't transparent
    & (λ store normal more screen entry counts bypass. rw (counts, bypass) (refl, refl))
    & tt
