-- What a line is refused for before anything is read.
use Rattle.std.specs.Prelude.{ℕ, ◌+◌, ◌*◌, ◌/◌, Bool, not, ◌&&◌, ◌||◌, List, [], ◌∷◌, eqb, leb, ltb}
use Rattle.rules.specs.Faults.{Fault}
use Rattle.refusals.specs.Refusal.{fault}
use Rattle.refusals.specs.declared.Refusal.TheVariants.{StoreLength, TableLength, NormalLength, OverlayLength, OutputLength, BelowActive, AboveTotal, BadState}
use Rattle.chip_registers.specs.Store.{store_length}
use Rattle.line_windows.specs.Table.{most_table_bytes}
use Rattle.line_setup.specs.declared.controls.Controls.{Controls}
use Rattle.line_setup.specs.declared.setup.Setup.{Setup}

-- the picture is wider or higher than what the total leaves behind its origin (CHIP 6.7, 8.1)
unfoldable pub above_total : Controls → Bool
above_total controls =
    ltb controls.columns (controls.left + controls.width)
    || ltb controls.lines (controls.top + controls.height)

-- the bytes of a normal row (CHIP 8.3)
abbrev pub normal_length : Controls → ℕ
normal_length controls = controls.width * (controls.depth / 8)

-- the table, looked at only where window IDs are on, has more bytes than a table can have (CHIP 4.1, 4.2, 8.3)
unfoldable pub table_too_long : Setup → Bool
table_too_long setup = setup.controls.ids && ltb most_table_bytes setup.lengths.table

-- the overlay row, looked at only where overlay is on, has another length than the active width (CHIP 8.3)
unfoldable pub overlay_wrong : Setup → Bool
overlay_wrong setup = setup.controls.overlay && not (eqb setup.lengths.overlay setup.controls.width)

-- 5, at the lowest place (CHIP 8.2, 8.3)
unfoldable pub length_faults : Setup → List Fault
length_faults setup =
    fault StoreLength (not (eqb setup.lengths.store store_length))
    ∷ fault TableLength (table_too_long setup)
    ∷ fault NormalLength (not (eqb setup.lengths.normal (normal_length setup.controls)))
    ∷ fault OverlayLength (overlay_wrong setup)
    ∷ fault OutputLength (ltb setup.lengths.output setup.controls.width)
    ∷ []

-- 11, 10, 6, 5 (CHIP 8.1, 8.2)
unfoldable pub line_faults : Setup → List Fault
line_faults setup =
    fault BadState (not setup.good)
    ∷ fault AboveTotal (above_total setup.controls)
    ∷ fault (BelowActive setup.y) (leb setup.controls.height setup.y)
    ∷ length_faults setup
