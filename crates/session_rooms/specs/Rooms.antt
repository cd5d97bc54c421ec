-- The rooms that a step is lent, and what it is refused for.
use Rattle.std.specs.Prelude.{ℕ, Bool, not, ◌||◌, List, [], ◌∷◌, eqb, ltb}
use Rattle.rules.specs.Faults.{Fault}
use Rattle.refusals.specs.Refusal.{fault}
use Rattle.refusals.specs.declared.Refusal.TheVariants.{StoreLength, TableLength, NormalLength, OverlayLength, OutputLength, BadState}
use Rattle.chip_registers.specs.Store.{store_length}
use Rattle.session_records.specs.Tags.{longest_table, longest_normal, longest_overlay}
use Rattle.session_rooms.specs.declared.Counts.{Counts}

-- the words of the longest line: the active width less 1 has 11 bits (CHIP 2.3)
abbrev pub longest_line : ℕ
longest_line = 2048

-- so many bytes of table and rows are more than there is room for
unfoldable pub too_much_held : ℕ → ℕ → ℕ → Bool
too_much_held table normal overlay = ltb longest_table table || ltb longest_normal normal || ltb longest_overlay overlay

-- a room is lent with another length than wanted
abbrev pub wrong_room : ℕ → ℕ → Bool
wrong_room lent wanted = not (eqb lent wanted)

-- 5 at the lowest place, by the lengths of store, table, rows and output
unfoldable pub room_faults : ℕ → ℕ → ℕ → ℕ → ℕ → List Fault
room_faults store table normal overlay output =
    fault StoreLength (wrong_room store store_length)
    ∷ fault TableLength (wrong_room table longest_table)
    ∷ fault NormalLength (wrong_room normal longest_normal)
    ∷ fault OverlayLength (wrong_room overlay longest_overlay)
    ∷ fault OutputLength (wrong_room output longest_line)
    ∷ []

-- 11 by the counts, then 5 by the rooms
abbrev pub lent_faults : Counts → ℕ → ℕ → ℕ → ℕ → ℕ → List Fault
lent_faults counts store table normal overlay output =
    fault BadState (too_much_held counts.table counts.normal counts.overlay) ∷ room_faults store table normal overlay output
