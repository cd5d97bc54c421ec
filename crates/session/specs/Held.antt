-- What a session holds.
use Rattle.std.specs.Prelude.{ℕ, ◌+◌, List, [], replicate}
use Rattle.chip_registers.specs.Store.{store_length}
use Rattle.chip.specs.State.{fresh}
use Rattle.chip.specs.Call.{Chip}
use Rattle.session_rooms.specs.Rooms.{longest_line}

-- the chip, the bytes of the ID table, of the normal row and of the overlay row, the words of the output, and how many records stood before the next one
pub record Held : Type 0 where
  pub chip : Chip
  pub table : List ℕ
  pub normal : List ℕ
  pub overlay : List ℕ
  pub output : List ℕ
  pub records : ℕ

-- at first: a fresh chip, its store all zero, and table and rows empty (CHIP 9.2)
abbrev pub nothing_held : Held
nothing_held =
    record {
      chip = (fresh, replicate store_length 0);
      table = [];
      normal = [];
      overlay = [];
      output = replicate longest_line 0;
      records = 0;
    }

-- after a record: one more was read
abbrev one_record_more : Held → Chip → List ℕ → List ℕ → List ℕ → List ℕ → Held
one_record_more held chip table normal overlay output =
    record {
      chip = chip;
      table = table;
      normal = normal;
      overlay = overlay;
      output = output;
      records = held.records + 1;
    }

-- after a record that changed the chip
abbrev pub with_chip : Held → Chip → Held
with_chip held chip = one_record_more held chip held.table held.normal held.overlay held.output

-- after a record that changed the table
abbrev pub with_table : Held → List ℕ → Held
with_table held table = one_record_more held held.chip table held.normal held.overlay held.output

-- after a record that changed the normal row
abbrev pub with_normal : Held → List ℕ → Held
with_normal held normal = one_record_more held held.chip held.table normal held.overlay held.output

-- after a record that changed the overlay row
abbrev pub with_overlay : Held → List ℕ → Held
with_overlay held overlay = one_record_more held held.chip held.table held.normal overlay held.output

-- after a record that asked for a line
abbrev pub with_line : Held → Chip → List ℕ → Held
with_line held chip output = one_record_more held chip held.table held.normal held.overlay output
