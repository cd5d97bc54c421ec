-- What is held, with other words in the output.
use Rattle.std.specs.Prelude.{ℕ, List}
use Rattle.session.specs.Held.{Held}

-- the same chip, table, rows and count of records, over this output
abbrev pub with_output : Held → List ℕ → Held
with_output held output =
    record {
      chip = held.chip;
      table = held.table;
      normal = held.normal;
      overlay = held.overlay;
      output = output;
      records = held.records;
    }
