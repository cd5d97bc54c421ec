-- What a session holds, in lent memory.
use Rattle.std.specs.Prelude.{ℕ, List, ◌++◌, length, take, drop}
use Rattle.session_rooms.specs.declared.Counts.{Counts}
use Rattle.session.specs.Held.{Held}
use Rattle.session.specs.declared.session.Session.{Session}

-- the lent store, table, rows and output
pub record Rooms : Type 0 where
  pub store : List ℕ
  pub table : List ℕ
  pub normal : List ℕ
  pub overlay : List ℕ
  pub output : List ℕ

-- the five of them as one
abbrev pub rooms_of : List ℕ → List ℕ → List ℕ → List ℕ → List ℕ → Rooms
rooms_of store table normal overlay output =
    record {
      store = store;
      table = table;
      normal = normal;
      overlay = overlay;
      output = output;
    }

-- so many bytes of table, normal row and overlay row as one
abbrev pub counts_of : ℕ → ℕ → ℕ → Counts
counts_of table normal overlay = record { table = table; normal = normal; overlay = overlay }

-- what is held: of table and rows the bytes that are there
abbrev pub held_in : Session → Rooms → Held
held_in session rooms =
    record {
      chip = (session.state, rooms.store);
      table = take session.counts.table rooms.table;
      normal = take session.counts.normal rooms.normal;
      overlay = take session.counts.overlay rooms.overlay;
      output = rooms.output;
      records = session.records;
    }

-- some bytes at the front of lent ones; those past them stay
abbrev pub laid : List ℕ → List ℕ → List ℕ
laid lent bytes = bytes ++ drop (length bytes) lent

-- what is held, put into the rooms
abbrev pub rooms_with : Rooms → Held → Rooms
rooms_with rooms held =
    record {
      store = held.chip.1;
      table = laid rooms.table held.table;
      normal = laid rooms.normal held.normal;
      overlay = laid rooms.overlay held.overlay;
      output = held.output;
    }

-- what is held besides the rooms
abbrev pub session_of : Held → Session
session_of held =
    record {
      state = held.chip.0;
      counts = counts_of (length held.table) (length held.normal) (length held.overlay);
      records = held.records;
    }

-- session and rooms, with what is held put into them
abbrev pub left_in : Rooms → Held → Session × Rooms
left_in rooms held = (session_of held, rooms_with rooms held)
