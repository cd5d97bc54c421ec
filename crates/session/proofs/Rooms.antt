-- What is held, put back into the rooms that it came from. Assumes nothing.
use Prim.Native.Nat.{ℕ, ◌+◌, ◌≤◌}
use mathlib.Core.Path.{◌≡◌, refl, sym, ap, ap₂, ◌∙◌}
use mathlib.Core.List.{List, ◌++◌}
use native.Mathlib.Nat.{zero-add}
use lib.ListN.{length, take, drop, length-append, take-append-drop}
use lib.Seq.{paste, length-take-le, take-length}
use Rattle.chip.specs.Call.{Chip}
use Rattle.session_rooms.specs.declared.Counts.{Counts}
use Rattle.session.specs.Held.{with_chip, with_table, with_normal, with_overlay, with_line}
use Rattle.session.specs.Lent.{Rooms, rooms_of, counts_of, held_in, laid, left_in}
use Rattle.session.specs.Inner.{with_state, counted, HeldWithin}
use Rattle.session.specs.declared.session.Session.{Session}

-- a session with so many bytes of table and rows
abbrev pub with_counts : Session → Counts → Session
with_counts session counts = record { state = session.state; counts = counts; records = session.records }

-- bytes of a room at its front change nothing
laid_same : (room : List ℕ) (count : ℕ) → count ≤ length room → laid room (take count room) ≡ room
laid_same room count within =
    ap (λ (past : ℕ). take count room ++ drop past room) (length-take-le count room within) ∙ take-append-drop count room

-- how many bytes are there with others behind them
count_behind : (room bytes : List ℕ) (count : ℕ) → count ≤ length room → length (take count room ++ bytes) ≡ count + length bytes
count_behind room bytes count within =
    length-append (take count room) bytes ∙ ap (λ (front : ℕ). front + length bytes) (length-take-le count room within)

-- a copy of bytes behind those that are there
laid_behind : (room bytes : List ℕ) (count : ℕ) → count ≤ length room
    → laid room (take count room ++ bytes) ≡ paste room count bytes (length bytes)
laid_behind room bytes count within =
    ap (λ (past : ℕ). (take count room ++ bytes) ++ drop past room) (count_behind room bytes count within)
    ∙ ap (λ (copied : List ℕ). (take count room ++ copied) ++ drop (count + length bytes) room) (sym (take-length bytes))

-- a copy of bytes in place of those that are there
laid_anew : (room bytes : List ℕ) → laid room bytes ≡ paste room 0 bytes (length bytes)
laid_anew room bytes =
    ap₂ (λ (copied : List ℕ) (past : ℕ). copied ++ drop past room) (sym (take-length bytes)) (sym (zero-add (length bytes)))

module _ (session : Session) (rooms : Rooms) (within : HeldWithin session rooms) where
  -- the table bytes that are held, put back, leave the room as it was
  table_back : laid rooms.table (take session.counts.table rooms.table) ≡ rooms.table
  table_back = laid_same rooms.table session.counts.table within.table_within

  -- the normal row that is held, put back, leaves the room as it was
  normal_back : laid rooms.normal (take session.counts.normal rooms.normal) ≡ rooms.normal
  normal_back = laid_same rooms.normal session.counts.normal within.normal_within

  -- the overlay row that is held, put back, leaves the room as it was
  overlay_back : laid rooms.overlay (take session.counts.overlay rooms.overlay) ≡ rooms.overlay
  overlay_back = laid_same rooms.overlay session.counts.overlay within.overlay_within

  -- as many table bytes are held as the session counts
  pub table_count : length (take session.counts.table rooms.table) ≡ session.counts.table
  table_count = length-take-le session.counts.table rooms.table within.table_within

  -- as many bytes of the normal row are held as the session counts
  normal_count : length (take session.counts.normal rooms.normal) ≡ session.counts.normal
  normal_count = length-take-le session.counts.normal rooms.normal within.normal_within

  -- as many bytes of the overlay row are held as the session counts
  overlay_count : length (take session.counts.overlay rooms.overlay) ≡ session.counts.overlay
  overlay_count = length-take-le session.counts.overlay rooms.overlay within.overlay_within

  -- what is held, put back, leaves session and rooms as they were
  pub back : left_in rooms (held_in session rooms) ≡ (session, rooms)
  back = rw (table_back, normal_back, overlay_back, table_count, normal_count, overlay_count) refl

  -- a record that changed the chip leaves its state and store, and one record more
  pub back_chip : (chip : Chip)
      → left_in rooms (with_chip (held_in session rooms) chip)
      ≡ (counted (with_state session chip.0), rooms_of chip.1 rooms.table rooms.normal rooms.overlay rooms.output)
  back_chip chip = rw (table_back, normal_back, overlay_back, table_count, normal_count, overlay_count) refl

  -- a line leaves the state and the output, and one record more
  pub back_line : (chip : Chip) (output : List ℕ)
      → left_in rooms (with_line (held_in session rooms) chip output)
      ≡ (counted (with_state session chip.0), rooms_of chip.1 rooms.table rooms.normal rooms.overlay output)
  back_line chip output = rw (table_back, normal_back, overlay_back, table_count, normal_count, overlay_count) refl

  -- table bytes are copied behind those that are there, and counted
  pub back_table : (bytes : List ℕ)
      → left_in rooms (with_table (held_in session rooms) (take session.counts.table rooms.table ++ bytes))
      ≡ (
        counted (with_counts session (counts_of (session.counts.table + length bytes) session.counts.normal session.counts.overlay)),
        rooms_of rooms.store (paste rooms.table session.counts.table bytes (length bytes)) rooms.normal rooms.overlay rooms.output,
      )
  back_table bytes =
      rw (
        laid_behind rooms.table bytes session.counts.table within.table_within,
        count_behind rooms.table bytes session.counts.table within.table_within,
        normal_back,
        overlay_back,
        normal_count,
        overlay_count,
      ) refl

  -- a normal row is copied to the front of its room, and counted
  pub back_normal : (bytes : List ℕ)
      → left_in rooms (with_normal (held_in session rooms) bytes)
      ≡ (
        counted (with_counts session (counts_of session.counts.table (length bytes) session.counts.overlay)),
        rooms_of rooms.store rooms.table (paste rooms.normal 0 bytes (length bytes)) rooms.overlay rooms.output,
      )
  back_normal bytes = rw (laid_anew rooms.normal bytes, table_back, overlay_back, table_count, overlay_count) refl

  -- an overlay row is copied to the front of its room, and counted
  pub back_overlay : (bytes : List ℕ)
      → left_in rooms (with_overlay (held_in session rooms) bytes)
      ≡ (
        counted (with_counts session (counts_of session.counts.table session.counts.normal (length bytes))),
        rooms_of rooms.store rooms.table rooms.normal (paste rooms.overlay 0 bytes (length bytes)) rooms.output,
      )
  back_overlay bytes = rw (laid_anew rooms.overlay bytes, table_back, normal_back, table_count, normal_count) refl
