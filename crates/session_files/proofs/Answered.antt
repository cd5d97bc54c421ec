-- From a session's start no call is refused. Assumes nothing.
use Prim.Native.Nat.{ℕ, ◌≤◌}
use mathlib.Core.Path.{◌≡◌, refl, sym, ap, subst, ◌∙◌}
use mathlib.Core.Bool.{Bool}
use mathlib.Core.List.{List}
use native.Mathlib.Omega.{arith}
use borrow.Author.Tests.{le-ltb, eq-eqb}
use lib.ListN.{length, drop, length-append, length-drop}
use Rattle.rules.specs.Rule.{ok}
use Rattle.rules.specs.Faults.{Clear}
use Rattle.rules.proofs.Faults.{none_holds}
use Rattle.chip_registers.specs.Store.{store_length}
use Rattle.session_records.specs.Tags.{longest_table, longest_normal, longest_overlay}
use Rattle.session_answers.specs.Status.{Status}
use Rattle.session_rooms.specs.Rooms.{longest_line, too_much_held, room_faults}
use Rattle.session.specs.Held.{Held, nothing_held}
use Rattle.session.specs.Record.{stepped}
use Rattle.session.specs.Lent.{Rooms, held_in, laid, rooms_with, session_of}
use Rattle.session.specs.Step.{step_faults, Left, after_step, session_step}
use Rattle.session.specs.Inner.{HeldWithin}
use Rattle.session.specs.declared.session.Session.{Session}
use Rattle.session_files.specs.Calls.{Zeroed, RightLengths, Roomy}
use Rattle.session_files.proofs.Calls.{held_again, first_held}
use Rattle.session_files.proofs.Sizes.{empty_roomy, stays_roomy, stays_long}

-- a session and rooms at which no call is refused: what is held has its sizes and lies within rooms of the right lengths
pub record Ready (session : Session) (rooms : Rooms) : Type 0 where
  pub roomy : Roomy (held_in session rooms)
  pub within : HeldWithin session rooms
  pub right : RightLengths rooms

-- none of a call's faults is there
pub roomy_clear : {session : Session} {rooms : Rooms} → Ready session rooms → Clear (step_faults session rooms)
unfolding too_much_held room_faults
roomy_clear {session} {rooms} ready =
    let right = ready.right in
    let inside = ready.within in
    let roomy = ready.roomy in (
      rw (
        le-ltb longest_table session.counts.table (omega (arith, right.table_long, inside.table_within)),
        le-ltb longest_normal session.counts.normal (omega (arith, right.normal_long, inside.normal_within)),
        le-ltb longest_overlay session.counts.overlay (omega (arith, right.overlay_long, inside.overlay_within)),
      ) refl,
      (
        rw (eq-eqb (length rooms.store) store_length roomy.store_long) refl,
        (
          rw (eq-eqb (length rooms.table) longest_table right.table_long) refl,
          (
            rw (eq-eqb (length rooms.normal) longest_normal right.normal_long) refl,
            (
              rw (eq-eqb (length rooms.overlay) longest_overlay right.overlay_long) refl,
              (rw (eq-eqb (length rooms.output) longest_line right.output_long) refl, tt),
            ),
          ),
        ),
      ),
    )

-- a room is as long with bytes at its front that fit into it
laid_length : (room bytes : List ℕ) → length bytes ≤ length room → length (laid room bytes) ≡ length room
laid_length room bytes fits = omega (arith, length-append bytes (drop (length bytes) room), length-drop (length bytes) room)

-- what has its sizes, put into rooms of the right lengths, is ready for the next call
put_ready : (held : Held) (rooms : Rooms) → Roomy held → RightLengths rooms → length held.output ≡ longest_line → Ready (session_of held) (rooms_with rooms held)
put_ready held rooms roomy right long =
    let table_same = laid_length rooms.table held.table (rw right.table_long roomy.table_held) in
    let normal_same = laid_length rooms.normal held.normal (rw right.normal_long roomy.normal_held) in
    let overlay_same = laid_length rooms.overlay held.overlay (rw right.overlay_long roomy.overlay_held) in
    record {
      roomy = subst Roomy (sym (held_again rooms held)) roomy;
      within = record {
        table_within = rw (table_same, right.table_long) roomy.table_held;
        normal_within = rw (normal_same, right.normal_long) roomy.normal_held;
        overlay_within = rw (overlay_same, right.overlay_long) roomy.overlay_held;
      };
      right = record {
        table_long = table_same ∙ right.table_long;
        normal_long = normal_same ∙ right.normal_long;
        overlay_long = overlay_same ∙ right.overlay_long;
        output_long = long;
      };
    }

-- what an answered call leaves
abbrev pub left : Session → Rooms → List ℕ → ℕ → Bool → Left
left session rooms bytes place last = (after_step session rooms bytes place last).0

module _ (session : Session) (rooms : Rooms) (bytes : List ℕ) (place : ℕ) (last : Bool) (ready : Ready session rooms) where
  -- a call is answered, at any place of any bytes
  pub call_answered : let done = after_step session rooms bytes place last in session_step session rooms bytes place last ≡ (done.0, ok done.1)
  unfolding session_step
  call_answered = none_holds ((session, place), rooms) (after_step session rooms bytes place last) (step_faults session rooms) (roomy_clear ready)

  -- it answers what the step over what is held comes to
  pub call_comes : {status : Status} → (stepped last (held_in session rooms) (drop place bytes)).1 ≡ status
      → session_step session rooms bytes place last ≡ (left session rooms bytes place last, ok status)
  unfolding after_step
  call_comes e = call_answered ∙ ap (λ (status : Status). (left session rooms bytes place last, ok status)) e

  -- what a call leaves is ready for the next
  pub stays_ready : let after = left session rooms bytes place last in Ready after.0.0 after.1
  unfolding after_step
  stays_ready =
      put_ready (stepped last (held_in session rooms) (drop place bytes)).0.0 rooms
      (stays_roomy last (held_in session rooms) (drop place bytes) ready.roomy) ready.right
      (stays_long last (held_in session rooms) (drop place bytes) ∙ ready.right.output_long)

-- a new session is ready in rooms of the right lengths with a zeroed store
pub first_ready : {rooms : Rooms} → Zeroed rooms → RightLengths rooms → Ready (session_of nothing_held) rooms
first_ready {rooms} zeroed right =
    record {
      roomy = subst Roomy (sym (first_held rooms zeroed)) (empty_roomy rooms.output);
      within = record { table_within = omega arith; normal_within = omega arith; overlay_within = omega arith };
      right = right;
    }
