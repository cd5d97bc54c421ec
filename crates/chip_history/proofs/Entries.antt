-- A map entry holds the colour of the last write applied to it, or what it held before. Assumes nothing.
use Prim.Native.Nat.{ℕ, zero, suc, ◌+◌, ◌<◌}
use mathlib.Core.Path.{◌≡◌, refl, ap, sym, ◌∙◌}
use mathlib.Core.Bool.{Bool, true, false, cond, ◌&&◌}
use mathlib.Core.List.{List, [], ◌∷◌, ◌++◌, append_assoc}
use native.Mathlib.Omega.{arith}
use borrow.Author.Tests.{eqb-true, eqb-false, eq-eqb}
use lib.Dec.{ltb, eqb}
use lib.ListN.{length, get_or, set}
use lib.Seq.{get_or-set_same, get_or-set_other}
use Rattle.rules.specs.Lists.{joined}
use Rattle.rules.proofs.Cases.{impossible}
use Rattle.chip_registers.specs.Blocks.{count}
use Rattle.chip_registers.specs.Store.{in_store, store_start, store_length}
use Rattle.chip_registers.specs.declared.Block.{Block}
use Rattle.chip_registers.specs.declared.Block.TheVariants.{Control, WindowEntries, ColourMap, GammaMap, CursorGlyph, CursorColours}
use Rattle.chip_registers.proofs.Store.{map_entry_apart}
use Rattle.chip_queue.specs.Queue.{oldest}
use Rattle.chip_queue.specs.Waiting.{target}
use Rattle.chip_queue.specs.declared.Waiting.{Waiting}
use Rattle.chip.specs.State.{fresh, HasArrays}
use Rattle.chip.specs.Call.{Chip}
use Rattle.chip.specs.Write.{put}
use Rattle.chip.specs.Dot.{signals_of, drains, oldest_applied, after_dot}
use Rattle.chip.proofs.Good.{fresh_whole}
use Rattle.chip.proofs.CallCheck.{allowed_says}
use Rattle.chip_history.specs.Calls.{Call, end}
use Rattle.chip_history.specs.Ledger.{front, applied, latest}
use Rattle.chip_history.proofs.Calls.{Law, law_calls}

-- lists that are joined part by part
joined_then : (dark dark' : List (List Waiting)) → joined (dark ++ dark') ≡ joined dark ++ joined dark'
joined_then [] dark' = refl
joined_then (some ∷ dark) dark' = ap (λ (rest : List Waiting). some ++ rest) (joined_then dark dark') ∙ sym (append_assoc some (joined dark) (joined dark'))

module _ (entry : ℕ) where
  -- some writes and then others
  latest_then : (writes others : List Waiting) (held : ℕ) → latest entry (writes ++ others) held ≡ latest entry others (latest entry writes held)
  latest_then [] others held = refl
  latest_then (next ∷ writes) others held = latest_then writes others (cond (eqb next.word entry) next.value held)

  -- where the last of some lists is one write to the entry, its colour is what the entry holds after all of them
  pub latest_last : (dark : List (List Waiting)) (k : ℕ) (last : Waiting) (held : ℕ) → length dark ≡ suc k → get_or dark k [] ≡ last ∷ [] → last.word ≡ entry
      → latest entry (joined dark) held ≡ last.value
  latest_last [] k last held size is same = absurd (omega arith)
  latest_last (some ∷ []) zero last held size is same = rw (is, eq-eqb last.word entry same) refl
  latest_last (some ∷ []) (suc k) last held size is same = absurd (omega arith)
  latest_last (some ∷ next ∷ dark) zero last held size is same = absurd (omega arith)
  latest_last (some ∷ next ∷ dark) (suc k) last held size is same =
      latest_then some (joined (next ∷ dark)) held ∙ latest_last (next ∷ dark) k last (latest entry some held) (omega arith) is same

  -- what the map entry holds in a store
  abbrev held_in : List ℕ → ℕ
  held_in store = get_or store (store_start ColourMap + entry) 0

  module _ (here : entry < count ColourMap) where
    -- a word of another block is not the entry
    other_block : (block : Block) (word value : ℕ) (store : List ℕ) → in_store block ≡ true → (block ≡ ColourMap → ⊥) → word < count block
        → held_in (set store (store_start block + word) value) ≡ held_in store
    other_block block word value store stored other below =
        get_or-set_other store (store_start block + word) (store_start ColourMap + entry) value 0
        (λ e. map_entry_apart (record { block = block; word = word }) entry stored other below here (sym e))

    -- no write acts on the entry at once
    put_holds : (chip : Chip) (block : Block) (word value : ℕ) → word < count block
        → held_in (put chip (record { block = block; word = word }) value).1 ≡ held_in chip.1
    put_holds chip Control word value below = refl
    put_holds chip WindowEntries word value below = other_block WindowEntries word value chip.1 refl (λ e. impossible (cc)) below
    put_holds chip ColourMap word value below = refl
    put_holds chip GammaMap word value below = other_block GammaMap word value chip.1 refl (λ e. impossible (cc)) below
    put_holds chip CursorGlyph word value below = other_block CursorGlyph word value chip.1 refl (λ e. impossible (cc)) below
    put_holds chip CursorColours word value below = other_block CursorColours word value chip.1 refl (λ e. impossible (cc)) below

    -- a write that is applied acts on its own entry alone
    write_holds : (store : List ℕ) (write : Waiting) → length store ≡ store_length
        → held_in (set store (target write) write.value) ≡ cond (eqb write.word entry) write.value (held_in store)
    write_holds store write size = by (eqb write.word entry) refl
      where
        -- by whether the write is to the entry
        by : (same : Bool) → eqb write.word entry ≡ same → held_in (set store (target write) write.value) ≡ cond same write.value (held_in store)
        by true e = rw (eqb-true write.word entry e) (get_or-set_same store (store_start ColourMap + entry) write.value 0 (omega arith))
        by false e =
            get_or-set_other store (target write) (store_start ColourMap + entry) write.value 0 (λ same. eqb-false write.word entry e (omega arith))

    -- a blanked dot applies the oldest write, if something waits
    step_holds : (chip : Chip) (blank : Bool) → length chip.1 ≡ store_length
        → let queue = chip.0.queue in
        held_in (cond (blank && ltb 0 queue.waiting) (oldest_applied chip) chip).1 ≡ latest entry (joined (cond blank (front queue ∷ []) [])) (held_in chip.1)
    step_holds chip false size = refl
    step_holds chip true size = by (ltb 0 chip.0.queue.waiting)
      where
        -- by whether something waits
        by : (some : Bool)
            → held_in (cond some (oldest_applied chip) chip).1 ≡ latest entry (joined (cond some (oldest chip.0.queue ∷ []) [] ∷ [])) (held_in chip.1)
        by true = write_holds chip.1 (oldest chip.0.queue) size
        by false = refl

    -- the entry after, by what was applied
    abbrev Held : Chip → List (List Waiting) → List Waiting → Chip → Type 0
    Held first dark took last = held_in last.1 ≡ latest entry (joined dark) (held_in first.1)

    -- an entry of the map goes by the applied writes alone
    holds : Law Held
    unfolding after_dot drains
    holds =
        record {
          none = λ chip. refl;
          then = λ first middle last dark dark' took took' p q.
              q ∙ ap (latest entry (joined dark')) p ∙ sym (rw (joined_then dark dark') (latest_then (joined dark) (joined dark') (held_in first.1)));
          puts = λ chip address value register whole p. put_holds chip register.block register.word value p.here;
          step = λ chip whole on. step_holds chip (signals_of chip.0).blank (allowed_says chip.0 (length chip.1) on).1;
        }

    -- after any calls a map entry holds the colour of the last write applied to it, or what it held before
    pub map_entry : (chip : Chip) (calls : List Call) → HasArrays chip.0
        → get_or (end chip calls).1 (store_start ColourMap + entry) 0 ≡ latest entry (applied chip calls) (get_or chip.1 (store_start ColourMap + entry) 0)
    map_entry = law_calls Held holds

    -- from a fresh state on, the entry holds the colour of the last applied write to it, or what it held in the store
    pub fresh_map_entry : (store : List ℕ) (calls : List Call)
        → get_or (end (fresh, store) calls).1 (store_start ColourMap + entry) 0
        ≡ latest entry (applied (fresh, store) calls) (get_or store (store_start ColourMap + entry) 0)
    fresh_map_entry store calls = map_entry (fresh, store) calls fresh_whole
