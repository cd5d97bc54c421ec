-- Sequences of calls: they keep the arrays' sizes, and what holds of every write and every dot holds of every sequence. Assumes nothing.
use Prim.Native.Nat.{ℕ, zero, suc}
use mathlib.Core.Path.{◌≡◌, refl, sym, subst}
use mathlib.Core.List.{List, [], ◌∷◌, ◌++◌}
use lib.ListN.{replicate}
use Rattle.std.specs.Prelude.{Some, Option}
use Rattle.rules.specs.Rule.{Outcome, ok, refused}
use Rattle.rules.specs.Faults.{Numbered}
use Rattle.chip_registers.specs.declared.Register.{Register}
use Rattle.chip_queue.specs.declared.Waiting.{Waiting}
use Rattle.chip.specs.State.{HasArrays}
use Rattle.chip.specs.Call.{Chip}
use Rattle.chip.specs.Write.{put, written}
use Rattle.chip.specs.Dot.{signals_of, after_dot, dotted}
use Rattle.chip.specs.Dots.{ran}
use Rattle.chip.proofs.Good.{put_whole, dot_whole, dots_whole}
use Rattle.chip.proofs.CallCheck.{tested, GoesOn}
use Rattle.chip.proofs.Readings.{read_same}
use Rattle.chip.proofs.Runs.{dot_unfit, dot_done, dots_unfit, dots_done}
use Rattle.chip_history.specs.Calls.{Call, write, read, dot, dots, line, left_by, end}
use Rattle.chip_history.specs.Ledger.{colour_write, accepts, accepted, blanked_by, blanked_dots, blanks, blanked}
use Rattle.chip_history.proofs.Wrote.{Put, Wrote, nothing, into, wrote}
use Rattle.chip_history.proofs.DotByDot.{dots_as_dots}
use Rattle.chip_timing.specs.declared.Signals.{Signals}

-- ---- the arrays keep their sizes

-- a write leaves the arrays their sizes, refused or not
write_whole : (chip : Chip) (address value : ℕ) → HasArrays chip.0 → Wrote chip address value → HasArrays (written chip address value).0.0
write_whole chip address value whole (nothing same none) = rw same whole
write_whole chip address value whole (into register p) = rw p.left (put_whole chip register value whole p.free)

-- a dot leaves the arrays their sizes, refused or not
dotted_whole : (chip : Chip) → HasArrays chip.0 → HasArrays (dotted chip).0.0
dotted_whole chip whole = by (tested chip) refl
  where
    -- by whether the dot may go on
    by : (test : Outcome Numbered (Unit {0})) → tested chip ≡ test → HasArrays (dotted chip).0.0
    by (ok _) on = rw (dot_done chip on) (dot_whole chip whole)
    by (refused refusal) off = rw (dot_unfit chip refusal off) whole

-- every call leaves the arrays their sizes, refused or not
pub call_whole : (chip : Chip) (call : Call) → HasArrays chip.0 → HasArrays (left_by chip call).0
unfolding left_by
call_whole chip (write address value) whole = write_whole chip address value whole (wrote chip address value)
call_whole chip (read address) whole = subst (λ (left : Chip). HasArrays left.0) (sym (read_same chip address)) whole
call_whole chip dot whole = dotted_whole chip whole
call_whole chip (dots count) whole = by (tested chip) refl
  where
    -- by whether the run of dots may go on
    by : (test : Outcome Numbered (Unit {0})) → tested chip ≡ test → HasArrays (ran chip count).0.0
    by (ok _) on = rw (dots_done chip count on) (dots_whole count chip whole)
    by (refused refusal) off = rw (dots_unfit chip count refusal off) whole
call_whole chip line whole = whole

-- every sequence of calls leaves the arrays their sizes
pub stays_whole : (chip : Chip) (calls : List Call) → HasArrays chip.0 → HasArrays (end chip calls).0
unfolding end
stays_whole chip [] whole = whole
stays_whole chip (call ∷ calls) whole = stays_whole (left_by chip call) calls (call_whole chip call whole)

-- ---- from single writes and dots to sequences

-- what holds, of the chip before, what each blanked dot applied, what was accepted and the chip after, of no call, of calls and then others, of a value put and of a step
pub record Law (Holds : Chip → List (List Waiting) → List Waiting → Chip → Type 0) : Type 0 where
  pub none : (chip : Chip) → Holds chip [] [] chip
  pub then : (first middle last : Chip) (dark dark' : List (List Waiting)) (took took' : List Waiting)
      → Holds first dark took middle → Holds middle dark' took' last → Holds first (dark ++ dark') (took ++ took') last
  pub puts : (chip : Chip) (address value : ℕ) (register : Register) → HasArrays chip.0 → Put chip address value register
      → Holds chip [] (colour_write (Some register) value) (put chip register value)
  pub step : (chip : Chip) → HasArrays chip.0 → GoesOn chip → Holds chip (blanked_by (ok (Some (signals_of chip.0))) chip.0.queue) [] (after_dot chip)

module _ (Holds : Chip → List (List Waiting) → List Waiting → Chip → Type 0) (law : Law Holds) where
  -- the law holds of a write
  law_write : (chip : Chip) (address value : ℕ) → HasArrays chip.0 → Wrote chip address value
      → Holds chip [] (accepts chip (write address value)) (written chip address value).0
  law_write chip address value whole (nothing same none) = rw (same, none) (law.none chip)
  law_write chip address value whole (into register p) = rw (p.left, p.taken) (law.puts chip address value register whole p)

  -- the law holds of a dot that left this and answered so
  abbrev Dotted : Chip → Chip × Outcome Numbered (Option Signals) → Type 0
  Dotted chip all = Holds chip (blanked_by all.1 chip.0.queue) [] all.0

  -- the law holds of a dot
  law_dot : (chip : Chip) → HasArrays chip.0 → Dotted chip (dotted chip)
  law_dot chip whole = by (tested chip) refl
    where
      -- by whether the dot may go on
      by : (test : Outcome Numbered (Unit {0})) → tested chip ≡ test → Dotted chip (dotted chip)
      by (ok _) on = subst (Dotted chip) (sym (dot_done chip on)) (law.step chip whole on)
      by (refused refusal) off = subst (Dotted chip) (sym (dot_unfit chip refusal off)) (law.none chip)

  -- the law holds of so many dots
  law_dots : (count : ℕ) (chip : Chip) → HasArrays chip.0 → Holds chip (blanked_dots count chip) [] (end chip (replicate count dot))
  unfolding left_by end blanked_dots
  law_dots zero chip whole = law.none chip
  law_dots (suc count) chip whole =
      law.then chip (dotted chip).0 (end (dotted chip).0 (replicate count dot)) _ _ [] [] (law_dot chip whole)
      (law_dots count (dotted chip).0 (dotted_whole chip whole))

  -- the law holds of every call
  law_call : (chip : Chip) (call : Call) → HasArrays chip.0 → Holds chip (blanks chip call) (accepts chip call) (left_by chip call)
  unfolding left_by end accepts blanks
  law_call chip (write address value) whole = law_write chip address value whole (wrote chip address value)
  law_call chip (read address) whole = subst (Holds chip [] []) (sym (read_same chip address)) (law.none chip)
  law_call chip dot whole = law_dots 1 chip whole
  law_call chip (dots count) whole = rw (dots_as_dots chip count whole) (law_dots count chip whole)
  law_call chip line whole = law.none chip

  -- the law holds of every sequence of calls
  pub law_calls : (chip : Chip) (calls : List Call) → HasArrays chip.0 → Holds chip (blanked chip calls) (accepted chip calls) (end chip calls)
  unfolding end accepted blanked
  law_calls chip [] whole = law.none chip
  law_calls chip (call ∷ calls) whole =
      law.then chip (left_by chip call) (end (left_by chip call) calls) _ _ _ _ (law_call chip call whole)
      (law_calls (left_by chip call) calls (call_whole chip call whole))
