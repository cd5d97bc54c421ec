-- Lines among the calls of a sequence: what they leave, and that none is refused by 11. Assumes nothing.
use Prim.Native.Nat.{ℕ}
use mathlib.Core.Path.{◌≡◌, ap, sym}
use mathlib.Core.List.{List}
use Rattle.rules.specs.Rule.{refused}
use Rattle.rules.specs.Faults.{Numbered}
use Rattle.chip.specs.State.{fresh}
use Rattle.chip.specs.declared.state.State.{State}
use Rattle.chip.proofs.Good.{fresh_whole, fresh_good}
use Rattle.chip_history.specs.Calls.{Call, line, left_by, end}
use Rattle.chip_history.proofs.Stays.{stays_good}
use Rattle.line.specs.Cells.{lent_of}
use Rattle.line.specs.Drawn.{drawn}
use Rattle.line.specs.declared.request.Request.{Request}
use Rattle.line_reads.proofs.Answers.{Not11, state_stays, good_not_11}

module _ (request : Request) (table normal overlay output : List ℕ) where
  -- what a sequence says that a line leaves is the state that the line hands back, and the store that it is lent to read
  pub line_leaves : (store : List ℕ) → left_by (request.state, store) line ≡ ((drawn request (lent_of store table normal overlay) output).0.0, store)
  unfolding left_by
  line_leaves store = ap (λ (state : State). (state, store)) (sym (state_stays request (lent_of store table normal overlay) output))

  -- after any calls from a fresh state a line is not refused by 11
  pub line_never_bad : (store : List ℕ) (calls : List Call) → request.state ≡ (end (fresh, store) calls).0 → {refusal : Numbered}
      → (drawn request (lent_of (end (fresh, store) calls).1 table normal overlay) output).1 ≡ refused refusal → Not11 refusal
  line_never_bad store calls left is =
      good_not_11 request (lent_of (end (fresh, store) calls).1 table normal overlay) output
      (rw left (stays_good (fresh, store) calls fresh_whole fresh_good)) is
