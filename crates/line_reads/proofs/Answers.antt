-- A line's answer and what it leaves: a refusal exactly for its reasons, the state always as it was, and the output of a refused line. Assumes nothing.
use Prim.Native.Nat.{ℕ}
use mathlib.Core.Path.{◌≡◌, refl, ap}
use mathlib.Core.Bool.{true, false, not}
use mathlib.Core.List.{List, []}
use native.Mathlib.Omega.{arith}
use lib.ListN.{length}
use Rattle.rules.specs.Rule.{Outcome, ok, refused}
use Rattle.rules.specs.Faults.{Numbered}
use Rattle.rules.proofs.Cases.{impossible}
use Rattle.rules.proofs.Faults.{first_holding}
use Rattle.refusals.specs.Refusal.{numbered, fault}
use Rattle.refusals.specs.declared.Refusal.TheVariants.{BadState}
use Rattle.chip.specs.State.{good_state}
use Rattle.line_setup.specs.Faults.{length_faults, line_faults}
use Rattle.line_setup.specs.declared.setup.Setup.{Setup}
use Rattle.line.specs.Cells.{Lent}
use Rattle.line.specs.Line.{line_of}
use Rattle.line.specs.Drawn.{setup_of, without_colours, output_after, drawn}
use Rattle.line.specs.declared.request.Request.{Request}
use Rattle.line_reads.specs.Reasons.{Reason, at_once, is_no_frame_entry, is_no_line_entry, is_undefined_entry}
use Rattle.line_reads.proofs.Reasons.{refused_for, for_refused}

-- a refusal whose number is not 11
abbrev pub Not11 : Numbered → Type 0
Not11 refusal = refusal.number ≡ 11 → ⊥

-- a line of a good state has reasons of other numbers only
not_11 : (setup : Setup) (lent : Lent) → setup.good ≡ true → {refusal : Numbered} → Reason setup lent refusal → Not11 refusal
unfolding line_faults length_faults
not_11 setup lent good (at_once found) =
    first_holding Not11 (
      λ bad. impossible (cc),
      (λ h e. omega arith, (λ h e. omega arith, (λ h e. omega arith, (λ h e. omega arith, (λ h e. omega arith, (λ h e. omega arith, (λ h e. omega arith, tt))))))),
    )
    found
not_11 setup lent good (is_no_frame_entry clear none is) = rw is (λ e. omega arith)
not_11 setup lent good (is_no_line_entry clear x comes none is) = rw is (λ e. omega arith)
not_11 setup lent good (is_undefined_entry clear x comes at is) = rw is (λ e. omega arith)

-- ---- the state and the output

module _ (request : Request) (lent : Lent) (output : List ℕ) where
  -- what the line goes by
  abbrev given : Setup
  given = setup_of request lent (length output)

  -- the state is handed back as it was
  pub state_stays : (drawn request lent output).0.0 ≡ request.state
  unfolding drawn
  state_stays = refl

  -- what is said of a line that is refused is its refusal
  said_refused : (line : Outcome Numbered (List ℕ)) {refusal : Numbered} → without_colours line ≡ refused refusal → line ≡ refused refusal
  said_refused (ok colours) e = impossible (cc)
  said_refused (refused refusal) e = cc

  -- the answer is a refusal only for a reason
  pub answer_for : {refusal : Numbered} → (drawn request lent output).1 ≡ refused refusal → Reason given lent refusal
  unfolding drawn
  answer_for e = refused_for given lent (said_refused (line_of given lent) e)

  -- whatever reason there is, the answer is the refusal that it names
  pub for_answer : {refusal : Numbered} → Reason given lent refusal → (drawn request lent output).1 ≡ refused refusal
  unfolding drawn
  for_answer reason = ap without_colours (for_refused given lent reason)

  -- a line that is refused leaves the output as it was
  pub output_stays : {refusal : Numbered} → (drawn request lent output).1 ≡ refused refusal → (drawn request lent output).0.1 ≡ output
  unfolding drawn
  output_stays e = ap (output_after given.controls.width output) (said_refused (line_of given lent) e)

  -- a line of a good state is never refused by 11
  pub good_not_11 : good_state request.state ≡ true → {refusal : Numbered} → (drawn request lent output).1 ≡ refused refusal → Not11 refusal
  unfolding setup_of
  good_not_11 good e = not_11 given lent good (answer_for e)

  -- one of any other state always is
  pub bad_11 : good_state request.state ≡ false → (drawn request lent output).1 ≡ refused (numbered BadState)
  unfolding setup_of line_faults
  bad_11 bad =
      for_answer
      (at_once (record { passed = []; found = fault BadState (not (good_state request.state)); later = _; order = refl; clear = tt; holds = rw bad refl; is = refl }))
