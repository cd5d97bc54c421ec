-- Demand 3: two lines that go by the same and agree on the cells that the first line reads have one outcome. Assumes nothing.
use Prim.Native.Nat.{ℕ}
use mathlib.Core.Path.{◌≡◌, refl, ap, ◌∙◌}
use mathlib.Core.Bool.{Bool, true, false}
use mathlib.Core.List.{List}
use Rattle.rules.specs.Rule.{Rule, run, reads}
use Rattle.rules.specs.Faults.{Numbered}
use Rattle.rules.proofs.Rests.{same_run, same_reads}
use Rattle.line_setup.specs.Faults.{table_too_long, overlay_wrong, length_faults, line_faults}
use Rattle.line_setup.specs.declared.setup.Setup.{Setup}
use Rattle.line.specs.Cells.{Cell, Lent, view}
use Rattle.line.specs.Line.{start_of, id_at, window_entry_at, entries_of, colours_of, line_rule, line_of}
use Rattle.line.specs.Drawn.{setup_of}
use Rattle.line.specs.declared.request.Request.{Request}
use Rattle.line_reads.specs.Calls.{controls_in, SameAsked, SameLengths, AgreeOnReads}

module _ (setup : Setup) (lent other : Lent) (agree : AgreeOnReads setup lent other) where
  -- the line has one outcome: the same colours, or the same refusal at the same place
  pub line_rests : line_of setup lent ≡ line_of setup other
  unfolding line_of
  line_rests = same_run (view lent) (view other) (line_rule setup) agree

  -- and it reads the same cells of both
  pub line_reads : reads (view lent) (line_rule setup) ≡ reads (view other) (line_rule setup)
  line_reads = same_reads (view lent) (view other) (line_rule setup) agree

-- ---- by what is asked for

-- of the state only the control words count, and whether it keeps its rule
setup_rests : (request again : Request) → SameAsked request again → (lent : Lent) (output : ℕ) → setup_of request lent output ≡ setup_of again lent output
unfolding setup_of
setup_rests request again asked lent output = rw (asked.good, asked.control, asked.y) refl

-- the rule of a line rests on lengths as far as they are looked at
length_rests : (request : Request) (lent other : Lent) → SameLengths (controls_in request) lent other → (output : ℕ)
    → line_rule (setup_of request lent output) ≡ line_rule (setup_of request other output)
unfolding setup_of line_rule line_faults length_faults overlay_wrong table_too_long entries_of colours_of start_of window_entry_at id_at
length_rests request lent other same output = by (controls_in request).ids (controls_in request).overlay refl refl
  where
    -- the lengths of table and overlay row count where they are on
    by : (ids overlay : Bool) → (controls_in request).ids ≡ ids → (controls_in request).overlay ≡ overlay
        → line_rule (setup_of request lent output) ≡ line_rule (setup_of request other output)
    by true true e f = rw (same.store, same.table e, same.normal, same.overlay f) refl
    by true false e f = rw (f, same.store, same.table e, same.normal) refl
    by false true e f = rw (e, same.store, same.normal, same.overlay f) refl
    by false false e f = rw (e, f, same.store, same.normal) refl

-- two calls that ask for the same
module _ (request again : Request) (asked : SameAsked request again) (lent other : Lent) (same : SameLengths (controls_in request) lent other) (output : ℕ) where
  -- the rule of the line is one for both
  pub rule_rests : line_rule (setup_of request lent output) ≡ line_rule (setup_of again other output)
  rule_rests = length_rests request lent other same output ∙ ap line_rule (setup_rests request again asked other output)

  -- where they agree on the cells that the first line reads, both lines have one outcome
  pub outcome_rests : AgreeOnReads (setup_of request lent output) lent other → line_of (setup_of request lent output) lent ≡ line_of (setup_of again other output) other
  unfolding line_of
  outcome_rests agree =
      line_rests (setup_of request lent output) lent other agree ∙ ap (λ (rule : Rule Numbered Cell (List ℕ)). run (view other) rule) rule_rests
