-- An overlay row where overlay is off, and a table where window IDs are off, may be any, of any length. Assumes nothing.
use Prim.Native.Nat.{ℕ}
use mathlib.Core.Path.{◌≡◌, refl}
use mathlib.Core.Bool.{false}
use mathlib.Core.List.{List}
use lib.ListN.{length}
use Rattle.rules.proofs.Cases.{impossible}
use Rattle.line_setup.specs.declared.setup.Setup.{Setup}
use Rattle.line.specs.Cells.{Lent}
use Rattle.line.specs.Drawn.{setup_of, drawn}
use Rattle.line.specs.declared.request.Request.{Request}
use Rattle.line_reads.specs.Calls.{controls_in}
use Rattle.line_reads.specs.Hidden.{other_table, other_overlay}
use Rattle.line_reads.proofs.ByList.{drawn_rests_on_list}
use Rattle.line_reads.proofs.Unseen.{seen_agree}
use Rattle.line_reads.proofs.HiddenCases.{store_same, rows_same, rows_off, fields_off}

module _ (request : Request) (lent : Lent) (output : List ℕ) where
  -- what the line goes by
  abbrev given : Setup
  given = setup_of request lent (length output)

  -- any overlay row, of any length, where overlay is off
  pub drawn_overlay_off : (controls_in request).overlay ≡ false → (row : List ℕ) → drawn request lent output ≡ drawn request (other_overlay lent row) output
  unfolding setup_of
  drawn_overlay_off off row =
      drawn_rests_on_list request lent (other_overlay lent row)
      (record { store = refl; table = λ on. refl; normal = refl; overlay = λ on. impossible (cc) }) output
      (seen_agree given lent (other_overlay lent row)
      (record { table = λ cell listed. refl; store = store_same given lent; rows = rows_off given lent row off }))

  -- any table, of any length, where window IDs are off
  pub drawn_table_off : (controls_in request).ids ≡ false → (table : List ℕ) → drawn request lent output ≡ drawn request (other_table lent table) output
  unfolding setup_of
  drawn_table_off off table =
      drawn_rests_on_list request lent (other_table lent table)
      (record { store = refl; table = λ on. impossible (cc); normal = refl; overlay = λ on. refl }) output
      (seen_agree given lent (other_table lent table)
      (record { table = fields_off given lent table off; store = store_same given lent; rows = rows_same given lent }))
