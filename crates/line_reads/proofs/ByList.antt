-- Demand 3 by the list: two lines that go by the same and agree on the cells that are listed for the first have one answer. Assumes nothing.
use Prim.Native.Nat.{ℕ}
use mathlib.Core.Path.{◌≡◌, subst}
use mathlib.Core.List.{List, Memᴰ}
use lib.ListN.{length}
use Rattle.line_setup.specs.declared.setup.Setup.{Setup}
use Rattle.line.specs.Cells.{Cell, Lent}
use Rattle.line.specs.Line.{line_of}
use Rattle.line.specs.Drawn.{setup_of, drawn}
use Rattle.line.specs.declared.request.Request.{Request}
use Rattle.line_reads.specs.Calls.{controls_in, SameLengths, SameCall, AgreeOnReads, DrawnAlike}
use Rattle.line_reads.specs.Listed.{Listed, AgreeOnList}
use Rattle.line_reads.proofs.Demand.{line_rests, line_reads}
use Rattle.line_reads.proofs.OnlyListed.{reads_listed}
use Rattle.line_reads.proofs.AllListed.{listed_reads}
use Rattle.line_reads.proofs.Alike.{drawn_alike, drawn_rests}

module _ (setup : Setup) (lent other : Lent) (agree : AgreeOnList setup lent other) where
  -- lents that agree on what is listed agree on the cells that the line reads
  pub on_reads : AgreeOnReads setup lent other
  on_reads = λ cell here. agree cell (reads_listed setup lent cell here)

  -- then the line has one outcome
  pub line_rests_on_list : line_of setup lent ≡ line_of setup other
  line_rests_on_list = line_rests setup lent other on_reads

  -- what is listed for the first line is listed for the second
  pub same_list : (cell : Cell) → Listed setup lent cell → Listed setup other cell
  same_list cell listed =
      reads_listed setup other cell
      (subst (Memᴰ cell) (line_reads setup lent other on_reads) (listed_reads setup lent cell listed))

-- two calls that go by the same and agree on the cells listed for the first answer and draw the same, whatever their outputs held
pub alike_on_list : (request again : Request) (lent other : Lent) (output old : List ℕ) → SameCall request again lent other output old
    → AgreeOnList (setup_of request lent (length output)) lent other → DrawnAlike request again lent other output old
alike_on_list request again lent other output old same agree =
    drawn_alike request again lent other output old same (on_reads (setup_of request lent (length output)) lent other agree)

-- the same call with other memory leaves and answers the same: state, output and answer
pub drawn_rests_on_list : (request : Request) (lent other : Lent) → SameLengths (controls_in request) lent other → (output : List ℕ)
    → AgreeOnList (setup_of request lent (length output)) lent other → drawn request lent output ≡ drawn request other output
drawn_rests_on_list request lent other same output agree =
    drawn_rests request lent other same output (on_reads (setup_of request lent (length output)) lent other agree)
