-- No second answer meets a contract of this crate. Assumes nothing.
use Prim.Native.Nat.{ℕ}
use mathlib.Core.Path.{◌≡◌, refl, sym, ap₂, ◌∙◌}
use mathlib.Core.List.{List}
use seplogic.Ra.Ura.{Ura}
use base.Logic.{SProp}
use prog.Memory.{Memory}
use prog.Routine.{Routine}
use types.Logic.{Logic}
use contract.Lifetimes.{Lfts}
use contract.Monad.{Fun, fact}
use denote.Ref.{Bor}
use denote.Triple.Entry.{Args, Res}
use denote.Triple.Clauses.{AtExit}
use lib.ListN.{drop}
use Rattle.rules.specs.Unique.{OneAnswer}
use Rattle.rules.proofs.Unique.{by_equation}
use Rattle.session_records.specs.RecordAt.{record_at}
use Rattle.session_reader.specs.contracts.Reader.at as reader_at
use Rattle.session_reader.specs.contracts.Reader.next as next
use Rattle.session_reader.proofs.read.Reads as read

-- one answer alone meets the contract of `read`
pub read_unique : OneAnswer read.Post
read_unique = by_equation _ _

-- ---- the functions that are proved by hand: what each ensures, and that its contract says just that

-- the reader holds the lent bytes themselves, and the place
abbrev ReaderAt : (κs : Lfts 1) → Args reader_at.signature κs → Res reader_at.signature κs → AtExit reader_at.ended κs → Type 0
ReaderAt κs given reader exit = (reader.bytes ≡ given.0) × (reader.place ≡ given.1.0)

-- what is found is what stands at the reader's place
abbrev Next : (κs : Lfts 1) → Args next.signature κs → Res next.signature κs → AtExit next.ended κs → Type 0
Next κs given answer exit = answer ≡ record_at given.1.0 (drop given.0.place given.0.bytes.now)

module _ {M : Type 1} {𝓤 : Ura M} (𝓛 : Logic 𝓤) (mem : Memory → SProp 𝓤) (run : Routine → Fun 𝓤) (κs : Lfts 1) where
  -- the contract of `Reader::at` ensures this
  reader_at_says : (given : Args reader_at.signature κs) (reader : Res reader_at.signature κs) (exit : AtExit reader_at.ended κs)
      → (reader_at.clauses 𝓛 mem run κs given).ensures tt reader exit ≡ fact 𝓤 (ReaderAt κs given reader exit)
  reader_at_says given reader exit = refl

  -- the contract of `Reader::next` ensures this
  next_says : (given : Args next.signature κs) (answer : Res next.signature κs) (exit : AtExit next.ended κs)
      → (next.clauses 𝓛 mem run κs given).ensures tt answer exit ≡ fact 𝓤 (Next κs given answer exit)
  next_says given answer exit = refl

-- one reader alone meets the contract of `Reader::at`
pub at_unique : OneAnswer ReaderAt
at_unique κs given reader other exit exit' p q =
    ap₂ (λ (bytes : Bor (List ℕ)) (place : ℕ). record { bytes = bytes; place = place }) (p.0 ∙ sym q.0) (p.1 ∙ sym q.1)

-- one answer alone meets the contract of `Reader::next`
pub next_unique : OneAnswer Next
next_unique = by_equation _ _
