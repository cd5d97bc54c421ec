-- What comes of what a window entry says: nothing is asked for, and only an undefined entry is refused. Assumes nothing.
use Prim.Native.Nat.{ℕ}
use mathlib.Core.Path.{◌≡◌, refl}
use Rattle.std.specs.Prelude.{Option, Some, None}
use Rattle.rules.specs.Rule.{refused, run}
use Rattle.rules.specs.Faults.{Numbered}
use Rattle.rules.proofs.Cases.{impossible}
use Rattle.rules.proofs.Asks.{Asks}
use Rattle.refusals.specs.Refusal.{numbered}
use Rattle.refusals.specs.declared.Refusal.TheVariants.{UndefinedEntry}
use Rattle.line_colour.specs.declared.entry.WindowEntry.{WindowEntry}
use Rattle.line.specs.Cells.{Cell}
use Rattle.line.specs.Line.{defined_at}

-- it asks for no cell
pub asks_nothing : (Allowed : Cell → Type 0) (x : ℕ) (said : Option WindowEntry) → Asks Allowed (defined_at x said)
asks_nothing Allowed x (Some entry) = tt
asks_nothing Allowed x None = tt

-- where it refuses, the entry is undefined, and the refusal is 9 at the pixel
pub refuses_undefined : (memory : Cell → ℕ) (x : ℕ) (said : Option WindowEntry) {refusal : Numbered} → run memory (defined_at x said) ≡ refused refusal
    → (said ≡ None) × (refusal ≡ numbered (UndefinedEntry x))
refuses_undefined memory x (Some entry) e = impossible (cc)
refuses_undefined memory x None e = (refl, cc)
