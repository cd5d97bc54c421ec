-- What every pixel of a line goes by, in plain numbers of the control words: no origin is among them. Assumes nothing.
use Prim.Native.Nat.{ℕ, ◌/◌, ◌%◌}
use mathlib.Core.Path.{◌≡◌, refl}
use mathlib.Core.Bool.{cond}
use lib.Dec.{eqb}
use lib.ListN.{get_or}
use Rattle.line_setup.proofs.ControlFields.{switch_bits, halves}
use Rattle.line.specs.Cells.{Lent}
use Rattle.line.specs.Screen.{screen_in}
use Rattle.line.specs.Drawn.{setup_of}
use Rattle.line.specs.declared.request.Request.{Request}

module _ (request : Request) (lent : Lent) (output : ℕ) where
  -- bit 0 of word 0 is overlay, bit 2 the cursor, bit 3 the cross-hair, bit 4 depth 32; word 8 has x of the cursor in its low half and y in its high one; the line is the one that was asked for
  pub screen_says : let screen = screen_in (setup_of request lent output) in
      let word = get_or request.state.control 0 0 in
      let cursor = get_or request.state.control 8 0 in
      (screen.overlay ≡ eqb (word % 2) 1)
      × (screen.cursor ≡ eqb (word / 4 % 2) 1)
      × (screen.crosshair ≡ eqb (word / 8 % 2) 1)
      × (screen.depth ≡ cond (eqb (word / 16 % 2) 1) 32 16)
      × (screen.cx ≡ cursor % 4096)
      × (screen.cy ≡ cursor / 65536 % 4096)
      × (screen.y ≡ request.y)
  unfolding setup_of
  screen_says =
      let switches = switch_bits request.state.control in
      let places = halves request.state.control in
      (switches.0, switches.2, switches.3, switches.4, places.6, places.7, refl)
