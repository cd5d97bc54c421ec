-- The seven slips that are easily made (CHIP 12.1 to 12.7): for each a law that a chip which makes the slip breaks. Assumes nothing.
use Prim.Native.Nat.{ℕ, suc, ◌+◌, ◌*◌, ◌-◌, ◌/◌, ◌%◌, ◌^◌, ◌<◌, ◌≤◌}
use native.Mathlib.Nat.{le_refl}
use native.Mathlib.Omega.{arith}
use mathlib.Core.Path.{◌≡◌, refl, ◌∙◌}
use mathlib.Core.Bool.{false}
use mathlib.Core.List.{List}
use lib.ListN.{length, get_or}
use borrow.Author.Tests.{le-ltb}
use Rattle.rules.specs.Rule.{ok, refused, run}
use Rattle.rules.specs.Faults.{Numbered}
use Rattle.chip_timing.specs.Window.{in_window}
use Rattle.line_windows.specs.Table.{TableCell, window_id}
use Rattle.line_windows.specs.Ids.{id_of}
use Rattle.line_windows.proofs.Belongs.{id_found_by}
use Rattle.line_formats.specs.Channel.{widened}
use Rattle.line_formats.proofs.Widening.{widened_top}
use Rattle.line_pixels.specs.Cells.{pixel_view}
use Rattle.line_pixels.proofs.CursorShows.{CursorShows}
use Rattle.line_pixels.proofs.PixelShows.{cursor_colour_shown}
use Rattle.line_pixels.proofs.CellsInMemory.{cursor_colour_in_store}
use Rattle.line_setup.specs.Controls.{controls_of}
use Rattle.line.specs.Cells.{Lent}
use Rattle.line.specs.Screen.{screen_in}
use Rattle.line.specs.Drawn.{setup_of, drawn}
use Rattle.line.specs.declared.request.Request.{Request}
use Rattle.line.proofs.Defects.{PixelId, DefinedId, refused_leaves, undefined_refused}
use Rattle.line.proofs.Uncovered.{CheckedAlike, refused_alike}
use Rattle.line_reads.proofs.PixelColour.{drawn_colour}

module _ (request : Request) (lent : Lent) (output : List ℕ) where
  -- 12.1 no black for an undefined entry: a line with an active pixel whose window entry is undefined is refused; by which number, and where, `Reasons` in `line_reads` says
  pub no_black : {x id : ℕ} → x < (controls_of request.state.control).width → PixelId lent.table (controls_of request.state.control) request.y x id
      → (DefinedId lent (controls_of request.state.control).depth id → ⊥) → (refusal : Numbered) × ((drawn request lent output).1 ≡ refused refusal)
  no_black active has undefined = undefined_refused request lent output active has undefined

  -- 12.2 the check under the cursor: a second line whose cursor, glyph, overlay row and samples may all be otherwise is refused by the same number at the same place
  pub checked_under_cursor : (other : Request) (given : Lent) → CheckedAlike request other lent given → (old : List ℕ) → length output ≡ length old
      → {refusal : Numbered} → (drawn request lent output).1 ≡ refused refusal → (drawn other given old).1 ≡ refused refusal
  checked_under_cursor other given alike old long e = refused_alike request other lent given alike output old long e

  -- 12.3 no gamma on cursor colours: where the cursor shows a colour, the word of the output is the low 24 bits of that word of the store, 4,960 for colour 1 and so on, whatever window entry and gamma map hold
  pub cursor_as_stored : (drawn request lent output).1 ≡ ok tt → (x number : ℕ) → x < (controls_of request.state.control).width
      → CursorShows (pixel_view lent.store lent.normal lent.overlay) (screen_in (setup_of request lent (length output))) x (suc number)
      → get_or (drawn request lent output).0.1 x 0 ≡ get_or lent.store (4960 + number) 0 % 2 ^ 24
  cursor_as_stored is_drawn x number active shows =
      let colour = drawn_colour request lent output is_drawn x active in
      colour.is
      ∙ cursor_colour_shown (pixel_view lent.store lent.normal lent.overlay) (screen_in (setup_of request lent (length output))) colour.entry x shows (λ none. omega (arith, none))
      ∙ cursor_colour_in_store lent.store lent.normal lent.overlay number

  -- 12.6 no half line: a line that is refused leaves every word of the output as it was
  pub no_half_line : {refusal : Numbered} → (drawn request lent output).1 ≡ refused refusal → (drawn request lent output).0.1 ≡ output
  no_half_line e = refused_leaves request lent output e

-- 12.4 equal is never: a window whose on and off are the same holds nowhere
pub equal_is_never : (same p : ℕ) → in_window same same p ≡ false
unfolding in_window
equal_is_never same p = rw (le-ltb same same (le_refl same)) refl

-- 12.5 no widening with zeros: each of the 8 bits is a bit of the value, from the highest down and round again
pub no_zeros : (value width i : ℕ) → 1 ≤ width → value < 2 ^ width → i < 8
    → widened value width / 2 ^ (7 - i) % 2 ≡ value / 2 ^ (width - 1 - i % width) % 2
no_zeros value width i some fits below = widened_top value width i some fits below

-- 12.7 a line table within its block: the entry that gives a pixel its ID ends in the 512-byte block in which the line table starts
pub within_its_block : (memory : TableCell → ℕ) (table_bytes start x : ℕ) {id : ℕ} → run memory (id_of table_bytes start x) ≡ ok id
    → (entry : ℕ) × (((start + 2 * entry + 1) / 512 ≡ start / 512) × (memory (window_id (start + 2 * entry)) ≡ id))
within_its_block memory table_bytes start x found =
    let by = id_found_by memory table_bytes start x found in (by.entry, (by.belongs.in_block, by.says))
