-- The second pass: a line drawn run by run is filled with its colours. Assumes nothing.
use Prim.Native.Nat.{ℕ, ◌+◌, ◌-◌, ◌*◌, ◌/◌, ◌≤◌, ◌<◌}
use mathlib.Core.Path.{◌≡◌, refl, sym, ap, ◌∙◌}
use mathlib.Core.Bool.{Bool, true, false, ◌&&◌}
use mathlib.Core.List.{List}
use mathlib.Core.Logic.{⊎_elim}
use native.Mathlib.Omega.{arith}
use borrow.Rule.Slice.PartMut.{put_mid}
use lib.ListN.{length, take, drop, get_or, length-drop}
use Rattle.std.specs.Prelude.{Ok, Some, None}
use Rattle.rules.specs.Rule.{Outcome, run, value}
use Rattle.rules.specs.Lists.{filled}
use Rattle.rules.specs.Faults.{Numbered}
use Rattle.rules.proofs.Cases.{impossible}
use Rattle.rules.proofs.Fill.{fill_run, filled_length, tail_lent}
use Rattle.refusals.specs.declared.Refusal.{Refusal}
use Rattle.refusals.specs.declared.Refusal.TheVariants.{UndefinedEntry}
use Rattle.line_formats.specs.Table.{format_of_number}
use Rattle.line_formats.specs.declared.Format.{Format}
use Rattle.line_colour.specs.Entry.{format_of, defined_as, decoded}
use Rattle.line_colour.specs.declared.entry.WindowEntry.{WindowEntry}
use Rattle.line_colour.proofs.Decode.{says_by_format}
use Rattle.line_windows.specs.declared.ids.FoundId.{FoundId}
use Rattle.line_pixels.specs.Cells.{pixel_view}
use Rattle.line_pixels.specs.Colour.{overlay_counts, colour_of_pixel}
use Rattle.line_pixels.specs.declared.Screen.{Screen}
use Rattle.line_setup.specs.declared.controls.Controls.{Controls}
use Rattle.line.specs.Cells.{Lent, lent_of}
use Rattle.line.specs.Inner.{InRange, FitsScreen, Entries, Served, EndsRun, colour_by, colour_at, Enough}
use Rattle.line.proofs.Entries.{RunOf, NoRun, run_of, run_undefined}
use Rattle.line.proofs.Pass.{Passing, pass_start, pass_run}

-- the first of two switches that are both on
first_on : (first second : Bool) → first && second ≡ true → first ≡ true
first_on true second e = refl
first_on false second e = e

module _ (controls : Controls) (screen : Screen) (store table normal overlay : List ℕ) (start : ℕ) where
  -- what is lent
  abbrev lent : Lent
  lent = lent_of store table normal overlay

  -- a pass that draws is at pixel x: the output is filled up to there
  pub record Drawing (before now : List ℕ) (x from : ℕ) : Type 0 where
    pub passing : Passing controls store table start x from
    pub long : length now ≡ length before
    pub list : now ≡ filled (colour_at controls screen lent start) 0 before x

  -- before the first run
  pub draw_start : (output : List ℕ) → Drawing output output 0 0
  draw_start output = record { passing = pass_start controls store table start; long = refl; list = refl }

  -- a pixel of a run has the colour that the run's entry gives it
  run_colour : {x end next : ℕ} (entry : WindowEntry) → RunOf controls store table start x entry end next → (p : ℕ) → x ≤ p → p < end
      → value (pixel_view store normal overlay) (colour_of_pixel screen entry p) ≡ colour_at controls screen lent start p
  unfolding colour_at
  run_colour entry told p low high =
      ap (λ (outcome : Outcome Numbered WindowEntry). colour_by (pixel_view store normal overlay) screen p outcome) (sym (told.all_have normal overlay p low high))

  module _ {before now : List ℕ} {x from : ℕ} (here : Drawing before now x from) (enough : Enough controls lent before) (entry : WindowEntry) {end next : ℕ}
      (told : RunOf controls store table start x entry end next) where
    -- one run on, which was lent the output from its first pixel on
    pub draw_run : (last : List ℕ)
        → last ≡ filled (λ p. value (pixel_view store normal overlay) (colour_of_pixel screen entry p)) x (take (length now - x) (drop x now)) (end - x)
        → Drawing before (put_mid x (length now - x) now last) end next
    draw_run last run =
        let list = fill_run (colour_at controls screen lent start) _ x end before now last (omega (arith, told.some)) here.list run (run_colour entry told) in
        record {
          passing = pass_run controls store table start here.passing told;
          long = ap length list ∙ filled_length (colour_at controls screen lent start) 0 before end (omega (arith, told.within, enough.output_long));
          list = list;
        }

    -- there are pixels for it in the normal row
    pub normal_reaches : InRange controls → FitsScreen controls screen → (x + (end - x)) * (screen.depth / 8) ≤ length normal
    normal_reaches sized fits =
        let sum : x + (end - x) ≡ end = omega (arith, told.some) in
        rw (sum, fits.same_depth, enough.normal_long)
        (⊎_elim
        (λ (at : controls.depth ≡ 16). rw at (omega (arith, told.within)))
        (λ (at : controls.depth ≡ 32). rw at (omega (arith, told.within)))
        sized.at_depth)

    -- where overlay counts, there are bytes for it in the overlay row
    pub overlay_reaches : FitsScreen controls screen → overlay_counts screen entry ≡ true → x + (end - x) ≤ length overlay
    overlay_reaches fits counts =
        let long = enough.overlay_long (sym fits.same_overlay ∙ first_on screen.overlay entry.overlay counts) in
        omega (arith, told.some, told.within, long)

    -- there is room for it in the output
    pub output_reaches : end - x ≤ length (take (length now - x) (drop x now))
    output_reaches = rw (tail_lent x now, length-drop) (omega (arith, told.within, enough.output_long, here.long))

  -- where every pixel has a window entry no pixel lacks one
  pub none_refused : (refusal : Refusal) (x : ℕ) → Entries controls store table start → x < controls.width
      → NoRun controls store table start x refusal → ⊥
  none_refused refusal x entries inside told =
      let has = entries normal overlay x inside in
      let e = sym has.1 ∙ told normal overlay in
      impossible cc

  module _ (x : ℕ) (found : FoundId) (entries : Entries controls store table start) (inside : x < controls.width) (served : Served controls table start x (Ok found)) where
    -- nor is the window entry of an ID that is found undefined
    pub none_undefined : decoded (get_or store found.id 0) controls.depth ≡ None → ⊥
    none_undefined undefined = none_refused (UndefinedEntry x) x entries inside (run_undefined controls store table start x found served undefined)

    -- the run of the ID is drawn by what its entry says in the format that it names
    pub run_named : {word : ℕ} {format : Format} {entry : WindowEntry} {end : ℕ} → word ≡ get_or store found.id 0 → format_of_number (format_of word) ≡ Some format
        → entry ≡ defined_as word controls.depth format → EndsRun controls.width found.last end → RunOf controls store table start x entry end found.next
    run_named {format = format} {entry = entry} {end = end} stored named is ends =
        let stands = get_or store found.id 0 in
        let names : format_of_number (format_of stands) ≡ Some format = rw stored at named in
        let says : decoded stands controls.depth ≡ Some entry = says_by_format stands controls.depth none_undefined names ∙ ap Some (sym (rw stored at is)) in
        run_of controls store table start x found served entry end says inside ends
