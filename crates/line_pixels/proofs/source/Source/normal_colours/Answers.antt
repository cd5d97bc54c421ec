-- A sample of 8 bits shows the entry that stands as many behind the first of its bank.
use Rattle.std.proofs.Common.{ℕ, ◌+◌, ◌<◌, ◌≡◌, ◌∙◌, sym, ap, arith}
use native.Mathlib.Nat.{div-one, mod-eq_of_lt}
use lib.Dec.{lit<}
use Rattle.rules.specs.Rule.{value}
use Rattle.words.specs.Field.{bits}
use Rattle.line_formats.specs.Table.{entry_in_bank, value_of}
use Rattle.line_formats.specs.declared.Format.TheVariants.{Index8}
use Rattle.line_colour.specs.Shown.{shown_of}
use Rattle.line_colour.specs.declared.entry.WindowEntry.{WindowEntry}
use Rattle.line_colour.specs.declared.entry.Shown.{Shown}
use Rattle.line_colour.specs.declared.entry.Shown.TheVariants.{MapEntry}
use Rattle.line_colour.proofs.Defined.{map_entry_below}
use Rattle.line_pixels.specs.Cells.{pixel_view}
use Rattle.line_pixels.specs.Colour.{shown_colour}
use Rattle.line_pixels.proofs.LayersCases.{shown_index8}
use Rattle.line_pixels.proofs.Rows.{said_says}
use Rattle.line_pixels.proofs.source.Source.normal_colours.Goals as goal

-- the entry that it shows
shows : (entry : WindowEntry) {first : ℕ} → entry.format ≡ Index8 → first ≡ entry_in_bank entry.bank (value_of Index8 0) → (sample : ℕ) → sample < 256
    → shown_of entry sample ≡ MapEntry (first + sample)
shows entry {first} is starts sample below =
    let all : bits sample 0 8 ≡ sample = rw div-one (mod-eq_of_lt below) in
    shown_index8 entry sample is starts ∙ ap (λ (n : ℕ). MapEntry (first + n)) (rw is all)

pub map_colours-requires : goal.map_colours-requires
map_colours-requires c =
    let s = c.args.self.now in
    let is : s.entry.format ≡ Index8 = grind arith in
    omega (arith, map_entry_below s.screen.depth s.entry 255 (said_says s.screen.depth s.entry c.requires.0) (shows s.entry is c.map_entry.ensures 255 (lit< tt)))

pub returns-in-Index8 : goal.returns-in-Index8
returns-in-Index8 c =
    let s = c.args.self.now in
    let is : s.entry.format ≡ Index8 = grind arith in
    λ sample below normal overlay.
    c.map_colours.ensures sample below normal overlay
    ∙ ap (λ (shown : Shown). value (pixel_view s.store.now normal overlay) (shown_colour shown)) (sym (shows s.entry is c.map_entry.ensures sample below))
