-- The index shows the entry that stands as many behind the first.
use Rattle.std.proofs.Common.{◌≡◌, sym, ap, ◌∙◌}
use native.Mathlib.Nat.{div-one, mod-eq_of_lt}
use Rattle.words.specs.Field.{bits}
use Rattle.line_colour.specs.Shown.{shown_of}
use Rattle.line_colour.proofs.Defined.{map_entry_below}
use Rattle.line_pixels.specs.Source.{view_of}
use Rattle.line_pixels.proofs.Rows.{said_says}
use Rattle.line_pixels.proofs.LayersCases.{normal_of_map, plain_of_normal}
use Rattle.line_pixels.proofs.source.Source.indexed_at.Goals as goal

pub mapped-requires : goal.mapped-requires
mapped-requires c =
    let s = c.args.self.now in
    let index = c.sample_at-index.result in
    let all : bits index 0 c.args.bits ≡ index = rw div-one (mod-eq_of_lt c.sample_at-index.ensures.1) in
    map_entry_below s.screen.depth s.entry index (said_says s.screen.depth s.entry c.requires.0.said) (c.requires.2 index ∙ rw (← c.requires.1, all))

pub returns : goal.returns
returns c =
    let s = c.args.self.now in
    let index = c.sample_at-index.result in
    let all : bits index 0 c.args.bits ≡ index = rw div-one (mod-eq_of_lt c.sample_at-index.ensures.1) in
    plain_of_normal (view_of s) s.screen.depth s.entry c.args.x
    (normal_of_map (view_of s) s.screen.depth s.entry c.args.x
    (ap (shown_of s.entry) (sym c.sample_at-index.ensures.0) ∙ c.requires.2 index ∙ rw (← c.requires.1, all))
    c.mapped.ensures)
    (c.through_gamma.ensures s.normal.now s.overlay.now)
