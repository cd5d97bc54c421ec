-- `session::acts::line` meets its contract: the line of what is held. Assumes nothing.
use Prim.Native.Nat.{ℕ}
use mathlib.Core.Path.{ap, ◌∙◌}
use native.Mathlib.Nat.{sub-zero}
use borrow.Author.Rules.{rules}
use lib.ListN.{take}
use Rattle.refusals.specs.Refusal.{outcome_of}
use Rattle.chip.specs.Change.{unchanged}
use Rattle.chip.specs.declared.change.Change.{Change}
use Rattle.session_listing.specs.Text.{says_line}
use Rattle.line_setup.specs.Controls.{controls_of}
use Rattle.line.specs.Cells.{lent_of}
use Rattle.line.specs.Request.{request_of}
use Rattle.line.specs.Drawn.{drawn}
use Rattle.session.specs.Record.{entry_of}
use Rattle.session.specs.Inner.{listed_as}
use Rattle.session.proofs.Asked.{asked_by, handed_back}
use Rattle.session.proofs.acts.line.Statement.{statement}
use Rattle.session.proofs.acts.line.Tie as tie

sub_draw : tie.Need-slice_bounds-draw-count
sub_draw c = search rules

part_draw_start : tie.Need-slice_bounds-draw-start
part_draw_start c = search rules

part_draw_end : tie.Need-slice_bounds-draw-end
part_draw_end c = search rules

sub_draw_2 : tie.Need-slice_bounds-draw-count-2
sub_draw_2 c = search rules

part_draw_start_2 : tie.Need-slice_bounds-draw-start-2
part_draw_start_2 c = search rules

part_draw_end_2 : tie.Need-slice_bounds-draw-end-2
part_draw_end_2 c = search rules

sub_draw_3 : tie.Need-slice_bounds-draw-count-3
sub_draw_3 c = search rules

part_draw_start_3 : tie.Need-slice_bounds-draw-start-3
part_draw_start_3 c = search rules

part_draw_end_3 : tie.Need-slice_bounds-draw-end-3
part_draw_end_3 c = search rules

draw_requires : tie.Need-draw-drawn-requires
draw_requires c κs = search rules

unchanged_requires : tie.Need-unchanged-requires
unchanged_requires c κs = search rules

width_requires : tie.Need-width-requires
width_requires c κs = search rules

entry_of_requires : tie.Need-entry_of-requires
entry_of_requires c κs = search rules

listed_requires : tie.Need-listed-requires
listed_requires c κs = search rules

same_length : tie.Need-shape_of-output
same_length c = search rules

returns : tie.Need-returns
returns c =
    let given = c.args in
    let lent = lent_of given.store.now (take given.counts.table given.table.now) (take given.counts.normal given.normal.now) (take given.counts.overlay given.overlay.now) in
    let after = drawn (request_of given.state given.y) lent given.output.now in
    asked_by given.state given.counts given.records (says_line given.y (controls_of given.state.control).width) (unchanged given.state) c.draw-drawn.new.out (outcome_of c.draw-drawn.result.answer) after
    (c.listed.ensures ∙ ap (λ (change : Change). listed_as change given.counts given.records c.entry_of.result) c.unchanged.ensures) (
      handed_back (request_of given.state given.y) lent given.output.now (rw (sub-zero given.counts.table, sub-zero given.counts.normal, sub-zero given.counts.overlay) at c.draw-drawn.ensures),
      tt,
    )
    (c.entry_of.ensures ∙ ap (λ (width : ℕ). entry_of (says_line given.y width) (outcome_of c.draw-drawn.result.answer)) c.width.ensures)

pub line_spec : {M : Type 1} → statement M
line_spec =
    tie.close
    (tie.spec
    sub_draw
    part_draw_start
    part_draw_end
    sub_draw_2
    part_draw_start_2
    part_draw_end_2
    sub_draw_3
    part_draw_start_3
    part_draw_end_3
    draw_requires
    unchanged_requires
    width_requires
    entry_of_requires
    listed_requires
    same_length
    returns)
