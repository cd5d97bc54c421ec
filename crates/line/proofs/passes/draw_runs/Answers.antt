-- `line::passes::draw_runs`: nothing is refused, since the first pass found every window entry defined; a run is drawn by what its entry says.
use Rattle.std.proofs.Common.{ℕ, sym, ap, ◌∙◌, arith}
use Rattle.line_formats.specs.Table.{format_of_number}
use Rattle.line_colour.specs.Entry.{format_of}
use Rattle.line_colour.proofs.Decode.{names_format}
use Rattle.line.proofs.Entries.{run_no_id}
use Rattle.line.proofs.Drawing.{draw_run, normal_reaches, overlay_reaches, output_reaches, none_refused, none_undefined, run_named}
use Rattle.line.proofs.passes.draw_runs.Goals as goal

pub returns-in_default : goal.returns-in_default
returns-in_default c =
    let a = c.args in
    absurd
    (none_refused a.controls a.screen a.store.now a.table.now a.normal.now a.overlay.now a.start c.in_default.field-0 c.loop-x.x c.requires.3 c.loop-x-test.true
    (run_no_id a.controls a.store.now a.table.now a.start c.loop-x.x c.in_default.field-0 c.in_default.ensures))

pub returns-in_default-format_of : goal.returns-in_default-format_of
returns-in_default-format_of c =
    let a = c.args in
    absurd
    (names_format _ a.controls.depth
    (none_undefined a.controls a.screen a.store.now a.table.now a.normal.now a.overlay.now a.start c.loop-x.x c.in-Ok.found c.requires.3 c.loop-x-test.true c.in-Ok.ensures)
    (ap (λ (word : ℕ). format_of_number (format_of word)) (sym c.stored_entry-word.ensures) ∙ sym c.format_of.ensures ∙ c.in_default-format_of.is))

pub fill-requires : goal.fill-requires
fill-requires c =
    let a = c.args in
    let entry = c.of-entry.result in
    let run =
    run_named a.controls a.screen a.store.now a.table.now a.normal.now a.overlay.now a.start c.loop-x.x c.in-Ok.found c.requires.3 c.loop-x-test.true c.in-Ok.ensures
    c.stored_entry-word.ensures (sym c.format_of.ensures ∙ c.in-Some.is) c.of-entry.ensures c.run_end-end.ensures in (
      record {
        plain =
            record {
              said = rw c.requires.1.same_depth run.said;
              store_long = c.requires.2.store_long;
              normal_long = normal_reaches a.controls a.screen a.store.now a.table.now a.normal.now a.overlay.now a.start c.loop-x.invariant c.requires.2 entry run c.requires.0 c.requires.1;
            };
        overlay_long = overlay_reaches a.controls a.screen a.store.now a.table.now a.normal.now a.overlay.now a.start c.loop-x.invariant c.requires.2 entry run c.requires.1;
      },
      omega (arith, run.some, run.within, c.requires.0.width_le),
      output_reaches a.controls a.screen a.store.now a.table.now a.normal.now a.overlay.now a.start c.loop-x.invariant c.requires.2 entry run,
    )

pub loop-x-preserved : goal.loop-x-preserved
loop-x-preserved c =
    let a = c.args in
    let run =
    run_named a.controls a.screen a.store.now a.table.now a.normal.now a.overlay.now a.start c.loop-x.x c.in-Ok.found c.requires.3 c.loop-x-test.true c.in-Ok.ensures
    c.stored_entry-word.ensures (sym c.format_of.ensures ∙ c.in-Some.is) c.of-entry.ensures c.run_end-end.ensures in
    draw_run a.controls a.screen a.store.now a.table.now a.normal.now a.overlay.now a.start c.loop-x.invariant c.requires.2 c.of-entry.result run _ c.fill.ensures
