-- `line::draw::checked_and_drawn`: each refusal is the rule's, and where there is none the output has the rule's colours.
use Rattle.std.proofs.Common.{List, ℕ, refl, sym, ap, ◌∙◌}
use Rattle.std.proofs.lemmas.Result.{err_from_is_err_and}
use Rattle.rules.specs.Rule.{ok}
use Rattle.line_pixels.specs.declared.Screen.{Screen}
use Rattle.line_setup.proofs.Fitted.{fitted}
use Rattle.line.specs.Cells.{lent_of}
use Rattle.line.specs.Inner.{coloured}
use Rattle.line.proofs.Result.{lengths_lent, setup_sized, enough_lent, drawn_by}
use Rattle.line.proofs.Whole.{line_unfit, line_no_table, line_no_entry, line_drawn}
use Rattle.line.proofs.draw.checked_and_drawn.Goals as goal

pub returns-in_err-line_check : goal.returns-in_err-line_check
returns-in_err-line_check c =
    let a = c.args in
    let lent = lent_of a.store.now a.table.now a.normal.now a.overlay.now in
    let p = err_from_is_err_and c.from_residual.result c.from_residual.ensures.1 in
    rw (p.1, p.2) (drawn_by a.request lent a.out.now c.setup-setup.result c.setup-setup.ensures (line_unfit c.setup-setup.result lent (sym c.in_err-line_check.ensures)))

pub whole-store-requires : goal.whole-store-requires
whole-store-requires c =
    let a = c.args in
    let lent = lent_of a.store.now a.table.now a.normal.now a.overlay.now in
    (lengths_lent a.request lent a.out.now c.setup-setup.result c.setup-setup.ensures).0 ∙ (fitted c.setup-setup.result (sym c.in_ok-line_check.ensures)).store_right

pub returns-in_err-start : goal.returns-in_err-start
returns-in_err-start c =
    let a = c.args in
    let setup = c.setup-setup.result in
    let lent = lent_of a.store.now a.table.now a.normal.now a.overlay.now in
    let lengths = lengths_lent a.request lent a.out.now setup c.setup-setup.ensures in
    let p = err_from_is_err_and c.from_residual-in_err-start.result c.from_residual-in_err-start.ensures.1 in
    rw (p.1, p.2)
    (drawn_by a.request lent a.out.now setup c.setup-setup.ensures
    (line_no_table setup lent (sym c.in_ok-line_check.ensures) (rw (sym lengths.1) (c.in_err-start.ensures a.store.now a.normal.now a.overlay.now))))

pub returns-in_err-check_runs : goal.returns-in_err-check_runs
returns-in_err-check_runs c =
    let a = c.args in
    let setup = c.setup-setup.result in
    let lent = lent_of a.store.now a.table.now a.normal.now a.overlay.now in
    let lengths = lengths_lent a.request lent a.out.now setup c.setup-setup.ensures in
    let p = err_from_is_err_and c.from_residual-in_err-check_runs.result c.from_residual-in_err-check_runs.ensures.1 in
    rw (p.1, p.2)
    (drawn_by a.request lent a.out.now setup c.setup-setup.ensures
    (line_no_entry setup lent (sym c.in_ok-line_check.ensures) {start = c.in_ok-start.start}
    (rw (sym lengths.1) (c.in_ok-start.ensures a.store.now a.normal.now a.overlay.now))
    (rw (sym lengths.1, sym c.whole-store.ensures) (c.in_err-check_runs.ensures a.normal.now a.overlay.now))))

pub draw_runs-requires : goal.draw_runs-requires
draw_runs-requires c =
    let a = c.args in
    let lent = lent_of a.store.now a.table.now a.normal.now a.overlay.now in (
      setup_sized a.request lent a.out.now c.setup-setup.result c.setup-setup.ensures,
      rw c.screen-screen.ensures (record { same_depth = refl; same_overlay = refl }),
      rw c.whole-store.ensures (enough_lent a.request lent a.out.now c.setup-setup.result c.setup-setup.ensures (sym c.in_ok-line_check.ensures)),
      c.in_ok-check_runs.ensures,
    )

pub returns : goal.returns
returns c =
    let a = c.args in
    let setup = c.setup-setup.result in
    let lent = lent_of a.store.now a.table.now a.normal.now a.overlay.now in
    let lengths = lengths_lent a.request lent a.out.now setup c.setup-setup.ensures in
    ap (λ (output : List ℕ). ((a.request.state, output), ok tt))
    (rw c.whole-store.ensures at c.draw_runs.ensures ∙ ap (λ (screen : Screen). coloured setup.controls screen lent c.in_ok-start.start a.out.now) c.screen-screen.ensures)
    ∙ drawn_by a.request lent a.out.now setup c.setup-setup.ensures
    (line_drawn setup a.store.now a.table.now a.normal.now a.overlay.now c.in_ok-start.start lengths.1
    (record { fit = sym c.in_ok-line_check.ensures; starts = c.in_ok-start.ensures a.store.now; entries = rw c.whole-store.ensures at c.in_ok-check_runs.ensures }))
