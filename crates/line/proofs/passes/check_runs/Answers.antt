-- `line::passes::check_runs`: an ID that is refused, a window entry that is undefined, a run on, and the end.
use Rattle.std.proofs.Common.{sym, ◌∙◌, arith}
use Rattle.std.proofs.lemmas.Result.{err_from_is_err_and}
use Rattle.refusals.specs.declared.Refusal.TheVariants.{UndefinedEntry}
use Rattle.line.proofs.Entries.{RunOf, run_of, run_undefined, run_no_id}
use Rattle.line.proofs.Pass.{pass_refused, pass_over, pass_run}
use Rattle.line.proofs.passes.check_runs.Goals as goal

pub returns-in_err-found : goal.returns-in_err-found
returns-in_err-found c =
    let a = c.args in
    let refusal = c.in_err-found.field-0.0 in
    let p = err_from_is_err_and c.from_residual.result c.from_residual.ensures.1 in
    rw (p.1, p.2)
    (pass_refused a.controls a.store.now a.table.now a.start c.loop-x.invariant refusal c.loop-x-test.true
    (run_no_id a.controls a.store.now a.table.now a.start c.loop-x.x refusal c.in_err-found.ensures))

pub returns-in_default : goal.returns-in_default
returns-in_default c =
    let a = c.args in
    pass_refused a.controls a.store.now a.table.now a.start c.loop-x.invariant (UndefinedEntry c.loop-x.x) c.loop-x-test.true
    (run_undefined a.controls a.store.now a.table.now a.start c.loop-x.x c.in_ok-found.found c.in_ok-found.ensures (sym c.entry_of.ensures ∙ c.in_default.is))

-- the run of the ID that was found
run_found : (c : goal.After-run_end-x)
    → RunOf c.args.controls c.args.store.now c.args.table.now c.args.start c.loop-x.x c.in-Some.field-0 c.run_end-x.result c.in_ok-found.found.next
run_found c =
    let a = c.args in
    run_of a.controls a.store.now a.table.now a.start c.loop-x.x c.in_ok-found.found c.in_ok-found.ensures c.in-Some.field-0 c.run_end-x.result
    (sym c.entry_of.ensures ∙ c.in-Some.is) c.loop-x-test.true c.run_end-x.ensures

pub loop-x-preserved : goal.loop-x-preserved
loop-x-preserved c = pass_run _ _ _ _ c.loop-x.invariant (run_found c)

pub loop-x-smaller : goal.loop-x-smaller
loop-x-smaller c = let run = run_found c in omega (arith, run.some, run.within)

pub returns : goal.returns
returns c = pass_over _ _ _ _ c.loop-x.invariant c.loop-x-test.false
