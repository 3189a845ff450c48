use Rattle.dme_tags.proofs.Names.{err_from_is_err_and, Mark, true}
use Rattle.dme_tags.proofs.Places.{failed_at}
use Rattle.dme_tags.proofs.Fitting.{fit_heard}
use Rattle.dme_tags.proofs.marks.fail.Goals as goal

pub returns-in_err-index-clause-refused : goal.returns-in_err-index-clause-refused
returns-in_err-index-clause-refused c =
    let p = err_from_is_err_and c.from_residual.result c.from_residual.ensures.1 in
    rw (p.1, p.2) (λ front. c.in_err-index.ensures.unknown front Mark.Error)

pub returns-clause-ok : goal.returns-clause-ok
returns-clause-ok c =
    rw (c.is_failed-now.ensures, c.set_stage.ensures c.at.result.now c.at.ensures)
    (λ front. failed_at front _ _ _ _ (c.in_ok-index.ensures.found.at c.at.result.now c.at.ensures))

pub returns-clause-fit : goal.returns-clause-fit
returns-clause-fit c = fit_heard true _ _ c.args.tag Mark.Error _ (returns-clause-ok c true)
