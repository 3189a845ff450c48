use Rattle.dme_tags.proofs.Names.{Effect, err_from_is_err_and, Mark, refl, true}
use Rattle.dme_tags.proofs.Places.{changed_at, refused_at}
use Rattle.dme_tags.proofs.Fitting.{fit_heard}
use Rattle.dme_tags.proofs.Kept.{not_failed}
use Rattle.dme_tags.proofs.marks.receive.Goals as goal

pub returns-in_err-index-clause-refused : goal.returns-in_err-index-clause-refused
returns-in_err-index-clause-refused c =
    let p = err_from_is_err_and c.from_residual.result c.from_residual.ensures.1 in
    rw (p.1, p.2) (λ front. c.in_err-index.ensures.unknown front Mark.Ack)

pub returns-in_err-acknowledge-clause-refused : goal.returns-in_err-acknowledge-clause-refused
returns-in_err-acknowledge-clause-refused c =
    let p = err_from_is_err_and c.from_residual-in_err-acknowledge.result c.from_residual-in_err-acknowledge.ensures.1 in
    rw (p.1, p.2) (λ front. refused_at front _ _ Mark.Ack _ _ _ _ (c.in_ok-index.ensures.found.at c.at.result.now c.at.ensures) refl
    (c.in_err-acknowledge.ensures.refused true _))

pub returns-clause-ok : goal.returns-clause-ok
returns-clause-ok c =
    rw (c.advance.ensures c.at.result.now c.at.ensures) (λ front. changed_at front _ _ Mark.Ack _ _ _ Effect.Quiet _
    (c.in_ok-index.ensures.found.at c.at.result.now c.at.ensures) refl (c.in_ok-acknowledge.ensures.ok true _))

pub returns-clause-fit : goal.returns-clause-fit
returns-clause-fit c = fit_heard true _ _ c.args.tag Mark.Ack Effect.Quiet (returns-clause-ok c true)

pub advance-requires-clause-held : goal.advance-requires-clause-held
advance-requires-clause-held c held here =
    not_failed _ _ c.at.result.now held c.in_ok-index.ensures.found.within c.at.ensures here c.in_ok-acknowledge.ensures.unfailed
