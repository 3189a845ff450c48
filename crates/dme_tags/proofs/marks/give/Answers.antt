use Rattle.dme_tags.proofs.Names.{◌∙◌, ap, Effect, err_from_is_err_and, Kind, Mark, may_be_given, Option, sym}
use Rattle.dme_tags.proofs.Places.{changed_at, kind_at, refused_at}
use Rattle.dme_tags.proofs.Fitting.{fit_heard}
use Rattle.dme_tags.proofs.Kept.{not_failed}
use Rattle.dme_tags.proofs.marks.give.Goals as goal

pub returns-in_err-index-clause-refused : goal.returns-in_err-index-clause-refused
returns-in_err-index-clause-refused c =
    let p = err_from_is_err_and c.from_residual.result c.from_residual.ensures.1 in
    rw (p.1, p.2) (c.in_err-index.ensures.unknown c.args.front (Mark.Given c.args.datum))

pub returns-in_err-accept-clause-refused : goal.returns-in_err-accept-clause-refused
returns-in_err-accept-clause-refused c =
    let p = err_from_is_err_and c.from_residual-in_err-accept.result c.from_residual-in_err-accept.ensures.1 in
    rw (p.1, p.2) (refused_at c.args.front _ _ (Mark.Given c.args.datum) _ _ _ _
    (c.in_ok-index.ensures.found.at c.at.result.now c.at.ensures) c.is_front.ensures (c.in_err-accept.ensures.refused _))

pub returns-clause-ok : goal.returns-clause-ok
returns-clause-ok c =
    rw (c.advance.ensures c.at.result.now c.at.ensures) (changed_at c.args.front _ _ (Mark.Given c.args.datum) _ _ _ Effect.Quiet _
    (c.in_ok-index.ensures.found.at c.at.result.now c.at.ensures) c.is_front.ensures (c.in_ok-accept.ensures.ok _))

pub returns-clause-fit : goal.returns-clause-fit
returns-clause-fit c = fit_heard c.args.front _ _ c.args.tag (Mark.Given c.args.datum) Effect.Quiet (returns-clause-ok c)

pub accept-requires : goal.accept-requires
accept-requires c =
    ap (λ (k : Option Kind). may_be_given k c.args.datum) (sym (kind_at c.args.tag _ _ _
    (c.in_ok-index.ensures.found.at c.at.result.now c.at.ensures))) ∙ c.requires

pub advance-requires-clause-held : goal.advance-requires-clause-held
advance-requires-clause-held c held here =
    not_failed _ _ c.at.result.now held c.in_ok-index.ensures.found.within c.at.ensures here c.in_ok-accept.ensures.unfailed
