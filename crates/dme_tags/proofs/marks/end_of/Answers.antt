use Rattle.dme_tags.proofs.Names.{ap, effect_heard, effect_of, err_from_is_err_and, Mark}
use Rattle.dme_tags.proofs.Places.{ended_at, refused_at}
use Rattle.dme_tags.proofs.Fitting.{data_heard}
use Rattle.dme_tags.proofs.marks.end_of.Goals as goal

pub returns-in_err-index-clause-refused : goal.returns-in_err-index-clause-refused
returns-in_err-index-clause-refused c =
    let p = err_from_is_err_and c.from_residual.result c.from_residual.ensures.1 in
    rw (p.1, p.2) (c.in_err-index.ensures.unknown c.args.front Mark.Done)

pub returns-in_err-ended-clause-refused : goal.returns-in_err-ended-clause-refused
returns-in_err-ended-clause-refused c =
    let p = err_from_is_err_and c.from_residual-in_err-ended.result c.from_residual-in_err-ended.ensures.1 in
    rw (p.1, p.2) (refused_at c.args.front _ _ Mark.Done _ _ _ _ (c.in_ok-index.ensures.found.at c.at.result.now c.at.ensures)
    c.is_front.ensures (c.in_err-ended.ensures.refused _))

pub returns-clause-ok : goal.returns-clause-ok
returns-clause-ok c =
    ap effect_heard (ended_at c.args.front _ _ Mark.Done _ _ (effect_of c.in_ok-ended.ended) _
    (c.in_ok-index.ensures.found.at c.at.result.now c.at.ensures) c.is_front.ensures (c.in_ok-ended.ensures.ok _))

pub returns-clause-data : goal.returns-clause-data
returns-clause-data c = data_heard c.args.front _ c.args.tag c.in_ok-ended.ended (returns-clause-ok c)
