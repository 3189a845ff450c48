use Rattle.std.proofs.Common.{◌≡◌, length, ap, rules, arith}
use Rattle.ledger_audit.proofs.RunLaws.{run_touches, found_run, none_run}
use Rattle.ledger_audit.proofs.runs.first_run.Goals as goal

pub returns-then-touches-points-clause-none : goal.returns-then-touches-points-clause-none
returns-then-touches-points-clause-none c = λ start from run.
    let long : length c.args.wanted.now.touches ≡ length c.args.feature.now.points = run_touches _ _ _ _ run in
    let touches : length c.as_slice-touches.result.now ≡ length c.args.wanted.now.touches = ap length c.as_slice-touches.ensures in
    let points : length c.as_slice-points.result.now ≡ length c.args.feature.now.points = ap length c.as_slice-points.ensures in
    absurd (omega arith)

pub returns-clause-found : goal.returns-clause-found
returns-clause-found c =
    let label : c.args.feature.now.label ≡ c.args.wanted.now.label = search rules in
    let long : length c.as_slice-touches.result.now ≡ length c.as_slice-points.result.now = search rules in
    found_run c.args.wanted.now c.args.feature.now c.args.least c.args.contacts.now c.as_slice-touches.result.now
    c.as_slice-points.result.now c.first_served.result c.as_slice-touches.ensures c.as_slice-points.ensures label long
    c.first_served.ensures.found

pub returns-clause-none : goal.returns-clause-none
returns-clause-none c =
    none_run c.args.wanted.now c.args.feature.now c.args.least c.args.contacts.now c.as_slice-touches.result.now
    c.as_slice-points.result.now c.first_served.result c.as_slice-touches.ensures c.as_slice-points.ensures c.requires
    c.first_served.ensures.none
