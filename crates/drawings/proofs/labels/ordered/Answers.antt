use Rattle.std.proofs.Common.{ap, arith, length}
use Rattle.std.proofs.lemmas.List.Sorted.{length_permutation}
use Rattle.drawings.proofs.Lines.{anchors_length}
use Rattle.drawings.proofs.labels.ordered.Goals as goal

pub returns-clause-few : goal.returns-clause-few
returns-clause-few c =
    let p = length_permutation _ _ c.sort.ensures.permutation in
    let e = ap length c.in_ok-order.ensures in
    let a = anchors_length c.args.plan.now 0 c.labelled.result.now in
    let f = c.labelled.ensures.few in
    omega (arith, p, e, a, f)
