use Rattle.std.proofs.Common.{arith}
use Rattle.std.proofs.lemmas.Grind.{div_ceil_times}
use Rattle.deviations.proofs.Roots.{IsRootBelow, root_below, half_reached, half_missed}
use Rattle.deviations.proofs.along.nearest_root.Goals as goal

pub returns-then-half-rest-clause-near : goal.returns-then-half-rest-clause-near
returns-then-half-rest-clause-near c =
    let q = div_ceil_times c.args.length 4 (omega arith) in let e = c.div_ceil.ensures in
    let r : IsRootBelow c.args.square c.args.length c.isqrt-whole.result =
    root_below _ _ _ c.requires.some c.isqrt-whole.ensures.square_le c.isqrt-whole.ensures.next_square_gt in
    half_reached _ _ _ c.div_ceil.result r (omega (arith, q.0, e)) c.if-half-rest.true

pub returns-else-half-rest-clause-near : goal.returns-else-half-rest-clause-near
returns-else-half-rest-clause-near c =
    let q = div_ceil_times c.args.length 4 (omega arith) in let e = c.div_ceil.ensures in
    let r : IsRootBelow c.args.square c.args.length c.isqrt-whole.result =
    root_below _ _ _ c.requires.some c.isqrt-whole.ensures.square_le c.isqrt-whole.ensures.next_square_gt in
    half_missed _ _ _ c.div_ceil.result c.requires.some r (omega (arith, q.1, e)) c.if-half-rest.false
