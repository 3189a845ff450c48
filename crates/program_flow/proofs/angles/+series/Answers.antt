use Rattle.std.proofs.Common.{arith}
use Rattle.program_flow.proofs.Series.{divisor-some, made, term-small, third-small}
use Rattle.program_flow.proofs.angles.+series.Goals as goal

pub term-added-requires-clause-sum : goal.term-added-requires-clause-sum
term-added-requires-clause-sum t c = (third-small _ _ _ _ c.series-plus.result c.requires.some c.requires.first.0 c.requires.ratio c.series-plus.ensures).1

pub overflow_add-result : goal.overflow_add-result
overflow_add-result t c =
    let d = divisor-some c.args.first c.requires.first.0 in let e = c.from-divisor.ensures in
    let b = term-small c.args.over c.args.under c.from-divisor.result c.series-plus.result.1 c.requires.some (omega (arith, d, e)) c.requires.ratio
    (third-small _ _ _ _ c.series-plus.result c.requires.some c.requires.first.0 c.requires.ratio c.series-plus.ensures).1 in
    let f = c.term-added.ensures in record { fits = omega (arith, b, f) }

pub term-requires-clause-sum : goal.term-requires-clause-sum
term-requires-clause-sum t c = (third-small _ _ _ _ c.series-plus.result c.requires.some c.requires.first.0 c.requires.ratio c.series-plus.ensures).0

pub returns : goal.returns
returns t c = made _ _ _ _ _ _ _ c.series-plus.result c.term-added.ensures c.term.ensures c.from-divisor.ensures
    (omega (arith, c.if-terms-eq0.false)) c.series-plus.ensures
