use Rattle.std.proofs.Common.{arith}
use Rattle.program_flow.proofs.Series.{apart-small}
use Rattle.program_flow.proofs.angles.cosine.Goals as goal

pub decimal_of-requires-clause-over : goal.decimal_of-requires-clause-over
decimal_of-requires-clause-over c =
    let a = apart-small c.split-over.result.1 c.split-over.result.2 20 1 c.abs_diff.result c.series-plus.result (omega arith) (omega arith)
    (omega arith) c.series-plus.ensures c.abs_diff.ensures in omega (arith, a)
