use Rattle.std.proofs.Common.{◌*◌, ◌^◌, arith}
use Rattle.std.proofs.lemmas.Nat.{mul-le}
use Rattle.program_flow.proofs.Series.{apart-small}
use Rattle.program_flow.proofs.angles.sine.Goals as goal

pub overflow_mul-abs_diff : goal.overflow_mul-abs_diff
overflow_mul-abs_diff c =
    let a = apart-small c.split-negative.result.1 c.split-negative.result.2 20 2 c.abs_diff.result c.series-plus.result (omega arith) (omega arith)
    (omega arith) c.series-plus.ensures c.abs_diff.ensures in
    let b = mul-le c.abs_diff.result c.split-negative.result.1 (1545 * 10 ^ 17) (10 ^ 18) a (omega arith) in
    record { fits = omega (arith, b) }

pub decimal_of-requires-clause-over : goal.decimal_of-requires-clause-over
decimal_of-requires-clause-over c =
    let a = apart-small c.split-negative.result.1 c.split-negative.result.2 20 2 c.abs_diff.result c.series-plus.result (omega arith) (omega arith)
    (omega arith) c.series-plus.ensures c.abs_diff.ensures in
    let b = mul-le c.abs_diff.result c.split-negative.result.1 (1545 * 10 ^ 17) (10 ^ 18) a (omega arith) in omega (arith, b)
