use Rattle.std.proofs.Common.{◌*◌, ◌^◌, arith}
use Rattle.std.proofs.lemmas.Nat.{mul-le}
use Rattle.std.proofs.Math.Nat.{div-le_of_le-mul}
use Rattle.program_flow.proofs.Series.{apart-small}
use Rattle.program_flow.proofs.angles.tangent.Goals as goal

pub overflow_mul-abs_diff : goal.overflow_mul-abs_diff
overflow_mul-abs_diff c =
    let a = apart-small c.split-negative.result.1 c.split-negative.result.2 20 2 c.abs_diff.result c.series-more.result (omega arith) (omega arith)
    (omega arith) c.series-more.ensures c.abs_diff.ensures in
    let b = mul-le c.abs_diff.result c.split-negative.result.1 (1545 * 10 ^ 17) (10 ^ 18) a (omega arith) in
    record { fits = omega (arith, b) }

pub quotient_of-requires-clause-sine : goal.quotient_of-requires-clause-sine
quotient_of-requires-clause-sine c =
    let a = apart-small c.split-negative.result.1 c.split-negative.result.2 20 2 c.abs_diff.result c.series-more.result (omega arith) (omega arith)
    (omega arith) c.series-more.ensures c.abs_diff.ensures in
    let b = mul-le c.abs_diff.result c.split-negative.result.1 (1545 * 10 ^ 17) (c.split-negative.result.2 * 7) a (omega arith) in
    div-le_of_le-mul c.split-negative.result.2 (omega (arith, b))

pub quotient_of-requires-clause-cosine : goal.quotient_of-requires-clause-cosine
quotient_of-requires-clause-cosine c =
    let a = apart-small c.split-negative.result.1 c.split-negative.result.2 20 1 c.abs_diff-2.result c.series-plus.result (omega arith) (omega arith)
    (omega arith) c.series-plus.ensures c.abs_diff-2.ensures in omega (arith, a)
