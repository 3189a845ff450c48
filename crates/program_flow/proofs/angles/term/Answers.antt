use Rattle.std.proofs.Common.{◌*◌, ◌/◌, ◌^◌, ◌≤◌, arith, mul-le-mul}
use Rattle.std.proofs.Math.Nat.{div-le_of_le-mul}
use Rattle.program_flow.proofs.angles.term.Goals as goal

pub overflow_mul-result-2 : goal.overflow_mul-result-2
overflow_mul-result-2 c =
    let a : c.args.over * c.args.sum ≤ c.args.under * 7 * (63 * 10 ^ 17) = mul-le-mul c.requires.ratio c.requires.sum in
    let b : c.args.over * c.args.sum / c.args.under ≤ 441 * 10 ^ 17 = div-le_of_le-mul c.args.under (omega (arith, a)) in
    let d : c.args.over * (c.args.over * c.args.sum / c.args.under) ≤ 10 ^ 18 * (441 * 10 ^ 17) = mul-le-mul c.requires.over b in
    record { fits = omega (arith, d) }
