use Rattle.std.proofs.Common.{◌*◌, ◌/◌, ◌^◌, ◌∙◌, ap, arith}
use Rattle.std.proofs.Math.Nat.{div-le_of_le-mul}
use Rattle.program_flow.proofs.WholeRoots.{staged}
use Rattle.program_flow.proofs.roots.in_square_units.Goals as goal

pub returns-clause-value : goal.returns-clause-value
returns-clause-value c = staged (c.args.over * 1000000000000) 1000000000000 c.args.under c.requires.some ∙ ap (λ n. n / c.args.under) (omega arith)

pub returns-clause-within : goal.returns-clause-within
returns-clause-within c = let e = staged (c.args.over * 1000000000000) 1000000000000 c.args.under c.requires.some in
    let f = div-le_of_le-mul c.args.under {m = c.args.over * 1000000000000 * 1000000000000} {n = 10 ^ 36} (omega arith) in omega (arith, e, f)
