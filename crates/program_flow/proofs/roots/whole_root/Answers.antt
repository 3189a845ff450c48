use Rattle.std.proofs.Common.{arith}
use Rattle.program_flow.proofs.WholeRoots.{one_whole, whole, whole_below}
use Rattle.program_flow.proofs.roots.whole_root.Goals as goal

pub returns-clause-value : goal.returns-clause-value
returns-clause-value c = one_whole c.args.square _ _ (record { reached = c.isqrt.ensures.square_le; short = c.isqrt.ensures.next_square_gt })
    (whole c.args.square (omega (arith, c.requires)))

pub returns-clause-within : goal.returns-clause-within
returns-clause-within c = whole_below c.args.square _ 1000000000000000000
    (record { reached = c.isqrt.ensures.square_le; short = c.isqrt.ensures.next_square_gt }) (omega (arith, c.requires))
