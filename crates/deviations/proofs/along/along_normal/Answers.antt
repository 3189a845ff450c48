use Rattle.std.proofs.Common.{rules}
use Rattle.deviations.proofs.Roots.{along_is}
use Rattle.deviations.proofs.along.along_normal.Goals as goal

pub returns-clause-along : goal.returns-clause-along
returns-clause-along c =
    along_is c.args.deviation c.args.direction c.scalar_product-product.result c.unsigned_abs-magnitude.result c.squared_length.result
    c.nearest_root-root.result _ (search rules) (search rules) (search rules) (search rules) (search rules) (search rules)
