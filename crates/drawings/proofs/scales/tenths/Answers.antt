use Rattle.std.proofs.Common.{rules, arith, ◌≡◌, ◌*◌, ◌%◌, [], ◌∷◌, slice_index_or}
use Rattle.drawings.specs.Scales.{tenths}
use Rattle.drawings.proofs.Paper.{tenths_most, tenths_some}
use Rattle.drawings.proofs.scales.tenths.Goals as goal

pub returns-clause-some : goal.returns-clause-some
returns-clause-some c =
    let value : slice_index_or (10 ∷ 20 ∷ 25 ∷ 30 ∷ 40 ∷ 50 ∷ []) (c.args.index % 6) 0 * c.pow.result ≡ tenths c.args.index = search rules in
    rw value (tenths_some c.args.index)

pub returns-clause-within : goal.returns-clause-within
returns-clause-within c =
    let value : slice_index_or (10 ∷ 20 ∷ 25 ∷ 30 ∷ 40 ∷ 50 ∷ []) (c.args.index % 6) 0 * c.pow.result ≡ tenths c.args.index = search rules in
    let few = c.requires in
    rw value (tenths_most c.args.index (omega (arith, few)))
