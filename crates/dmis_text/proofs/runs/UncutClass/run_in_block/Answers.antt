use Rattle.dmis_text.proofs.Names.{eqb, length-chunk, not, refl, zip2_splat}
use lib.Lanes.{chunk}
use Rattle.dmis_text.proofs.Lanes.{run_of}
use Rattle.dmis_text.proofs.runs.UncutClass.run_in_block.Goals as goal

pub returns : goal.returns
returns c =
    let v = chunk c.args.at 16 c.args.bytes.now in
    let long = length-chunk c.args.at 16 c.args.bytes.now c.requires in
    run_of (λ x. not (eqb x 44)) c.args.bytes.now c.args.at _ _ c.requires c.type_inv.bytes c.lowest_set.ensures _
    (zip2_splat _ v 16 44 long) refl
