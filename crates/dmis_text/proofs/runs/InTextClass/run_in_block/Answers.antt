use Rattle.dmis_text.proofs.Names.{is_in_text, length-chunk, refl, zip2_splat}
use lib.Lanes.{chunk}
use Rattle.dmis_text.proofs.Lanes.{of_both, run_of}
use Rattle.dmis_text.proofs.runs.InTextClass.run_in_block.Goals as goal

pub returns : goal.returns
returns c =
    let v = chunk c.args.at 16 c.args.bytes.now in
    let long = length-chunk c.args.at 16 c.args.bytes.now c.requires in
    run_of is_in_text c.args.bytes.now c.args.at _ _ c.requires c.type_inv.bytes c.lowest_set.ensures _
    (of_both _ _ _ v (of_both _ _ _ v
    (of_both _ _ _ v (zip2_splat _ v 16 32 long) (zip2_splat _ v 16 9 long))
    (zip2_splat _ v 16 39 long)) (zip2_splat _ v 16 127 long)) refl
