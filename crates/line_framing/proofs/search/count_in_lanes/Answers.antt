use Rattle.line_framing.proofs.Names.{is_content, length-chunk, refl, zip2_splat}
use lib.Lanes.{chunk}
use Rattle.line_framing.proofs.Lanes.{of_both, run_of}
use Rattle.line_framing.proofs.search.count_in_lanes.Goals as goal

pub returns : goal.returns
returns c =
    let v = chunk c.args.at 16 c.args.bytes.now in
    let long = length-chunk c.args.at 16 c.args.bytes.now c.requires in
    run_of is_content c.args.bytes.now c.args.at _ _ c.requires c.type_inv.bytes c.lowest_set.ensures _
    (of_both _ _ _ v (zip2_splat _ v 16 13 long) (zip2_splat _ v 16 10 long)) refl
