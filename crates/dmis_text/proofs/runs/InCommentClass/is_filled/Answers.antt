use Rattle.dmis_text.proofs.Names.{eqb-true, is_in_comment, length-chunk, refl, zip2_splat}
use lib.Lanes.{chunk}
use Rattle.dmis_text.proofs.Lanes.{of_both, filled_of}
use Rattle.dmis_text.proofs.runs.InCommentClass.is_filled.Goals as goal

pub returns : goal.returns
returns c = λ filled.
    let v = chunk c.args.at 64 c.args.bytes.now in
    let long = length-chunk c.args.at 64 c.args.bytes.now c.requires in
    filled_of is_in_comment c.args.bytes.now c.args.at _ c.requires c.type_inv.bytes (eqb-true _ _ filled) _
    (of_both _ _ _ v (zip2_splat _ v 64 32 long) (zip2_splat _ v 64 127 long)) refl
