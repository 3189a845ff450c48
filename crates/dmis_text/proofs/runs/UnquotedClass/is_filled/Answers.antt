use Rattle.dmis_text.proofs.Names.{eqb-true, is_unquoted, length-chunk, refl, zip2_splat}
use lib.Lanes.{chunk}
use Rattle.dmis_text.proofs.Lanes.{filled_of}
use Rattle.dmis_text.proofs.runs.UnquotedClass.is_filled.Goals as goal

pub returns : goal.returns
returns c = λ filled.
    let v = chunk c.args.at 64 c.args.bytes.now in
    let long = length-chunk c.args.at 64 c.args.bytes.now c.requires in
    filled_of is_unquoted c.args.bytes.now c.args.at _ c.requires c.type_inv.bytes (eqb-true _ _ filled) _
    (zip2_splat _ v 64 39 long) refl
