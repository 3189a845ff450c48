use Rattle.dmis_text.proofs.Names.{eqb-true, is_in_text, length-chunk, refl, splat_is_map, zip2_splat, ℕ}
use lib.Lanes.{chunk}
use Rattle.dmis_text.proofs.Lanes.{at_most, of_both, filled_of}
use Rattle.dmis_text.proofs.runs.InTextClass.is_filled.Goals as goal

pub returns : goal.returns
returns c = λ filled.
    let v = chunk c.args.at 64 c.args.bytes.now in
    let long = length-chunk c.args.at 64 c.args.bytes.now c.requires in
    filled_of is_in_text c.args.bytes.now c.args.at _ c.requires c.type_inv.bytes (eqb-true _ _ filled) _
    (of_both _ _ _ v (of_both at_most _ _ v (splat_is_map v 64 95 long) (zip2_splat {Y = ℕ} _ v 64 32 long)) (zip2_splat {Y = ℕ} _ v 64 39 long)) refl
