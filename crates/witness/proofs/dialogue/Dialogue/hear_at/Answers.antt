use Rattle.witness.proofs.Names.{◌≡◌, ap, Dialogue, get_or, length, List, refl, slice_get, slice_get_read, Some, subst, Use}
use Rattle.witness.proofs.dialogue.Dialogue.hear_at.Goals as goal

pub returns : goal.returns
returns c =
    let read : c.index.result.now ≡ get_or c.args.self.now.uses c.args.at c.index.result.now =
    subst (λ (us : List Use). c.index.result.now ≡ get_or us c.args.at c.index.result.now)
    (ap (λ (d : Dialogue). d.uses) c.self.view_is) c.index.ensures in
    let there : slice_get c.args.self.now.uses c.args.at ≡ Some c.index.result.now =
    slice_get_read c.args.self.now.uses (length c.args.self.now.uses) c.args.at c.index.result.now refl c.requires read in
    rw there (rw (c.heard_as-heard.ensures, c.is_end.ensures) at (c.hear.ensures c.index.result.now there))
