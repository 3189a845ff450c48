use Rattle.std.proofs.Common.{refl}
use Rattle.drawings.proofs.examples.features_have_their_rows.Goals as goal

pub returns : goal.returns
returns c = refl
