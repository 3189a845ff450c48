use Rattle.run_session.proofs.Names.{refl}
use Rattle.run_session.proofs.ErrorLines.{has_refusal}
use Rattle.run_session.proofs.errors.has_line.Goals as goal

pub returns : goal.returns
returns c = (record { printed = has_refusal c.args.error.now c.type_inv.error c.requires; form = refl }, tt)
