use Rattle.std.proofs.Common.{refl}
use Rattle.std.specs.Fmt.{digits}
use Rattle.fixed_um.specs.Written.{written}
use Rattle.link_world.proofs.texts.report_rows.contact_rows.Goals as goal

pub returns-clause-lines : goal.returns-clause-lines
unfolding written digits
returns-clause-lines c = refl

pub returns-clause-far : goal.returns-clause-far
unfolding written digits
returns-clause-far c = refl
