use Rattle.std.proofs.Common.{refl}
use Rattle.std.specs.Fmt.{digits}
use Rattle.fixed_um.specs.Written.{written}
use Rattle.link_world.proofs.texts.report_rows.report_rows.Goals as goal

pub returns-clause-done : goal.returns-clause-done
unfolding written digits
returns-clause-done c = refl

pub returns-clause-left : goal.returns-clause-left
unfolding written digits
returns-clause-left c = refl

pub returns-clause-featured : goal.returns-clause-featured
unfolding written digits
returns-clause-featured c = refl
