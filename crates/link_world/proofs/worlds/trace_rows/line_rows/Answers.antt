use Rattle.std.proofs.Common.{refl}
use Rattle.std.specs.Fmt.{digits}
use Rattle.link_world.proofs.worlds.trace_rows.line_rows.Goals as goal

pub returns-clause-client : goal.returns-clause-client
unfolding digits
returns-clause-client c = refl

pub returns-clause-server : goal.returns-clause-server
unfolding digits
returns-clause-server c = refl

pub returns-clause-lost : goal.returns-clause-lost
unfolding digits
returns-clause-lost c = refl

pub returns-clause-lost_answers : goal.returns-clause-lost_answers
unfolding digits
returns-clause-lost_answers c = refl

pub returns-clause-torn : goal.returns-clause-torn
unfolding digits
returns-clause-torn c = refl
