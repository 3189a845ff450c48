use Rattle.std.proofs.Common.{refl}
use Rattle.std.specs.Fmt.{digits}
use Rattle.link_world.proofs.worlds.trace_rows.event_rows.Goals as goal

pub returns-clause-sends : goal.returns-clause-sends
unfolding digits
returns-clause-sends c = λ w. refl

pub returns-clause-answers : goal.returns-clause-answers
unfolding digits
returns-clause-answers c = λ w. refl

pub returns-clause-leaves : goal.returns-clause-leaves
unfolding digits
returns-clause-leaves c = λ w. refl

pub returns-clause-passes : goal.returns-clause-passes
unfolding digits
returns-clause-passes c = λ w. refl
