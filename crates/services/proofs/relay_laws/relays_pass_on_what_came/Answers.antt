use Rattle.services.proofs.Courses.{has_course}
use Rattle.services.proofs.Relayed.{all_whole}
use Rattle.services.proofs.relay_laws.relays_pass_on_what_came.Goals as goal

pub returns-clause-up : goal.returns-clause-up
returns-clause-up c = λ number is_told f r h. (all_whole number is_told f r h).up

pub returns-clause-down : goal.returns-clause-down
returns-clause-down c = λ number is_told f r h. (all_whole number is_told f r h).down

pub returns-clause-course : goal.returns-clause-course
returns-clause-course c = λ number f r h. has_course number f r h
