use Rattle.witness_laws.proofs.Names.{◌∙◌, ◌≡◌, [], ap, arith, codes, Command, command_of, command_read, false≢true, IsWritable, None, Ok, refl, Std}
use Rattle.witness_laws.proofs.Names.{sym}
use Rattle.dme_line.specs.Written.{written_command}
use Rattle.witness_laws.specs.Lockstep.{uses_again}
use Rattle.witness_laws.specs.ServerExamples.{serving, waits}
use Rattle.witness_laws.proofs.server_examples.course_rows.Goals as goal

writable : IsWritable (Std 7) Command.Home
writable = record { tagged = record { numbered = (omega arith, omega arith); sort = refl }; arguments = tt }

home_read : command_of (codes "00007 Home()") ≡ Ok (Std 7, Command.Home)
unfolding written_command
home_read = command_read (Std 7) Command.Home writable

pub returns-clause-again : goal.returns-clause-again
returns-clause-again c =
    λ course. false≢true (sym course.1
    ∙ ap (uses_again (serving None (waits Command.Home) []).server) home_read)
