use Rattle.witness_laws.proofs.Names.{◌++◌, ◌∷◌, ◌≡◌, [], Act, ap, arith, codes, Command, command_of, command_read, Down, IsWritable, Line, LineFault}
use Rattle.witness_laws.proofs.Names.{List, map, None, Ok, reading_of, refl, reply_texts, Result, server_read, Std, Tag, Up}
use Rattle.dme_line.specs.Written.{written_command}
use Rattle.witness_laws.specs.ServerExamples.{serving}
use Rattle.witness_laws.proofs.server_examples.transit_rows.Goals as goal

writable : IsWritable (Std 1) Command.Home
writable = record { tagged = record { numbered = (omega arith, omega arith); sort = refl }; arguments = tt }

home_read : command_of (codes "00001 Home()") ≡ Ok (Std 1, Command.Home)
unfolding written_command
home_read = command_read (Std 1) Command.Home writable

-- the lines of a call that reads this line, if it reads so
abbrev lines_as : Result (Tag × Command) LineFault → List Line
lines_as r = Up (codes "00001 Home()") ∷ (map Down (reply_texts (server_read (serving None [] []).server (reading_of r)).said) ++ [])

pub returns-clause-read : goal.returns-clause-read
returns-clause-read c = ap lines_as home_read

pub returns-clause-first : goal.returns-clause-first
returns-clause-first c = record { first = Act.Homed ∷ []; others = Act.Homed ∷ []; parts = refl; are = (refl, tt) }
