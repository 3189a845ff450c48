use Rattle.dmis_program.proofs.Names.{◌≡◌, length, program_of}
use Rattle.dmis_program.proofs.CarryingRuns.{run}
use Rattle.dmis_program.proofs.Sound.{IsSound}
use Rattle.dmis_program.proofs.programs.Program.read.Given as goal

-- what is carried and the statements left give the meaning of the whole text
abbrev pub invariant-loop-reader : goal.invariant-loop-reader
invariant-loop-reader l = (run l.frames l.statements.fault l.statements.lines l.statements.left l.reader ≡ program_of l.frames l.bytes)
    × IsSound l.reader

abbrev pub decreases-loop-reader : goal.decreases-loop-reader
decreases-loop-reader l = length l.statements.left
