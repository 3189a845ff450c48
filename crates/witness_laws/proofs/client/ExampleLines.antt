-- The lines of the examples, as they are read.
use Rattle.witness_laws.proofs.Names.{◌∷◌, ◌≡◌, [], arith, Command, Event, IsWritable, Ok, refl, response_of, Std}
use Rattle.dme_line.specs.declared.responses.Mark.{Mark}
use Rattle.record_text.specs.ToldExamples.{completed}
use Rattle.witness_laws.specs.ClientExamples.{zero}
use Rattle.witness_laws.proofs.orders.Readings.{one_mark}

-- a command is complete
pub completed_reads : response_of completed ≡ Ok (record { tag = Std 7; mark = Mark.Done })
completed_reads = one_mark completed (37 ∷ []) (Std 7) Mark.Done (omega arith) refl ([], refl, refl)

pub zero_reads : response_of zero ≡ Ok (record { tag = Event 0; mark = Mark.Done })
zero_reads = one_mark zero (37 ∷ []) (Event 0) Mark.Done (omega arith) refl ([], refl, refl)

-- a homing and an abort can be written
pub home_one : IsWritable (Std 1) Command.Home
home_one = record { tagged = record { numbered = (omega arith, omega arith); sort = refl }; arguments = tt }

pub abort_one : IsWritable (Event 1) Command.AbortE
abort_one = record { tagged = record { numbered = (omega arith, omega arith); sort = refl }; arguments = tt }
