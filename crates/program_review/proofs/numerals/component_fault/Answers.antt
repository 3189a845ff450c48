use Rattle.program_review.proofs.NumeralLemmas.{component_fault-is}
use Rattle.program_review.proofs.numerals.component_fault.Goals as goal

pub returns-in-Ok : goal.returns-in-Ok
returns-in-Ok c = rw c.in-Ok.is at (component_fault-is c.args.text.now c.read_dir.result c.read_dir.ensures)

pub returns-in-Err : goal.returns-in-Err
returns-in-Err c = rw c.in-Err.is at (component_fault-is c.args.text.now c.read_dir.result c.read_dir.ensures)
