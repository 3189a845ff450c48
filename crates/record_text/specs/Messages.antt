-- How the refusals of a record are printed (this profile): their code, their name, and the line.
use Rattle.std.specs.Prelude.{ℕ, List, ◌++◌, codes, decimal}
use Rattle.record_text.specs.declared.faults.RecordFault.{RecordFault}
use Rattle.record_text.specs.declared.faults.RecordFault.TheVariants as fault

-- a refusal with its line
abbrev pub fault_text : RecordFault → List ℕ
fault_text (fault.Damaged line) = codes "J1 Damaged at line " ++ decimal line
fault_text fault.Memory = codes "out of memory"
