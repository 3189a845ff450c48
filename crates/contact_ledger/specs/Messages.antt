-- How the refusals of a text are printed (this profile): their code, their name, and the line.
use Rattle.std.specs.Prelude.{ℕ, List, ◌++◌, codes, decimal}
use Rattle.contact_ledger.specs.declared.faults.TextFault.{TextFault}
use Rattle.contact_ledger.specs.declared.faults.TextFault.TheVariants as fault

-- a refusal with its line
abbrev pub fault_text : TextFault → List ℕ
fault_text (fault.Damaged line) = codes "K1 Damaged at line " ++ decimal line
fault_text fault.Memory = codes "out of memory"
