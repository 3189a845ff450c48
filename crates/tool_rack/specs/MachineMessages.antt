-- How the refusals of a machine's file are printed (this profile): their code, their name, and the line.
use Rattle.std.specs.Prelude.{ℕ, List, ◌++◌, codes, decimal}
use Rattle.tool_rack.specs.declared.machine_faults.MachineFault.{MachineFault}
use Rattle.tool_rack.specs.declared.machine_faults.MachineFault.TheVariants as fault

-- a refusal with its line
abbrev pub fault_text : MachineFault → List ℕ
fault_text (fault.BadLine line) = codes "D1 BadLine at line " ++ decimal line
fault_text (fault.Twice line) = codes "D2 Twice at line " ++ decimal line
fault_text fault.Memory = codes "out of memory"
