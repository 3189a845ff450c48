-- How the refusals of a setup are printed (this profile): their code, their name, and the line. The reason for a bad numeral is not
-- printed.
use Rattle.std.specs.Prelude.{ℕ, List, ◌++◌, codes, decimal}
use Rattle.tool_rack.specs.declared.faults.SetupFault.{SetupFault}
use Rattle.tool_rack.specs.declared.faults.SetupFault.TheVariants as fault

-- a refusal with its line
abbrev pub fault_text : SetupFault → List ℕ
fault_text (fault.BadLine line) = codes "S1 BadLine at line " ++ decimal line
fault_text (fault.Twice line) = codes "S2 Twice at line " ++ decimal line
fault_text (fault.BadNumeral line) = codes "S3 BadNumeral at line " ++ decimal line
fault_text fault.Memory = codes "out of memory"
