-- How the refusals of limits are printed (this profile): their code, their name, and the line.
use Rattle.std.specs.Prelude.{ℕ, List, ◌++◌, codes, decimal}
use Rattle.deviations.specs.declared.limit_faults.LimitsFault.{LimitsFault}
use Rattle.deviations.specs.declared.limit_faults.LimitsFault.TheVariants as fault

-- a refusal with its line
abbrev pub fault_text : LimitsFault → List ℕ
fault_text (fault.NotLimit line) = codes "M1 NotLimit at line " ++ decimal line
fault_text (fault.Twice line) = codes "M2 Twice at line " ++ decimal line
fault_text (fault.EmptyRange line) = codes "M3 EmptyRange at line " ++ decimal line
fault_text fault.Memory = codes "out of memory"
