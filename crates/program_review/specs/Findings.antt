-- What a review has found, as it is printed: remarks with their sentences (this profile).
use Rattle.std.specs.Prelude.{ℕ, List, map}
use Rattle.program_review.specs.declared.groups.Group.{Group}
use Rattle.program_review.specs.declared.remarks.Finding.{Finding}
use Rattle.program_review.specs.declared.remarks.Remark.{Remark}
use Rattle.program_review.specs.declared.remarks.What.TheVariants as what

-- without their sentences
abbrev pub remarks_in : List Finding → List Remark
remarks_in findings = map (λ f. f.remark) findings

-- what refused statements of the program are for, on no line
abbrev pub summed : Group → Remark
summed group = record { what = what.Sum group; line = 0 }

-- `dme lower` takes that many of them
abbrev pub lowered : ℕ → ℕ → Remark
lowered taken count = record { what = what.Lowered taken count; line = 0 }
