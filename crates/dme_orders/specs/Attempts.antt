-- The contacts of discarded attempts: those that a server reported and that are in no run of a feature (this profile).
use Rattle.std.specs.Prelude.{ℕ, zero, suc, ◌+◌, ◌-◌, List, [], ◌∷◌, ◌++◌, length, codes, decimal, drop}
use Rattle.contact_ledger.specs.declared.features.Feature.{Feature}
use Rattle.dmis_program.specs.declared.features.Wanted.{Wanted}
use Rattle.ledger_audit.specs.declared.verdicts.Verdict.{Verdict}
use Rattle.ledger_audit.specs.declared.verdicts.Verdict.TheVariants.{Starts, NoRun}

-- the line of n of a feature; none has no line
abbrev pub attempt_line : ℕ → List ℕ → List ℕ
attempt_line zero label = []
attempt_line (suc n) label = label ++ (codes ": contacts of attempts that were discarded: " ++ (decimal (suc n) ++ codes "\n"))

unfoldable pub after_last : List ℕ
after_last = codes "after the last feature"

-- those after the last run, of the feature that is missing first
abbrev pub last_line : ℕ → List Wanted → List ℕ
last_line n [] = attempt_line n after_last
last_line n (w ∷ missing) = attempt_line n w.label

-- those between the end of a run, or the first contact, and the start of the next, feature by feature, and those after the last
unfoldable pub lines_from : ℕ → ℕ → List Wanted → List Feature → List ℕ → List ℕ
lines_from total at missing [] starts = last_line (total - at) missing
lines_from total at missing (f ∷ features) [] = []
lines_from total at missing (f ∷ features) (s ∷ starts) =
    attempt_line (s - at) f.label ++ lines_from total (s + length f.points) missing features starts

-- where an audit finds no runs nothing is said
abbrev pub attempt_lines : (total : ℕ) → List Wanted → List Feature → Verdict → List ℕ
attempt_lines total wanted features (NoRun count) = []
attempt_lines total wanted features (Starts starts) = lines_from total 0 (drop (length features) wanted) features starts
