-- What is printed of an audit, and its exit status (this profile).
use Rattle.std.specs.Prelude.{ℕ, ◌-◌, List, [], ◌++◌, codes, decimal, slice_get}
use Rattle.std.specs.List.{flat_map}
use Rattle.std.specs.Option.{option_map_or}
use Rattle.contact_ledger.specs.declared.features.Feature.{Feature}
use Rattle.ledger_audit.specs.declared.verdicts.Verdict.{Verdict}
use Rattle.ledger_audit.specs.declared.verdicts.Verdict.TheVariants.{Starts, NoRun}

-- the numbers at which runs begin, a space before each
abbrev pub start_fields : List ℕ → List ℕ
start_fields starts = flat_map (λ start. codes " " ++ decimal start) starts

-- the label of the feature of this number, counted from 1
abbrev pub label_at : List Feature → ℕ → List ℕ
label_at features count = option_map_or (λ f. f.label) (slice_get features (count - 1)) []

-- a verdict as a line
abbrev pub verdict_text : List Feature → Verdict → List ℕ
verdict_text features (Starts starts) = codes "RUNS" ++ (start_fields starts ++ codes "\n")
verdict_text features (NoRun count) = codes "NONE " ++ (decimal count ++ (codes " " ++ (label_at features count ++ codes "\n")))

-- 3 for an audit without runs
abbrev pub verdict_status : Verdict → ℕ
verdict_status (Starts starts) = 0
verdict_status (NoRun count) = 3
