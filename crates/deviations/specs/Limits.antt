-- The limits that a text says, and the one of a feature (this profile).
use Rattle.std.specs.Prelude.{◌≡◌, ℕ, ◌+◌, Bool, false, List, [], ◌∷◌, ◌++◌, Option, Some, None, is_some, is_none, Result, Ok, Err, if◌then◌else◌}
use Rattle.std.specs.Option.{option_or}
use Rattle.std.specs.Str.{bytes_eq}
use Rattle.std.specs.Str.Lines.{lines}
use Rattle.deviations.specs.Entries.{entry_on}
use Rattle.deviations.specs.declared.entries.Limit.{Limit}
use Rattle.deviations.specs.declared.limit_faults.LimitsFault.{LimitsFault}
use Rattle.deviations.specs.declared.limit_faults.LimitsFault.TheVariants as fault
use Rattle.deviations.specs.declared.ranges.Range.{Range}

-- a line names this label
abbrev pub is_named : Option (List ℕ) → List ℕ → Bool
is_named (Some own) label = bytes_eq own label
is_named None label = false

-- the range of the line that names a label
abbrev pub own_range : List Limit → List ℕ → Option Range
own_range [] label = None
own_range (limit ∷ limits) label = if is_named limit.label label then Some limit.range else own_range limits label

-- the range of the line for all labels
abbrev pub common_range : List Limit → Option Range
common_range [] = None
common_range (limit ∷ limits) = if is_none limit.label then Some limit.range else common_range limits

-- the range of the line with this label
abbrev pub range_under : List Limit → Option (List ℕ) → Option Range
range_under limits (Some label) = own_range limits label
range_under limits None = common_range limits

-- the range for the points of a feature: its own line goes over the one for all labels
abbrev pub range_for : List Limit → List ℕ → Option Range
range_for limits label = option_or (own_range limits label) (common_range limits)

-- the lines above and what line n says: it is refused by itself, or for a label that is above
abbrev pub judged : ℕ → List Limit → Result (Option Limit) LimitsFault → Result (List Limit) LimitsFault
judged n above (Err fault) = Err fault
judged n above (Ok None) = Ok above
judged n above (Ok (Some limit)) = if is_some (range_under above limit.label) then Err (fault.Twice n) else Ok (above ++ limit ∷ [])

-- one step, and then the next with what it gave
abbrev pub and_then : Result (List Limit) LimitsFault → (List Limit → Result (List Limit) LimitsFault) → Result (List Limit) LimitsFault
and_then (Ok x) f = f x
and_then (Err e) f = Err e

-- what lines say below those that said `above`, the first of them with number n; or the refusal of the first line that is refused
abbrev pub limits_from : ℕ → List Limit → List (List ℕ) → Result (List Limit) LimitsFault
limits_from n above [] = Ok above
limits_from n above (line ∷ lines) = and_then (judged n above (entry_on n line)) (λ more. limits_from (n + 1) more lines)

-- the limits of a text, or the refusal of its first line that is refused. A line ends with LF or CR LF, the last may lack its end
unfoldable pub limits_of : List ℕ → Result (List Limit) LimitsFault
limits_of text = limits_from 1 [] (lines text)

-- this fault is due; running out of memory says nothing of the text
abbrev pub IsDue : {A : Type 0} → Result A LimitsFault → LimitsFault → Type 0
IsDue due (fault.NotLimit n) = due ≡ Err (fault.NotLimit n)
IsDue due (fault.Twice n) = due ≡ Err (fault.Twice n)
IsDue due (fault.EmptyRange n) = due ≡ Err (fault.EmptyRange n)
IsDue due fault.Memory = Unit {0}

-- what reading limits gives is what is due, unless memory ran out
abbrev pub GivesLimits : {A : Type 0} → Result A LimitsFault → Result A LimitsFault → Type 0
GivesLimits (Ok x) due = due ≡ Ok x
GivesLimits (Err fault) due = IsDue due fault
