-- Which branch of a SELECT is carried out (ISO 22093, SELECT, CASE and DFTCAS).
use Rattle.std.specs.Prelude.{ℕ, zero, suc, ◌+◌, Bool, true, false, not, ◌&&◌, List, [], ◌∷◌, Option, Some, None, Result, if◌then◌else◌}
use Rattle.std.specs.Result.{result_ok}
use Rattle.dmis_text.specs.declared.elements.Statement.{Statement}
use Rattle.program_flow.specs.Numbers.{and_then}
use Rattle.program_flow.specs.Pieces.{any_value}
use Rattle.program_flow.specs.Values.{Valuation, Value}
use Rattle.program_flow.specs.declared.faults.ValueFault.{ValueFault}
use Rattle.program_flow.specs.Blocks.{depth_after, is_end, matches, part_of}
use Rattle.program_flow.specs.Conditions.{values_compared}
use Rattle.program_flow.specs.declared.blocks.Part.{Part}
use Rattle.program_flow.specs.declared.blocks.Part.TheVariants.{Case, DefaultCase, EndSelect}
use Rattle.program_flow.specs.declared.conditions.Comparison.TheVariants.{Equal}
use Rattle.program_flow.specs.declared.selections.Choice.{Choice}
use Rattle.program_flow.specs.declared.selections.Choice.TheVariants.{Branch, NoBranch}
use Rattle.program_flow.specs.declared.selections.Search.{Search}
use Rattle.program_flow.specs.declared.selections.Search.TheVariants.{Found, Fails, Continues}

-- the value of a SELECT: it has one parameter
abbrev pub selected : Valuation → List (List ℕ) → Option Value
selected values (only ∷ []) = result_ok (any_value values only)
selected values _ = None

-- whether a text has this value, as `.EQ.` compares; none, if it has no value
abbrev pub equals : Valuation → Value → List ℕ → Option Bool
equals values v text = result_ok (and_then (any_value values text) (λ w. values_compared Equal v w))

abbrev pub or_later : Option Bool → Option Bool → Option Bool
or_later None later = None
or_later (Some true) later = Some true
or_later (Some false) later = later

-- whether one of the texts of a CASE has this value; none, if one before it has no value
unfoldable pub one_equals : Valuation → Value → List (List ℕ) → Option Bool
one_equals values v [] = Some false
one_equals values v (text ∷ texts) = or_later (equals values v text) (one_equals values v texts)

-- a CASE is the branch that is looked for, is passed over, or fails
abbrev pub case_seen : ℕ → Option Bool → Search
case_seen place None = Fails
case_seen place (Some true) = Found (Branch place)
case_seen place (Some false) = Continues

-- between the branches of a SELECT stand a CASE, a DFTCAS or its end
abbrev pub between_seen : ℕ → Part → Option Bool → Search
between_seen place Case equal = case_seen place equal
between_seen place DefaultCase equal = Found (Branch place)
between_seen place EndSelect equal = Found NoBranch
between_seen place _ equal = Fails

-- a branch that is passed over ends with its own end; its blocks are not judged
abbrev pub passed_seen : ℕ → Part → Search
passed_seen depth part = if is_end depth part && not (matches Case part) then Fails else Continues

-- what a statement means to the search: between branches, or within one, and there in as many more blocks
abbrev pub seen_at : ℕ → ℕ → Part → Option Bool → Search
seen_at zero place part equal = between_seen place part equal
seen_at (suc depth) place part equal = passed_seen depth part

abbrev pub searched : Search → Option Choice → Option Choice
searched (Found choice) below = Some choice
searched Fails below = None
searched Continues below = below

-- the branch of a SELECT of this value, in statements of which the first is in this place; none, if it cannot be found
unfoldable pub chosen : Valuation → Value → ℕ → ℕ → List Statement → Option Choice
chosen values v depth place [] = None
chosen values v depth place (s ∷ below) = searched (seen_at depth place (part_of s) (one_equals values v s.params))
    (chosen values v (depth_after depth (part_of s)) (place + 1) below)
