-- How many of the refused statements of a program `dme lower` takes, and what they are for, in groups (this profile).
use Rattle.std.specs.Prelude.{ℕ, Bool, true, false, List, [], ◌∷◌, ◌++◌, length, map, ◌==◌, if◌then◌else◌}
use Rattle.std.specs.List.{filter, list_any}
use Rattle.program_review.specs.declared.remarks.Remark.{Remark}
use Rattle.program_review.specs.declared.remarks.What.{What}
use Rattle.program_review.specs.declared.remarks.What.TheVariants as what
use Rattle.program_review.specs.declared.groups.Group.{Group}
use Rattle.program_review.specs.declared.groups.Group.TheVariants as group
use Rattle.program_review.specs.declared.taking.Taken.TheVariants as taken
use Rattle.program_review.specs.Findings.{lowered, summed}

-- the groups in the order of a summary
abbrev pub order : List Group
order = group.Coordinates ∷ group.ByHand ∷ group.Lengths ∷ group.Measuring ∷ group.Flow ∷ group.Motion ∷ group.Mistake ∷ group.Other ∷ group.Bookkeeping ∷ []

-- the number of a group in it
abbrev pub number_of : Group → ℕ
number_of group.Coordinates = 0
number_of group.Lengths = 1
number_of group.Measuring = 2
number_of group.Flow = 3
number_of group.Motion = 4
number_of group.Mistake = 5
number_of group.Other = 6
number_of group.Bookkeeping = 7
number_of group.ByHand = 8

-- some line is of this group
abbrev pub is_of : Group → What → Bool
is_of group (what.Refused refusal own taken) = number_of own == number_of group
is_of group _ = false

abbrev pub has_lines : List Remark → Group → Bool
has_lines found group = list_any (λ one. is_of group one.what) found

-- the summary has those groups that have lines
abbrev pub sums_in : List Remark → List Group → List Remark
sums_in found groups = map summed (filter (has_lines found) groups)

-- `dme lower` takes a refused statement
abbrev pub is_taken : What → Bool
is_taken (what.Refused refusal group taken.No) = false
is_taken (what.Refused refusal group how) = true
is_taken _ = false

abbrev pub count_taken : List Remark → ℕ
count_taken found = length (filter (λ one. is_taken one.what) found)

-- how many it takes of how many, if it takes one
abbrev pub lowered_in : List Remark → List Remark
lowered_in found = if count_taken found == 0 then [] else lowered (count_taken found) (length found) ∷ []

-- that first, and then the groups
abbrev pub summary_of : List Remark → List Remark
summary_of found = lowered_in found ++ sums_in found order
