-- Labels with values (this profile): for 1 and 11, and for 11 and 1, `F(P@I@J)` is `F(P111)`, and these are two features. So the label of a `FEAT` or
-- of a `MEAS` that has an `@` is compared by its parts, its bytes and values in their order, with those by which its name was first composed above.
-- A label without `@` is not: who writes it names that feature.
use Rattle.std.specs.Prelude.{ℕ, ◌==◌, Bool, false, not, List, [], ◌∷◌, codes, bytes_eq, flat_map, Option, Some, None, if◌then◌else◌}
use Rattle.std.specs.List.{list_any}
use Rattle.std.specs.Option.{option_or, option_zip}
use Rattle.std.specs.Result.{result_ok}
use Rattle.dmis_text.specs.declared.elements.Statement.{Statement}
use Rattle.program_flow.specs.LookBack.{value_said}
use Rattle.program_flow.specs.Texts.{expanded}
use Rattle.program_flow.specs.Values.{Valuation, is_name_byte}

-- a byte of a label, with a mark before each that is not of a name: 0 before an `@`, else 1. So a value is between two marks, and the parts are cut
-- where they are in the label
abbrev pub apart : ℕ → List ℕ
apart c = if is_name_byte c then c ∷ [] else (if c == 64 then 0 else 1) ∷ (c ∷ [])

-- the name that a label with an `@` (64) is by these values, and its parts
abbrev pub composed_of : Valuation → List ℕ → Option (List ℕ × List ℕ)
composed_of values label = if list_any (λ b. b == 64) label
    then option_zip (result_ok (expanded values label)) (result_ok (expanded values (flat_map apart label))) else None

-- the label of a `FEAT`, and that which a `MEAS` names
abbrev pub second : List (List ℕ) → Option (List ℕ)
second (kind ∷ (label ∷ rest)) = Some label
second _ = None

abbrev pub label_of : Statement → Option (List ℕ)
label_of s = if bytes_eq s.word (codes "FEAT") then s.label else if bytes_eq s.word (codes "MEAS") then second s.params else None

abbrev pub composed_in : Valuation → Option (List ℕ) → Option (List ℕ × List ℕ)
composed_in values None = None
composed_in values (Some label) = composed_of values label

abbrev pub composed : Valuation → Statement → Option (List ℕ × List ℕ)
composed values s = composed_in values (label_of s)

-- the parts by which a name was first composed
abbrev pub parts_if : List ℕ → Option (List ℕ × List ℕ) → Option (List ℕ)
parts_if name None = None
parts_if name (Some c) = if bytes_eq c.0 name then Some c.1 else None

abbrev pub first_parts : List Statement → List ℕ → Option (List ℕ)
first_parts [] name = None
first_parts (s ∷ above) name = option_or (first_parts above name) (parts_if name (composed (value_said above) s))

-- a label has the name of another feature
abbrev pub differs : List ℕ → Option (List ℕ) → Bool
differs parts None = false
differs parts (Some first) = not (bytes_eq parts first)

abbrev pub is_other : (List ℕ → Option (List ℕ)) → Option (List ℕ × List ℕ) → Bool
is_other first None = false
is_other first (Some c) = differs c.1 (first c.0)

abbrev pub collides : List Statement → Statement → Bool
collides above s = is_other (first_parts above) (composed (value_said above) s)
