-- Programs with values (ISO 22093, DECL and ASSIGN): each statement with its values, by looking back in what was carried out above it. Below a
-- declaration, in the words that command something, each `@NAME` becomes its digits or its letters and an expression that has a value becomes a numeral (this
-- profile). A statement whose values have a fault, or which no line holds, has no parameters: so it is refused, where it is, for what it lacks.
-- Likewise a `FEAT` with a label, and its label; without parameters, it defines nothing. A label that is the name of another feature is a fault.
use Rattle.std.specs.Prelude.{ℕ, Bool, true, false, not, ◌&&◌, ◌||◌, List, [], ◌∷◌, length, nat_le, codes, bytes_eq, Option, Some, None}
use Rattle.std.specs.Prelude.{is_none, Result, Ok, Err, if◌then◌else◌}
use Rattle.std.specs.List.{list_all}
use Rattle.std.specs.Result.{result_ok}
use Rattle.dmis_text.specs.Statements.{has_open_text}
use Rattle.dmis_text.specs.declared.elements.Statement.{Statement}
use Rattle.dmis_program.specs.Keywords.{is_among}
use Rattle.program_flow.specs.Flow.{carried}
use Rattle.program_flow.specs.LookBack.{is_declaration, value_said}
use Rattle.program_flow.specs.Numbers.{and_then}
use Rattle.program_flow.specs.Texts.{expanded}
use Rattle.program_flow.specs.Values.{Valuation, computed, written}
use Rattle.program_flow.specs.declared.faults.ValueFault.{ValueFault}
use Rattle.program_flow.specs.declared.faults.ValueFault.TheVariants.{UnknownName}
use Rattle.program_lowering.specs.Flats.{flat, flat_text}
use Rattle.program_lowering.specs.Labels.{collides}
use Rattle.program_lowering.specs.OperatorTexts.{is_plain, is_solid}

-- whether a variable is declared
abbrev pub has_variables : List Statement → Bool
has_variables [] = false
has_variables (s ∷ above) = has_variables above || is_declaration s

-- the words with values: those that command a move, a touch or a selection
abbrev pub commanding : List (List ℕ)
commanding = codes "GOTO" ∷ codes "PTMEAS" ∷ codes "MEAS" ∷ codes "SNSLCT" ∷ codes "RECALL" ∷ []

-- a parameter with the value of each `@NAME`, and then of the expression that it is
abbrev pub valued_param : Valuation → List ℕ → Result (List ℕ) ValueFault
valued_param values param = and_then (expanded values param) (λ text. Ok (computed values text))

abbrev pub valued_params : Valuation → List (List ℕ) → Result (List (List ℕ)) ValueFault
valued_params values [] = Ok []
valued_params values (p ∷ ps) = and_then (valued_param values p) (λ q. and_then (valued_params values ps) (λ qs. Ok (q ∷ qs)))

-- likewise of a statement whose label is the name of another feature, or not
abbrev pub own_params : Bool → Valuation → List (List ℕ) → Result (List (List ℕ)) ValueFault
own_params true values params = Err UnknownName
own_params false values params = valued_params values params

abbrev pub params_at : List Statement → Statement → Result (List (List ℕ)) ValueFault
params_at above s = own_params (collides above s) (value_said above) s.params

-- what an `ASSIGN` becomes that is carried out: the name and its value
abbrev pub assigned_params : List Statement → Statement → Option (List ℕ) → Result (List (List ℕ)) ValueFault
assigned_params above s None = Err UnknownName
assigned_params above s (Some name) = and_then (value_said (s ∷ above) name) (λ v. Ok (name ∷ (written v ∷ [])))

-- the parameters that take the place of a statement's, if any do
abbrev pub new_params : List Statement → Statement → Option (Result (List (List ℕ)) ValueFault)
new_params above s =
    if bytes_eq s.word (codes "ASSIGN") then Some (assigned_params above s s.label) else
    if has_variables above && (is_none s.label && is_among s.word commanding) then Some (params_at above s) else None

-- what a line of 4,000 bytes holds, and is read back from it
abbrev pub held : List ℕ → List (List ℕ) → List (List ℕ)
held word params = if list_all (is_plain false) params && nat_le (length (flat_text (flat word params))) 4000 then params else []

abbrev pub held_or_none : List ℕ → Result (List (List ℕ)) ValueFault → List (List ℕ)
held_or_none word (Ok params) = held word params
held_or_none word (Err fault) = []

abbrev pub with_params : Statement → Option (Result (List (List ℕ)) ValueFault) → Statement
with_params s None = s
with_params s (Some made) = record { line = s.line; label = None; word = s.word; params = held_or_none s.word made }

-- a statement with those, by what was carried out above it
abbrev pub commanded : List Statement → Statement → Statement
commanded above s = with_params s (new_params above s)

-- the label of a `FEAT` with its values, if it is a word of 4,000 bytes at most; else the statement stays as it is
abbrev pub is_word : List ℕ → Bool
is_word text = list_all is_solid text && (nat_le 1 (length text) && nat_le (length text) 4000)

abbrev pub word_in : Option (List ℕ) → Option (List ℕ)
word_in None = None
word_in (Some text) = if is_word text then Some text else None

abbrev pub is_feature : Statement → Bool
is_feature s = bytes_eq s.word (codes "FEAT") && not (has_open_text s)

abbrev pub feature_label : List Statement → Statement → Option (List ℕ) → Option (List ℕ)
feature_label above s None = None
feature_label above s (Some label) = if has_variables above && is_feature s then word_in (result_ok (expanded (value_said above) label)) else None

abbrev pub feature_by : Statement → List ℕ → Result (List (List ℕ)) ValueFault → Statement
feature_by s label made = record { line = s.line; label = Some label; word = s.word; params = held_or_none s.word made }

abbrev pub valued_as : List Statement → Statement → Option (List ℕ) → Statement
valued_as above s None = commanded above s
valued_as above s (Some label) = feature_by s label (params_at above s)

-- a statement with its values
abbrev pub valued : List Statement → Statement → Statement
valued above s = valued_as above s (feature_label above s s.label)

abbrev pub all_valued : List Statement → List Statement → List Statement
all_valued above [] = []
all_valued above (s ∷ statements) = valued above s ∷ all_valued (carried above s) statements
