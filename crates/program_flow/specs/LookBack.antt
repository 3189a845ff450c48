-- The value of a variable, by looking back in what was carried out (ISO 22093, DECL and ASSIGN), newest statement first.
use Rattle.std.specs.Prelude.{◌≡◌, ℕ, Bool, true, false, ◌&&◌, ◌||◌, List, [], ◌∷◌, length, drop, nat_le, Option, Some, None, Result, Ok, Err, codes, bytes_eq, is_none, is_some}
use Rattle.std.specs.Prelude.{if◌then◌else◌}
use Rattle.std.specs.List.{list_any}
use Rattle.dmis_text.specs.declared.elements.Statement.{Statement}
use Rattle.program_flow.specs.Numbers.{Fraction, and_then, whole_part}
use Rattle.program_flow.specs.Pieces.{letters_value}
use Rattle.program_flow.specs.Values.{Valuation, Value, number_after, value_of}
use Rattle.program_flow.specs.Values.Value.{Number, Letters}
use Rattle.program_flow.specs.Variables.{Entry, entry_value, entry_kind}
use Rattle.program_flow.specs.declared.faults.ValueFault.{ValueFault}
use Rattle.program_flow.specs.declared.faults.ValueFault.TheVariants.{UnknownName, NotAssigned, NotExpression, PastBound}
use Rattle.program_flow.specs.declared.kinds.Kind.{Kind}
use Rattle.program_flow.specs.declared.kinds.Kind.TheVariants.{Whole, Real, Characters}

-- what a variable takes by a word of its declaration: whole numbers, or any
abbrev pub kind_of_word : List ℕ → Option Kind
kind_of_word word = if bytes_eq word (codes "INTGR") || bytes_eq word (codes "LONG") then Some Whole else
    (if bytes_eq word (codes "REAL") || bytes_eq word (codes "DOUBL") then Some Real else None)

-- or letters, up to a count of 1 to 4,000
abbrev pub characters : Result ℕ ValueFault → Option Kind
characters (Ok n) = if nat_le 1 n && nat_le n 4000 then Some (Characters n) else None
characters (Err fault) = None

abbrev pub characters_of : List (List ℕ) → Option Kind
characters_of [] = None
characters_of (count ∷ names) = characters (number_after 0 count)

-- the kind and the names of the parameters of a declaration, after its scope; a count follows CHAR
abbrev pub kind_in : List (List ℕ) → Option Kind
kind_in [] = None
kind_in (scope ∷ []) = None
kind_in (scope ∷ (kind ∷ rest)) = if bytes_eq kind (codes "CHAR") then characters_of rest else kind_of_word kind

abbrev pub names_in : List (List ℕ) → List (List ℕ)
names_in [] = []
names_in (scope ∷ []) = []
names_in (scope ∷ (kind ∷ rest)) = if bytes_eq kind (codes "CHAR") then drop 1 rest else rest

abbrev pub is_among : List ℕ → List (List ℕ) → Bool
is_among name names = list_any (λ n. bytes_eq n name) names

-- the kind that a statement declares a name with
abbrev pub declared_by : List (List ℕ) → List ℕ → Option Kind
declared_by params name = if is_among name (names_in params) then kind_in params else None

abbrev pub declares : Statement → List ℕ → Option Kind
declares s name = if bytes_eq s.word (codes "DECL") && is_none s.label then declared_by s.params name else None

-- whether a statement declares names with a kind
abbrev pub is_declaration : Statement → Bool
is_declaration s = bytes_eq s.word (codes "DECL") && (is_none s.label && is_some (kind_in s.params))

-- the name that a statement assigns to
abbrev pub target : Statement → Option (List ℕ)
target s = if bytes_eq s.word (codes "ASSIGN") then s.label else None

-- the value of the one parameter
abbrev pub expression_value : Valuation → List (List ℕ) → Result Fraction ValueFault
expression_value values [] = Err NotExpression
expression_value values (text ∷ []) = value_of values text
expression_value values (text ∷ (more ∷ others)) = Err NotExpression

-- the value of parameters for a kind: a variable of whole numbers drops the decimals, one of letters takes no more than it holds
abbrev pub limited : ℕ → List ℕ → Result Value ValueFault
limited most text = if nat_le (length text) most then Ok (Letters text) else Err PastBound

abbrev pub value_for : Valuation → List (List ℕ) → Kind → Result Value ValueFault
value_for values params Whole = and_then (expression_value values params) (λ f. Ok (Number (whole_part f)))
value_for values params Real = and_then (expression_value values params) (λ f. Ok (Number f))
value_for values params (Characters most) = and_then (letters_value values params) (limited most)

abbrev pub assigned_value : Valuation → List (List ℕ) → Option Kind → Result Value ValueFault
assigned_value values params None = Err UnknownName
assigned_value values params (Some kind) = value_for values params kind

-- the value that a statement assigns to a name, by the kinds and the values before it
abbrev pub new_value : (List ℕ → Option Kind) → Valuation → Statement → List ℕ → Result Value ValueFault
new_value kinds values s name = assigned_value values s.params (kinds name)

abbrev pub is_target : Option (List ℕ) → List ℕ → Bool
is_target None name = false
is_target (Some assigned) name = bytes_eq assigned name

-- a name that is declared anew has no value
abbrev pub unless_declared : Option Kind → Result Value ValueFault → Result Value ValueFault
unless_declared None value = value
unless_declared (Some kind) value = Err NotAssigned

abbrev pub kind_unless_declared : Option Kind → Option Kind → Option Kind
kind_unless_declared None kind = kind
kind_unless_declared (Some kind) before = Some kind

-- the value and the kind of a name after a statement
abbrev pub value_after : (List ℕ → Option Kind) → Valuation → Statement → List ℕ → Result Value ValueFault
value_after kinds values s name = if is_target (target s) name then new_value kinds values s name else
    unless_declared (declares s name) (values name)

abbrev pub kind_after : (List ℕ → Option Kind) → Statement → List ℕ → Option Kind
kind_after kinds s name = kind_unless_declared (declares s name) (kinds name)

-- the kind of a name is that of its last declaration
abbrev pub kind_said : List Statement → List ℕ → Option Kind
kind_said [] name = None
kind_said (s ∷ above) name = kind_after (kind_said above) s name

-- the value of a name is that of the last assignment to it, if it was not declared since
abbrev pub value_said : List Statement → List ℕ → Result Value ValueFault
value_said [] name = Err UnknownName
value_said (s ∷ above) name = value_after (kind_said above) (value_said above) s name

-- the fault of a statement that assigns, by the kinds and the values before it
abbrev pub fault_in : Result Value ValueFault → Option ValueFault
fault_in (Ok v) = None
fault_in (Err fault) = Some fault

abbrev pub fault_for : Option (List ℕ) → (List ℕ → Option Kind) → Valuation → Statement → Option ValueFault
fault_for None kinds values s = None
fault_for (Some name) kinds values s = fault_in (new_value kinds values s name)

abbrev pub fault_of : (List ℕ → Option Kind) → Valuation → Statement → Option ValueFault
fault_of kinds values s = fault_for (target s) kinds values s

-- a table says the same as what was carried out
pub record Holds (above : List Statement) (entries : List Entry) : Type 0 where
  pub kinds : entry_kind entries ≡ kind_said above
  pub values : entry_value entries ≡ value_said above
