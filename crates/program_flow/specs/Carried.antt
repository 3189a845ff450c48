-- The table as the code carries it forward: no public clause cites it but `Holds` and `CarriesOut`.
use Rattle.std.specs.Prelude.{◌≡◌, ℕ, Bool, List, [], ◌∷◌, Option, Some, None, ◌&&◌, Result, Ok, Err, OnOk, IfErr, codes, bytes_eq, is_none, if◌then◌else◌}
use Rattle.dmis_text.specs.declared.elements.Statement.{Statement}
use Rattle.program_flow.specs.LookBack.{Holds, fault_of, kind_in, kind_said, names_in, target, value_for, value_said}
use Rattle.program_flow.specs.Numbers.{and_then}
use Rattle.program_flow.specs.Values.{Value}
use Rattle.program_flow.specs.Variables.{Entry, entry_kind, entry_value, put}
use Rattle.program_flow.specs.declared.faults.ValueFault.{ValueFault}
use Rattle.program_flow.specs.declared.faults.ValueFault.TheVariants.{UnknownName, Memory}
use Rattle.program_flow.specs.declared.kinds.Kind.{Kind}

-- the names declared anew, without values
abbrev pub put_all : Kind → List (List ℕ) → List Entry → List Entry
put_all kind [] entries = entries
put_all kind (name ∷ names) entries = put_all kind names (put (record { name = name; kind = kind; value = None }) entries)

abbrev pub put_kind : Option Kind → List (List ℕ) → List Entry → List Entry
put_kind None names entries = entries
put_kind (Some kind) names entries = put_all kind names entries

abbrev pub table_declared : List (List ℕ) → List Entry → List Entry
table_declared params entries = put_kind (kind_in params) (names_in params) entries

-- a value put for a name, if there is one
abbrev pub put_value : List ℕ → Kind → List Entry → Value → List Entry
put_value name kind entries v = put (record { name = name; kind = kind; value = Some v }) entries

abbrev pub put_result : List ℕ → List Entry → List (List ℕ) → Option Kind → Result (List Entry) ValueFault
put_result name entries params None = Err UnknownName
put_result name entries params (Some kind) = and_then (value_for (entry_value entries) params kind) (λ v. Ok (put_value name kind entries v))

abbrev pub table_assigned : List ℕ → List (List ℕ) → List Entry → Result (List Entry) ValueFault
table_assigned name params entries = put_result name entries params (entry_kind entries name)

-- the table after a statement that assigns to a name, or to none
abbrev pub table_with : Option (List ℕ) → Statement → List Entry → Result (List Entry) ValueFault
table_with (Some name) s entries = table_assigned name s.params entries
table_with None s entries = Ok (if bytes_eq s.word (codes "DECL") && is_none s.label then table_declared s.params entries else entries)

abbrev pub table_after : Statement → List Entry → Result (List Entry) ValueFault
table_after s entries = table_with (target s) s entries

-- a table is made, or a fault is answered and nothing has changed; out of memory, nothing more is known
abbrev pub Makes : {A : Type 0} → Result A ValueFault → List Entry → List Entry → Result (List Entry) ValueFault → Type 0
Makes result old new made = OnOk result (made ≡ Ok new) × IfErr result (λ fault. (fault ≡ Memory → ⊥) → (made ≡ Err fault) × (new ≡ old))

-- a statement was carried out after those above it, or its fault is answered
abbrev pub CarriesOut : {A : Type 0} → List Statement → Statement → Result A ValueFault → List Entry → Type 0
CarriesOut above s result new =
    OnOk result (Holds (s ∷ above) new × (fault_of (kind_said above) (value_said above) s ≡ None))
    × IfErr result (λ fault. (fault ≡ Memory → ⊥) → Holds above new × (fault_of (kind_said above) (value_said above) s ≡ Some fault))
