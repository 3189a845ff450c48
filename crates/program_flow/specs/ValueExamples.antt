-- What the examples of this crate speak of.
use Rattle.std.specs.Prelude.{ℕ, ◌≡◌, List, [], ◌∷◌, Option, Some, None, Result, Ok, Err, ℤ, pos, codes, bytes_eq, if◌then◌else◌}
use Rattle.dmis_text.specs.declared.elements.Statement.{Statement}
use Rattle.program_flow.specs.LookBack.{fault_of, kind_said, value_said}
use Rattle.program_flow.specs.Numbers.{whole_number}
use Rattle.program_flow.specs.Values.{Value, value_of}
use Rattle.program_flow.specs.Values.Value.{Number, Letters}
use Rattle.program_flow.specs.declared.faults.ValueFault.{ValueFault}
use Rattle.program_flow.specs.declared.faults.ValueFault.TheVariants.{UnknownName, NotAssigned}

-- A is 7, T has letters, B is declared, and no other name is
abbrev pub a_is_seven : List ℕ → Result Value ValueFault
a_is_seven name = if bytes_eq name (codes "A") then Ok (Number (whole_number (pos 7))) else
    (if bytes_eq name (codes "T") then Ok (Letters (codes "it's")) else
    (if bytes_eq name (codes "B") then Err NotAssigned else Err UnknownName))

-- the value of a text there
abbrev pub Gives : List ℕ → ℤ → ℕ → Type 0
Gives text over under = value_of a_is_seven text ≡ Ok (record { over = over; under = under })

abbrev pub Fails : List ℕ → ValueFault → Type 0
Fails text fault = value_of a_is_seven text ≡ Err fault

-- statements that declare N of whole numbers and X, and one that assigns to a name
abbrev pub declaring : List ℕ → List ℕ → Statement
declaring kind name = record { line = 1; label = None; word = codes "DECL"; params = codes "GLOBAL" ∷ (kind ∷ (name ∷ [])) }

abbrev pub start : List Statement
start = declaring (codes "INTGR") (codes "N") ∷ (declaring (codes "REAL") (codes "X") ∷ [])

abbrev pub assigning_all : List ℕ → List (List ℕ) → Statement
assigning_all name params = record { line = 1; label = Some name; word = codes "ASSIGN"; params = params }

abbrev pub assigning : List ℕ → List ℕ → Statement
assigning name text = assigning_all name (text ∷ [])

-- likewise T of five letters, and S, which is b'c
abbrev pub declaring_letters : List ℕ → List ℕ → Statement
declaring_letters count name = record { line = 1; label = None; word = codes "DECL"; params = codes "GLOBAL" ∷ (codes "CHAR" ∷ (count ∷ (name ∷ []))) }

abbrev pub lettered : List Statement
lettered = assigning (codes "S") (codes "'b''c'") ∷ (declaring_letters (codes "3") (codes "S") ∷ (declaring_letters (codes "5") (codes "T") ∷ start))

-- T has these letters after an assignment of these parameters; or there is a fault
abbrev pub Says : List (List ℕ) → List ℕ → Type 0
Says params text = value_said (assigning_all (codes "T") params ∷ lettered) (codes "T") ≡ Ok (Letters text)

abbrev pub Refuses : List (List ℕ) → ValueFault → Type 0
Refuses params fault = fault_of (kind_said lettered) (value_said lettered) (assigning_all (codes "T") params) ≡ Some fault

-- the fault of a statement after others
abbrev pub refusal : List Statement → Statement → Option ValueFault
refusal above s = fault_of (kind_said above) (value_said above) s
