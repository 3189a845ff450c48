-- The variables that a program has declared, with what was assigned to them.
use Rattle.std.specs.Prelude.{ℕ, suc, List, [], ◌∷◌, ◌++◌, slice_set, Option, Some, None, Result, Ok, Err, bytes_eq, if◌then◌else◌}
use Rattle.std.specs.List as lists
use Rattle.std.specs.Option.{option_map}
use Rattle.program_flow.specs.Values.{Value}
use Rattle.program_flow.specs.declared.faults.ValueFault.{ValueFault}
use Rattle.program_flow.specs.declared.faults.ValueFault.TheVariants.{UnknownName, NotAssigned}
use Rattle.program_flow.specs.declared.kinds.Kind.{Kind}

-- a variable: what it takes, and its value
pub record Entry : Type 0 where
  pub name : List ℕ
  pub kind : Kind
  pub value : Option Value

-- the variable of a name
abbrev pub find : List Entry → List ℕ → Option Entry
find entries name = lists.find (λ (e : Entry). bytes_eq e.name name) entries

-- what was assigned, if anything was
abbrev pub assigned : Option Value → Result Value ValueFault
assigned None = Err NotAssigned
assigned (Some v) = Ok v

abbrev pub found_value : Option Entry → Result Value ValueFault
found_value None = Err UnknownName
found_value (Some e) = assigned e.value

abbrev pub entry_value : List Entry → List ℕ → Result Value ValueFault
entry_value entries name = found_value (find entries name)

abbrev pub entry_kind : List Entry → List ℕ → Option Kind
entry_kind entries name = option_map (λ (e : Entry). e.kind) (find entries name)

-- where the variable of a name is
abbrev pub next_place : Option ℕ → Option ℕ
next_place None = None
next_place (Some i) = Some (suc i)

abbrev pub place_of : List Entry → List ℕ → Option ℕ
place_of [] name = None
place_of (e ∷ es) name = if bytes_eq e.name name then Some 0 else next_place (place_of es name)

-- in place of the variable of the same name, or after the others
abbrev pub put_at : Entry → List Entry → Option ℕ → List Entry
put_at entry entries None = entries ++ entry ∷ []
put_at entry entries (Some i) = slice_set entries i entry

abbrev pub put : Entry → List Entry → List Entry
put entry entries = put_at entry entries (place_of entries entry.name)
