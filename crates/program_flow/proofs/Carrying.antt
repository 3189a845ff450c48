-- A table that says the same as what was carried out says the same after one statement more.
use Rattle.std.proofs.Common.{◌≡◌, ℕ, Bool, true, false, List, [], ◌∷◌, refl, rules, sym, ap, ◌∙◌, subst}
use Rattle.std.specs.Prelude.{Option, Some, None, Result, Ok, Err, bytes_eq, is_none, codes, ◌&&◌, ◌||◌, if◌then◌else◌}
use Rattle.std.specs.Option.{option_map}
use Rattle.std.proofs.lemmas.Slice.Eq.{bytes_eq-Decides}
use Rattle.dmis_text.specs.declared.elements.Statement.{Statement}
use Rattle.program_flow.proofs.Tables.{find-put}
use Rattle.program_flow.specs.Carried.{CarriesOut, Makes, put_all, put_kind, put_result, put_value, table_after, table_declared, table_with}
use Rattle.program_flow.specs.LookBack.{Holds, assigned_value, declared_by, declares, fault_in, fault_of, fault_for, is_among, is_target, kind_after, kind_in, kind_said, kind_unless_declared, names_in, new_value, target, unless_declared, value_after, value_for, value_said}
use Rattle.program_flow.specs.Numbers.{and_then}
use Rattle.program_flow.specs.Values.{Value}
use Rattle.program_flow.specs.Variables.{Entry, assigned, entry_kind, entry_value, find, found_value, put}
use Rattle.program_flow.specs.declared.faults.ValueFault.{ValueFault}
use Rattle.program_flow.specs.declared.faults.ValueFault.TheVariants.{NotAssigned, UnknownName}
use Rattle.program_flow.specs.declared.kinds.Kind.{Kind}

found-if : (b : Bool) (e : Entry) (r : Option Entry) → found_value (if b then Some e else r) ≡ (if b then assigned e.value else found_value r)
found-if true e r = refl
found-if false e r = refl

kind-if : (b : Bool) (e : Entry) (r : Option Entry)
    → option_map (λ (e : Entry). e.kind) (if b then Some e else r) ≡ (if b then Some e.kind else option_map (λ (e : Entry). e.kind) r)
kind-if true e r = refl
kind-if false e r = refl

value-put : (e : Entry) (es : List Entry) (name : List ℕ)
    → entry_value (put e es) name ≡ (if bytes_eq e.name name then assigned e.value else entry_value es name)
value-put e es name = ap found_value (find-put e es name) ∙ found-if (bytes_eq e.name name) e (find es name)

kind-put : (e : Entry) (es : List Entry) (name : List ℕ)
    → entry_kind (put e es) name ≡ (if bytes_eq e.name name then Some e.kind else entry_kind es name)
kind-put e es name = ap (λ r. option_map (λ (e : Entry). e.kind) r) (find-put e es name) ∙ kind-if (bytes_eq e.name name) e (find es name)

either : {A : Type 0} (a b : Bool) (x r : A) → (if a then x else (if b then x else r)) ≡ (if b || a then x else r)
either true true x r = refl
either true false x r = refl
either false true x r = refl
either false false x r = refl

value-put_all : (kind : Kind) (names : List (List ℕ)) (es : List Entry) (name : List ℕ)
    → entry_value (put_all kind names es) name ≡ (if is_among name names then Err NotAssigned else entry_value es name)
value-put_all kind [] es name = refl
value-put_all kind (n ∷ ns) es name =
    let e : Entry = record { name = n; kind = kind; value = None } in
    value-put_all kind ns (put e es) name
    ∙ (ap (λ r. if is_among name ns then Err NotAssigned else r) (value-put e es name)
    ∙ either (is_among name ns) (bytes_eq n name) (Err NotAssigned) (entry_value es name))

kind-put_all : (kind : Kind) (names : List (List ℕ)) (es : List Entry) (name : List ℕ)
    → entry_kind (put_all kind names es) name ≡ (if is_among name names then Some kind else entry_kind es name)
kind-put_all kind [] es name = refl
kind-put_all kind (n ∷ ns) es name =
    let e : Entry = record { name = n; kind = kind; value = None } in
    kind-put_all kind ns (put e es) name
    ∙ (ap (λ r. if is_among name ns then Some kind else r) (kind-put e es name)
    ∙ either (is_among name ns) (bytes_eq n name) (Some kind) (entry_kind es name))

declared-value-if : (b : Bool) (kind : Kind) (r : Result Value ValueFault) → (if b then Err NotAssigned else r) ≡ unless_declared (if b then Some kind else None) r
declared-value-if true kind r = refl
declared-value-if false kind r = refl

declared-kind-if : (b : Bool) (kind : Kind) (r : Option Kind) → (if b then Some kind else r) ≡ kind_unless_declared (if b then Some kind else None) r
declared-kind-if true kind r = refl
declared-kind-if false kind r = refl

nothing-if : (b : Bool) → ◌≡◌ {A = Option Kind} None (if b then None else None)
nothing-if true = refl
nothing-if false = refl

value-put_kind : (k : Option Kind) (names : List (List ℕ)) (es : List Entry) (name : List ℕ)
    → entry_value (put_kind k names es) name ≡ unless_declared (if is_among name names then k else None) (entry_value es name)
value-put_kind None names es name = ap (λ k. unless_declared k (entry_value es name)) (nothing-if (is_among name names))
value-put_kind (Some kind) names es name = value-put_all kind names es name ∙ declared-value-if (is_among name names) kind (entry_value es name)

kind-put_kind : (k : Option Kind) (names : List (List ℕ)) (es : List Entry) (name : List ℕ)
    → entry_kind (put_kind k names es) name ≡ kind_unless_declared (if is_among name names then k else None) (entry_kind es name)
kind-put_kind None names es name = ap (λ k. kind_unless_declared k (entry_kind es name)) (nothing-if (is_among name names))
kind-put_kind (Some kind) names es name = kind-put_all kind names es name ∙ declared-kind-if (is_among name names) kind (entry_kind es name)

value-declared : (c : Bool) (params : List (List ℕ)) (es : List Entry) (name : List ℕ)
    → entry_value (if c then table_declared params es else es) name ≡ unless_declared (if c then declared_by params name else None) (entry_value es name)
value-declared false params es name = refl
value-declared true params es name = value-put_kind (kind_in params) (names_in params) es name

kind-declared : (c : Bool) (params : List (List ℕ)) (es : List Entry) (name : List ℕ)
    → entry_kind (if c then table_declared params es else es) name ≡ kind_unless_declared (if c then declared_by params name else None) (entry_kind es name)
kind-declared false params es name = refl
kind-declared true params es name = kind-put_kind (kind_in params) (names_in params) es name

labelled : (b : Bool) (l : Option (List ℕ)) (label : List ℕ) → (if b then l else None) ≡ Some label → l ≡ Some label
labelled true l label h = h
labelled false l label h = absurd cc

undeclared-if : (b : Bool) (l : Option (List ℕ)) (label : List ℕ) (r : Option Kind) → l ≡ Some label → (if b && is_none l then r else None) ≡ None
undeclared-if true l label r h = rw h refl
undeclared-if false l label r h = refl

undeclared : (s : Statement) (label name : List ℕ) → target s ≡ Some label → declares s name ≡ None
undeclared s label name h = undeclared-if (bytes_eq s.word (codes "DECL")) s.label label (declared_by s.params name)
    (labelled (bytes_eq s.word (codes "ASSIGN")) s.label label h)

value-assigned-if : (b : Bool) (v : Value) (r given : Result Value ValueFault) (d : Option Kind) → (b ≡ true → given ≡ Ok v) → d ≡ None
    → (if b then Ok v else r) ≡ (if b then given else unless_declared d r)
value-assigned-if true v r given d h n = sym (h refl)
value-assigned-if false v r given d h n = rw n refl

kind-assigned-if : (b : Bool) (kind : Kind) (k d : Option Kind) → (b ≡ true → k ≡ Some kind) → d ≡ None → (if b then Some kind else k) ≡ kind_unless_declared d k
kind-assigned-if true kind k d h n = rw n (sym (h refl))
kind-assigned-if false kind k d h n = rw n refl

of_name : (es : List Entry) (label name : List ℕ) (kind : Kind) → entry_kind es label ≡ Some kind → bytes_eq label name ≡ true → entry_kind es name ≡ Some kind
of_name es label name kind h e = ap (λ n. entry_kind es n) (sym ((bytes_eq-Decides label name).0 e)) ∙ h

value-assigned : (s : Statement) (label name : List ℕ) (kind : Kind) (v : Value) (es : List Entry) → target s ≡ Some label → entry_kind es label ≡ Some kind
    → value_for (entry_value es) s.params kind ≡ Ok v → entry_value (put_value label kind es v) name ≡ value_after (entry_kind es) (entry_value es) s name
value-assigned s label name kind v es t k h =
    let e : Entry = record { name = label; kind = kind; value = Some v } in
    value-put e es name ∙ (value-assigned-if (bytes_eq label name) v (entry_value es name) (new_value (entry_kind es) (entry_value es) s name)
    (declares s name) (λ same. ap (assigned_value (entry_value es) s.params) (of_name es label name kind k same) ∙ h) (undeclared s label name t)
    ∙ ap (λ (o : Option (List ℕ)). if is_target o name then new_value (entry_kind es) (entry_value es) s name else
    unless_declared (declares s name) (entry_value es name)) (sym t))

kind-assigned : (s : Statement) (label name : List ℕ) (kind : Kind) (v : Value) (es : List Entry) → target s ≡ Some label → entry_kind es label ≡ Some kind
    → entry_kind (put_value label kind es v) name ≡ kind_after (entry_kind es) s name
kind-assigned s label name kind v es t k =
    let e : Entry = record { name = label; kind = kind; value = Some v } in
    kind-put e es name ∙ kind-assigned-if (bytes_eq label name) kind (entry_kind es name) (declares s name) (of_name es label name kind k)
    (undeclared s label name t)

-- what follows when a table is made
pub record Stepped (s : Statement) (es new : List Entry) : Type 0 where
  pub values : (name : List ℕ) → entry_value new name ≡ value_after (entry_kind es) (entry_value es) s name
  pub kinds : (name : List ℕ) → entry_kind new name ≡ kind_after (entry_kind es) s name
  pub fine : fault_of (entry_kind es) (entry_value es) s ≡ None

unlabelled : (s : Statement) (es : List Entry) → target s ≡ None
    → Stepped s es (if bytes_eq s.word (codes "DECL") && is_none s.label then table_declared s.params es else es)
unlabelled s es t = record {
  values = λ name. value-declared (bytes_eq s.word (codes "DECL") && is_none s.label) s.params es name
      ∙ ap (λ (o : Option (List ℕ)). if is_target o name then new_value (entry_kind es) (entry_value es) s name else
      unless_declared (declares s name) (entry_value es name)) (sym t);
  kinds = λ name. kind-declared (bytes_eq s.word (codes "DECL") && is_none s.label) s.params es name;
  fine = ap (λ (o : Option (List ℕ)). fault_for o (entry_kind es) (entry_value es) s) t;
}

fault-assigned : (s : Statement) (label : List ℕ) (es : List Entry) (k : Option Kind) (made : Result Value ValueFault) → target s ≡ Some label
    → entry_kind es label ≡ k → assigned_value (entry_value es) s.params k ≡ made → fault_of (entry_kind es) (entry_value es) s ≡ fault_in made
fault-assigned s label es k made t h m = ap (λ (o : Option (List ℕ)). fault_for o (entry_kind es) (entry_value es) s) t
    ∙ ap fault_in (ap (assigned_value (entry_value es) s.params) h ∙ m)

assigns : (s : Statement) (label : List ℕ) (kind : Kind) (v : Value) (es : List Entry) → target s ≡ Some label → entry_kind es label ≡ Some kind
    → value_for (entry_value es) s.params kind ≡ Ok v → Stepped s es (put_value label kind es v)
assigns s label kind v es t k h = record {
  values = λ name. value-assigned s label name kind v es t k h;
  kinds = λ name. kind-assigned s label name kind v es t k;
  fine = fault-assigned s label es (Some kind) (Ok v) t k h;
}

-- a table or a fault, as the statement has it
abbrev pub Agrees : Statement → List Entry → Result (List Entry) ValueFault → Type 0
Agrees s es (Ok new) = Stepped s es new
Agrees s es (Err fault) = fault_of (entry_kind es) (entry_value es) s ≡ Some fault

made-agrees : (s : Statement) (label : List ℕ) (es : List Entry) (kind : Kind) (made : Result Value ValueFault) → target s ≡ Some label
    → entry_kind es label ≡ Some kind → value_for (entry_value es) s.params kind ≡ made
    → Agrees s es (and_then made (λ v. Ok (put_value label kind es v)))
made-agrees s label es kind (Ok v) t k h = assigns s label kind v es t k h
made-agrees s label es kind (Err fault) t k h = fault-assigned s label es (Some kind) (Err fault) t k h

put-agrees : (s : Statement) (label : List ℕ) (es : List Entry) (k : Option Kind) → target s ≡ Some label → entry_kind es label ≡ k
    → Agrees s es (put_result label es s.params k)
put-agrees s label es None t k = fault-assigned s label es None (Err UnknownName) t k refl
put-agrees s label es (Some kind) t k = made-agrees s label es kind (value_for (entry_value es) s.params kind) t k refl

with-agrees : (s : Statement) (es : List Entry) (t : Option (List ℕ)) → target s ≡ t → Agrees s es (table_with t s es)
with-agrees s es None t = unlabelled s es t
with-agrees s es (Some label) t = put-agrees s label es (entry_kind es label) t refl

after-agrees : (s : Statement) (es : List Entry) → Agrees s es (table_after s es)
after-agrees s es = with-agrees s es (target s) refl

pub carried : (above : List Statement) (s : Statement) (es new : List Entry) → table_after s es ≡ Ok new → Holds above es
    → Holds (s ∷ above) new × (fault_of (kind_said above) (value_said above) s ≡ None)
carried above s es new e h =
    let made : Stepped s es new = subst (λ r. Agrees s es r) e (after-agrees s es) in (
      record {
        kinds = λ i name. (made.kinds name ∙ ap (λ k. kind_after k s name) h.kinds) i;
        values = λ i name. (made.values name ∙ (ap (λ k. value_after k (entry_value es) s name) h.kinds
            ∙ ap (λ v. value_after (kind_said above) v s name) h.values)) i;
      },
      ap (λ v. fault_of (kind_said above) v s) (sym h.values) ∙ (ap (λ k. fault_of k (entry_value es) s) (sym h.kinds) ∙ made.fine),
    )

pub refused : (above : List Statement) (s : Statement) (es : List Entry) (fault : ValueFault) → table_after s es ≡ Err fault → Holds above es
    → fault_of (kind_said above) (value_said above) s ≡ Some fault
refused above s es fault e h =
    let made : fault_of (entry_kind es) (entry_value es) s ≡ Some fault = subst (λ r. Agrees s es r) e (after-agrees s es) in
    ap (λ v. fault_of (kind_said above) v s) (sym h.values) ∙ (ap (λ k. fault_of k (entry_value es) s) (sym h.kinds) ∙ made)

pub carry : {A : Type 0} (result : Result A ValueFault) (above : List Statement) (s : Statement) (es new : List Entry) → Makes result es new (table_after s es)
    → Holds above es → CarriesOut above s result new
carry (Ok a) above s es new m h = (carried above s es new m.0 h, search rules)
carry (Err fault) above s es new m h = (
  search rules,
  λ apart. let g = m.1 apart in
      (subst (λ t. Holds above t) (sym g.1) h, refused above s es fault g.0 h),
)
