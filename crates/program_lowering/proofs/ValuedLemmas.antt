-- Statements with their values: what the code carries, and the lines from which they are read back.
use Rattle.program_lowering.proofs.Names.{[], ◌&&◌, ◌++◌, ◌<◌, ◌||◌, ◌∙◌, ◌∷◌, ◌≡◌, ◌≤◌, AllByRecursion, and_from, ap, append-nil}
use Rattle.program_lowering.proofs.Names.{arith, Bool, bytes_eq, codes, cond, decimal, drop, Err, false, Flat, flat, flat_line, flat_text}
use Rattle.program_lowering.proofs.Names.{is_line, is_none, is_plain, leb-true, length, length-append, length-decimal-le}
use Rattle.program_lowering.proofs.Names.{lines, List, list_all, marked, nat_le, nat_tests, None, take, Ok, OnOk, Option, reading_of, refl, Result, Some, Statement, subst, sym}
use Rattle.program_lowering.proofs.Names.{text_reading, true, ℕ}
use Rattle.std.proofs.lemmas.Slice.Eq.{bytes_eq-Decides}
use Rattle.std.specs.Prelude.{◌-◌, get_or}
use Rattle.dmis_text.proofs.LineLaws.{lines_written}
use Rattle.dmis_program.specs.Keywords.{is_among}
use Rattle.program_flow.specs.LookBack.{Holds, fault_in, fault_of, is_declaration, kind_said, new_value, target, value_said}
use Rattle.program_flow.specs.Numbers.{and_then}
use Rattle.program_flow.specs.Values.{Valuation, Value, written}
use Rattle.program_flow.specs.Variables.{Entry, entry_value}
use Rattle.program_flow.specs.declared.faults.ValueFault.{ValueFault}
use Rattle.program_lowering.specs.Carried.{GivesLine, IsRead, Knows, Stay, all_pushed, line_with, pair_of, pushed}
use Rattle.program_lowering.specs.Lowering.{ended}
use Rattle.program_flow.specs.Flow.{carried}
use Rattle.program_lowering.specs.Labels.{collides}
use Rattle.program_lowering.specs.Valued.{assigned_params, commanded, commanding, has_variables, held, held_or_none, new_params, own_params, params_at}
use Rattle.program_lowering.specs.Valued.{valued_param, valued_params, with_params}
use Rattle.program_lowering.proofs.LineLemmas.{IsHeld, flat_is_line, flat_statement}
use Rattle.program_lowering.proofs.LineParts.{marked_is}
use Rattle.program_lowering.proofs.ReadBackLemmas.{line_first}
use Rattle.program_lowering.proofs.Solid.{solid}

-- ---- parameters, one after the other

all_taken : (xs : List (List ℕ)) → take (length xs) xs ≡ xs
all_taken [] = refl
all_taken (x ∷ xs) = ap (λ (ys : List (List ℕ)). x ∷ ys) (all_taken xs)

next_fails : (old mid pre : List ℕ) (mark : ℕ) (a : Result (List ℕ) ValueFault) (b : Result (List (List ℕ)) ValueFault) (plain : Bool) (fault : ValueFault)
    → pushed pre a ≡ Ok (mid, plain) → all_pushed mid 44 b ≡ Err fault
    → all_pushed old mark (and_then a (λ q. and_then b (λ qs. Ok (q ∷ qs)))) ≡ Err fault
next_fails old mid pre mark (Ok q) (Ok qs) plain fault h g = absurd cc
next_fails old mid pre mark (Ok q) (Err given) plain fault h g = cc
next_fails old mid pre mark (Err given) b plain fault h g = absurd cc

pub rest_fails : (values : Valuation) (params : List (List ℕ)) (old mid pre first : List ℕ) (mark : ℕ) (plain : Bool)
    (fault : ValueFault) → 1 ≤ length params → first ≡ get_or params 0 first → pushed pre (valued_param values first) ≡ Ok (mid, plain)
    → all_pushed mid 44 (valued_params values (take (length params - 1) (drop 1 params))) ≡ Err fault
    → all_pushed old mark (valued_params values params) ≡ Err fault
rest_fails values [] old mid pre first mark plain fault some is h g = absurd (omega (arith, some))
rest_fails values (p ∷ ps) old mid pre first mark plain fault some is h g =
    let here : pushed pre (valued_param values p) ≡ Ok (mid, plain) = ap (λ (x : List ℕ). pushed pre (valued_param values x)) (sym is) ∙ h in
    let count : length (p ∷ ps) - 1 ≡ length ps = omega arith in
    let taken : take (length (p ∷ ps) - 1) ps ≡ ps = ap (λ (n : ℕ). take n ps) count ∙ all_taken ps in
    let rest : all_pushed mid 44 (valued_params values ps) ≡ Err fault = ap (λ (xs : List (List ℕ)). all_pushed mid 44 (valued_params values xs)) (sym taken) ∙ g in
    next_fails old mid pre mark (valued_param values p) (valued_params values ps) plain fault here rest

-- ---- what the code carries

faulty : (r : Result Value ValueFault) (fault : ValueFault) → fault_in r ≡ Some fault → r ≡ Err fault
faulty (Ok v) fault h = absurd cc
faulty (Err given) fault h = cc

same_bytes : (name : List ℕ) → bytes_eq name name ≡ true
same_bytes name = (bytes_eq-Decides name name).1 refl

pub carried_on : (above : List Statement) (s : Statement) (entries : List Entry) (declared : Bool) → Holds (s ∷ above) entries
    → fault_of (kind_said above) (value_said above) s ≡ None → declared ≡ has_variables above
    → Knows (carried above s) entries (declared || is_declaration s)
carried_on above s entries declared h none d =
    subst (λ (o : Option ValueFault). Knows (cond (is_none o) (s ∷ above) above) entries (declared || is_declaration s)) (sym none)
    record { holds = h; some = ap (λ (b : Bool). b || is_declaration s) d }

pub carried_not : (above : List Statement) (s : Statement) (entries : List Entry) (declared : Bool) (fault : ValueFault) → Holds above entries
    → fault_of (kind_said above) (value_said above) s ≡ Some fault → declared ≡ has_variables above → Knows (carried above s) entries declared
carried_not above s entries declared fault h some d =
    subst (λ (o : Option ValueFault). Knows (cond (is_none o) (s ∷ above) above) entries declared) (sym some)
    record { holds = h; some = d }

-- an `ASSIGN`, by the variables after it
assigned_same : (above : List Statement) (s : Statement) (entries : List Entry) (declared done : Bool) (label : Option (List ℕ)) → s.label ≡ label
    → bytes_eq s.word (codes "ASSIGN") ≡ true → Knows (carried above s) entries declared
    → done ≡ is_none (fault_of (kind_said above) (value_said above) s)
    → held_or_none s.word (pair_of done (entry_value entries) label) ≡ held_or_none s.word (assigned_params above s label)
assigned_same above s entries declared true None l e k d = refl
assigned_same above s entries declared false None l e k d = refl
assigned_same above s entries declared done (Some name) l e k d =
    by_fault done (fault_of (kind_said above) (value_said above) s) refl k d
  where
    aim : target s ≡ Some name
    aim = rw e l

    by_fault : (done : Bool) (o : Option ValueFault) → fault_of (kind_said above) (value_said above) s ≡ o
        → Knows (cond (is_none o) (s ∷ above) above) entries declared → done ≡ is_none o
        → held_or_none s.word (pair_of done (entry_value entries) (Some name)) ≡ held_or_none s.word (assigned_params above s (Some name))
    by_fault true None f k d = ap (λ (values : Valuation). held_or_none s.word (and_then (values name) (λ v. Ok (name ∷ written v ∷ [])))) k.holds.values
    by_fault false None f k d = absurd cc
    by_fault true (Some fault) f k d = absurd cc
    by_fault false (Some fault) f k d =
        let g : fault_in (new_value (kind_said above) (value_said above) s name) ≡ Some fault = rw aim at f in
        let bad = faulty (new_value (kind_said above) (value_said above) s name) fault g in
        rw (aim, same_bytes name, bad) refl

pub pair_same : (above : List Statement) (s : Statement) (entries : List Entry) (declared done : Bool) → bytes_eq s.word (codes "ASSIGN") ≡ true
    → Knows (carried above s) entries declared → done ≡ is_none (fault_of (kind_said above) (value_said above) s)
    → held_or_none s.word (pair_of done (entry_value entries) s.label) ≡ held_or_none s.word (assigned_params above s s.label)
pair_same above s entries declared done e k d = assigned_same above s entries declared done s.label refl e k d

-- ---- a line is read back

pub record GoodWord (word : List ℕ) : Type 0 where
  pub solid : solid word ≡ true
  pub some : 1 ≤ length word
  pub short : length word ≤ 10

pub assign_good : (word : List ℕ) → bytes_eq word (codes "ASSIGN") ≡ true → GoodWord word
assign_good word e =
    let is = (bytes_eq-Decides word (codes "ASSIGN")).0 e in
    rw is record { solid = refl; some = omega arith; short = omega arith }

pub among_all : (P : List ℕ → Type 0) (word : List ℕ) (words : List (List ℕ)) → AllByRecursion P words → is_among word words ≡ true → P word
among_all P word [] h e = absurd cc
among_all P word (x ∷ xs) h e = go (bytes_eq word x) refl e (among_all P word xs h.1)
  where
    go : (b : Bool) → bytes_eq word x ≡ b → (b || is_among word xs) ≡ true → (is_among word xs ≡ true → P word) → P word
    go true is e rest = subst P (sym ((bytes_eq-Decides word x).0 is)) h.0
    go false is e rest = rest e

pub commanding_good : (word : List ℕ) → is_among word commanding ≡ true → GoodWord word
commanding_good word e = among_all GoodWord word commanding all e
  where
    all : AllByRecursion GoodWord commanding
    all = (
      record { solid = refl; some = omega arith; short = omega arith },
      (
        record { solid = refl; some = omega arith; short = omega arith },
        (
          record { solid = refl; some = omega arith; short = omega arith },
          (
            record { solid = refl; some = omega arith; short = omega arith },
            (record { solid = refl; some = omega arith; short = omega arith }, tt),
          ),
        ),
      ),
    )

pub first_short : (word : List ℕ) (params : List (List ℕ)) → length (flat_text (flat word params)) ≤ 4000 → length (flat_line (flat word params) 1) ≤ 4096
first_short word params h =
    omega (
      arith,
      length-append (flat_text (flat word params)) (codes " $$ line " ++ decimal 1),
      length-append (codes " $$ line ") (decimal 1),
      length-decimal-le 20 1 (omega arith) (omega arith) (omega arith),
      h,
    )

held_none : (word : List ℕ) → GoodWord word → IsHeld (flat word []) 1
held_none word good = record {
  word = good.solid;
  some_word = good.some;
  params = refl;
  short = first_short word [] (omega (arith, length-append word [], good.short));
  few = omega arith;
}

held_good : (word : List ℕ) (params : List (List ℕ)) → GoodWord word → IsHeld (flat word (held word params)) 1
held_good word params good =
    go (list_all (is_plain false) params) (nat_le (length (flat_text (flat word params))) 4000) refl refl
  where
    go : (a b : Bool) → list_all (is_plain false) params ≡ a → nat_le (length (flat_text (flat word params))) 4000 ≡ b
        → IsHeld (flat word (cond (a && b) params [])) 1
    go true true e f = record {
      word = good.solid;
      some_word = good.some;
      params = e;
      short = first_short word params (leb-true _ _ f);
      few = omega arith;
    }
    go true false e f = held_none word good
    go false b e f = held_none word good

made_good : (word : List ℕ) (made : Result (List (List ℕ)) ValueFault) → GoodWord word → IsHeld (flat word (held_or_none word made)) 1
made_good word (Ok params) good = held_good word params good
made_good word (Err fault) good = held_none word good

pub one_line : (f : Flat) → IsHeld f 1 → text_reading (ended (flat_line f 1)) ≡ record { statements = flat_statement f 1 ∷ []; fault = None }
one_line f h =
    let whole : lines (ended (flat_line f 1)) ≡ flat_line f 1 ∷ [] =
    ap lines (sym (append-nil (ended (flat_line f 1)))) ∙ lines_written (flat_line f 1 ∷ []) (and_from (is_line (flat_line f 1)) true (flat_is_line f 1 1 h) refl) in
    ap (λ (ls : List (List ℕ)). reading_of 1 ls) whole ∙ line_first 1 1 1 f [] h

-- the line of these parameters, if it holds them
pub line_held : (word text new : List ℕ) (params : List (List ℕ)) (plain : Bool) → text ≡ word ++ marked 47 params
    → plain ≡ list_all (is_plain false) params → plain ≡ true → length text ≤ 4000
    → new ≡ (text ++ (codes " $$ line " ++ decimal 1)) ++ 10 ∷ [] → new ≡ ended (flat_line (flat word (held word params)) 1)
line_held word text new params plain e p all short n =
    let same : text ≡ flat_text (flat word params) = e ∙ ap (λ (xs : List ℕ). word ++ xs) (marked_is params) in
    let fits : nat_le (length (flat_text (flat word params))) 4000 ≡ true = rw (sym same) (grind (arith, nat_tests, short)) in
    rw (n, same, sym p, all, fits) refl

pub line_bare : (word new : List ℕ) → new ≡ (word ++ (codes " $$ line " ++ decimal 1)) ++ 10 ∷ [] → new ≡ ended (flat_line (flat word []) 1)
line_bare word new n = rw (n, append-nil word) refl

pub not_held : (word text : List ℕ) (params : List (List ℕ)) (plain : Bool) → text ≡ word ++ marked 47 params
    → plain ≡ list_all (is_plain false) params → plain ≡ true → 4000 < length text → held word params ≡ []
not_held word text params plain e p all long =
    let same : text ≡ flat_text (flat word params) = e ∙ ap (λ (xs : List ℕ). word ++ xs) (marked_is params) in
    let over : nat_le (length (flat_text (flat word params))) 4000 ≡ false = rw (sym same) (grind (arith, nat_tests, long)) in
    rw (sym p, all, over) refl

pub not_plain : (word : List ℕ) (params : List (List ℕ)) (plain : Bool) → plain ≡ list_all (is_plain false) params → plain ≡ false → held word params ≡ []
not_plain word params plain p none = rw (sym p, none) refl

-- the statement that is read of it
pub read_is : (word line : List ℕ) (made : Result (List (List ℕ)) ValueFault) → GoodWord word → line ≡ line_with word made
    → IsRead line (flat_statement (flat word (held_or_none word made)) 1)
read_is word line made good e = record {
  only = ap text_reading e ∙ one_line (flat word (held_or_none word made)) (made_good word made good);
}

pub nothing_held : (word : List ℕ) → held word [] ≡ []
nothing_held word = go (nat_le (length (flat_text (flat word []))) 4000)
  where
    go : (b : Bool) → ◌≡◌ {A = List (List ℕ)} (cond (true && b) [] []) []
    go true = refl
    go false = refl

-- the line that is given for a statement
pub gives_made : (above : List Statement) (s : Statement) (made : Result (List (List ℕ)) ValueFault) (line : List ℕ) → GoodWord s.word
    → new_params above s ≡ Some made → line ≡ line_with s.word made → GivesLine (Some line) s (commanded above s)
gives_made above s made line good is e =
    subst (λ (o : Option (Result (List (List ℕ)) ValueFault)). GivesLine (Some line) s (with_params s o)) (sym is) (read_is s.word line made good e, refl)

pub gives_assigned : (above : List Statement) (s : Statement) (entries : List Entry) (declared done : Bool) (line : List ℕ)
    → bytes_eq s.word (codes "ASSIGN") ≡ true → Knows (carried above s) entries declared
    → done ≡ is_none (fault_of (kind_said above) (value_said above) s) → line ≡ line_with s.word (pair_of done (entry_value entries) s.label)
    → GivesLine (Some line) s (commanded above s)
gives_assigned above s entries declared done line is k d e =
    gives_made above s (assigned_params above s s.label) line (assign_good s.word is) (rw is refl)
    (e ∙ ap (λ (ps : List (List ℕ)). ended (flat_line (flat s.word ps) 1)) (pair_same above s entries declared done is k d))

pub gives_valued : (above : List Statement) (s : Statement) (entries : List Entry) (declared b : Bool) (line : List ℕ)
    → bytes_eq s.word (codes "ASSIGN") ≡ false → is_none s.label ≡ true → is_among s.word commanding ≡ true → declared ≡ true
    → Knows above entries declared → b ≡ collides above s → line ≡ line_with s.word (own_params b (entry_value entries) s.params)
    → GivesLine (Some line) s (commanded above s)
gives_valued above s entries declared b line other bare is d k clash e =
    gives_made above s (params_at above s) line (commanding_good s.word is) (rw (other, sym k.some, d, bare, is) refl)
    (e ∙ (ap (λ (x : Bool). line_with s.word (own_params x (entry_value entries) s.params)) clash
    ∙ ap (λ (values : Valuation). line_with s.word (own_params (collides above s) values s.params)) k.holds.values))

none_is : (label : Option (List ℕ)) → is_none label ≡ true → None ≡ label
none_is None h = refl
none_is (Some label) h = absurd cc

pub gives_same : (above : List Statement) (s : Statement) (entries : List Entry) (declared : Bool) → bytes_eq s.word (codes "ASSIGN") ≡ false
    → is_none s.label ≡ true → is_among s.word commanding ≡ true → declared ≡ true → Knows above entries declared → false ≡ collides above s
    → Stay (entry_value entries) 3990 s.params → commanded above s ≡ s
gives_same above s entries declared other bare is d k clash stay =
    let good = commanding_good s.word is in
    let same : params_at above s ≡ Ok s.params = ap (λ (b : Bool). own_params b (value_said above) s.params) (sym clash)
    ∙ subst (λ (values : Valuation). valued_params values s.params ≡ Ok s.params) k.holds.values stay.same in
    let fits : nat_le (length (flat_text (flat s.word s.params))) 4000 ≡ true =
    grind (arith, nat_tests, good.short, length-append s.word (marked 47 s.params), stay.short 47, ap length (ap (λ (xs : List ℕ). s.word ++ xs) (marked_is s.params))) in
    rw (other, sym k.some, d, bare, is, same, stay.plain, fits) (ap (λ (l : Option (List ℕ)). record s { label = l }) (none_is s.label bare))

pub gives_none : (above : List Statement) (s : Statement) (entries : List Entry) (declared : Bool) → bytes_eq s.word (codes "ASSIGN") ≡ false
    → (declared && (is_none s.label && is_among s.word commanding)) ≡ false → Knows above entries declared → GivesLine None s (commanded above s)
gives_none above s entries declared other none k = rw (other, sym k.some, none) refl

-- a statement keeps its line
pub same_place : (s : Statement) (made : Option (Result (List (List ℕ)) ValueFault)) → (with_params s made).line ≡ s.line
same_place s None = refl
same_place s (Some made) = refl

-- the statement that is read of a line, on its own line
pub read_again : (v : Statement) (n : ℕ) → v.line ≡ n → ◌≡◌ {A = Statement} (record (record v { line = 1 }) { line = n }) v
read_again v n e = ap (λ (k : ℕ). record v { line = k }) (sym e)

pub on_ok : {A E X : Type 0} (r : Result A E) → X → OnOk r X
on_ok (Ok a) x = x
on_ok (Err e) x = tt
