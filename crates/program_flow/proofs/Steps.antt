-- Definitions by a number that counts down, one step at a time.
use Rattle.std.proofs.Common.{◌≡◌, ℕ, zero, suc, ◌<◌, ◌-◌, arith, refl, sym, ap, ◌∙◌}
use Rattle.std.specs.Prelude.{Result, Err, List}
use Rattle.program_flow.specs.Values.{Valuation}
use Rattle.program_flow.specs.declared.faults.ValueFault.{ValueFault}
use Rattle.program_flow.specs.declared.faults.ValueFault.TheVariants.{TooDeep}
use Rattle.std.proofs.Common.{[], ◌∷◌, ◌≤◌, Bool, cond, false, length, true}
use Rattle.std.specs.Prelude.{bytes_eq, codes, drop, get_or, is_some, None, Option, Some}
use Rattle.dmis_text.specs.Reading.{text_reading}
use Rattle.dmis_text.specs.declared.reading.TextFault.{TextFault}
use Rattle.dmis_text.specs.declared.elements.Statement.{Statement}
use Rattle.std.specs.Fmt.{digits}
use Rattle.std.specs.Prelude.{decimal}
use Rattle.program_flow.specs.Calls.{line_digits}
use Rattle.program_flow.specs.Conditions.{Parts, holds_within, parts_hold, parts_of}
use Rattle.program_flow.specs.Flow.{assignment, only_assignment}
use Rattle.program_flow.proofs.SaidLines.{reading_is}

pub holds_within-done : (values : Valuation) (n : ℕ) (text : List ℕ) → n ≡ 0 → Err TooDeep ≡ holds_within values n text
unfolding holds_within
holds_within-done values zero text e = refl
holds_within-done values (suc n) text e = absurd (omega (arith, e))

holds_within-step : (values : Valuation) (m n : ℕ) (text : List ℕ) → suc m ≡ n
    → parts_hold values (holds_within values m) (parts_of text) ≡ holds_within values n text
unfolding holds_within
holds_within-step values m n text e = rw (sym e) refl

pub holds_within-by : (values : Valuation) (n : ℕ) (text : List ℕ) (parts : Parts) → 0 < n → parts ≡ parts_of text
    → parts_hold values (holds_within values (n - 1)) parts ≡ holds_within values n text
holds_within-by values n text parts some e = ap (λ p. parts_hold values (holds_within values (n - 1)) p) e
    ∙ holds_within-step values (n - 1) n text (omega (arith, some))

-- the first of some statements, and none
pub first_item : {A : Type 0} (ss : List A) (s : A) → 1 ≤ length ss → s ≡ get_or ss 0 s → ss ≡ s ∷ drop 1 ss
first_item [] s some e = absurd (omega (arith, some))
first_item (x ∷ xs) s some e = ap (λ t. t ∷ xs) (sym e)

pub no_items : {A : Type 0} (ss : List A) → length ss < 1 → ss ≡ []
no_items [] none = refl
no_items (x ∷ xs) none = absurd (omega (arith, none))

pub drop_past : (i : ℕ) (ss : List Statement) → length ss ≤ i → drop i ss ≡ []
drop_past zero [] h = refl
drop_past (suc i) [] h = refl
drop_past zero (x ∷ xs) h = absurd (omega (arith, h))
drop_past (suc i) (x ∷ xs) h = drop_past i xs (omega (arith, h))

-- the assignment that a text says
record IsOne (statements : List Statement) (fault : Option TextFault) : Type 0 where
  read : Statement
  only : statements ≡ read ∷ []
  whole : fault ≡ None
  assigns : bytes_eq read.word (codes "ASSIGN") ≡ true

one_of : (statements : List Statement) (fault : Option TextFault) → is_some (only_assignment 1 statements fault) ≡ true → IsOne statements fault
one_of [] fault h = absurd cc
one_of (t ∷ []) (Some fault) h = absurd cc
one_of (t ∷ []) None h = go (bytes_eq t.word (codes "ASSIGN")) refl h
  where
    go : (b : Bool) → bytes_eq t.word (codes "ASSIGN") ≡ b → is_some (cond b (Some (record t { line = 1 })) None) ≡ true → IsOne (t ∷ []) None
    go true e h = record { read = t; only = refl; whole = refl; assigns = e }
    go false e h = absurd cc
one_of (t ∷ (u ∷ ss)) fault h = absurd cc

pub record IsMade (text : List ℕ) (line : ℕ) : Type 0 where
  pub read : Statement
  pub only : text_reading text ≡ record { statements = read ∷ []; fault = None }
  pub made : assignment line text ≡ Some (record read { line = line })

made_from : (line : ℕ) (statements : List Statement) (fault : Option TextFault) (read : Statement) → statements ≡ read ∷ [] → fault ≡ None
    → bytes_eq read.word (codes "ASSIGN") ≡ true → only_assignment line statements fault ≡ Some (record read { line = line })
made_from line statements fault read only whole assigns = rw (only, whole, assigns) refl

pub made_of : (text : List ℕ) (line : ℕ) → is_some (assignment 1 text) ≡ true → IsMade text line
unfolding assignment
made_of text line h =
    let one = one_of (text_reading text).statements (text_reading text).fault h in
    record {
      read = one.read;
      only = reading_is (text_reading text) one.read one.only one.whole;
      made = made_from line (text_reading text).statements (text_reading text).fault one.read one.only one.whole one.assigns;
    }

pub not_made : (text : List ℕ) (line : ℕ) → is_some (assignment 1 text) ≡ false → assignment line text ≡ None
unfolding assignment
not_made text line h = go (text_reading text).statements (text_reading text).fault h
  where
    go : (ss : List Statement) (f : Option TextFault) → is_some (only_assignment 1 ss f) ≡ false → only_assignment line ss f ≡ None
    go [] f h = refl
    go (t ∷ []) (Some fault) h = refl
    go (t ∷ []) None h = by (bytes_eq t.word (codes "ASSIGN")) h
      where
        by : (b : Bool) → is_some (cond b (Some (record t { line = 1 })) None) ≡ false → cond b (Some (record t { line = line })) None ≡ None
        by true h = absurd cc
        by false h = refl
    go (t ∷ (u ∷ ss)) f h = refl

-- what comes out at last
abbrev pub ended : Statement
ended = record { line = 1; label = None; word = codes "ENDDO"; params = [] }

pub ended_read : text_reading (codes "ENDDO") ≡ record { statements = ended ∷ []; fault = None }
ended_read = refl

-- the digits of a line's number
pub line_digits_are : (line : ℕ) → decimal line ≡ line_digits line
unfolding digits line_digits
line_digits_are line = refl
