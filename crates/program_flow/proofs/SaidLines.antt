-- Statements that are held as texts, one more at a time.
use Rattle.std.proofs.Common.{◌≡◌, ℕ, true, false, List, [], ◌∷◌, ◌++◌, refl, ap, append_assoc}
use Rattle.std.specs.Prelude.{None, Option, Some, is_some}
use Rattle.dmis_text.specs.Reading.{Reading, text_reading}
use Rattle.dmis_text.specs.declared.elements.Statement.{Statement}
use Rattle.dmis_text.specs.declared.reading.TextFault.{TextFault}
use Rattle.program_flow.specs.Macros.{both_or_none, only_statement, said_by}
use Rattle.program_flow.specs.SaidLines.{Says, prepended, the_said}

-- whether a text says one statement does not depend on the line
pub says_on : (line : ℕ) (text : List ℕ) → is_some (said_by line text) ≡ is_some (said_by 1 text)
unfolding said_by
says_on line text = go (text_reading text).statements (text_reading text).fault
  where
    go : (ss : List Statement) (f : Option TextFault) → is_some (only_statement line ss f) ≡ is_some (only_statement 1 ss f)
    go [] f = refl
    go (t ∷ []) (Some fault) = refl
    go (t ∷ []) None = refl
    go (t ∷ (u ∷ ss)) f = refl

pub none_said : (o : Option Statement) → is_some o ≡ false → None ≡ o
none_said None h = refl
none_said (Some s) h = absurd cc

pub some_said : (o : Option Statement) → is_some o ≡ true → Some (the_said o) ≡ o
some_said None h = absurd cc
some_said (Some s) h = refl

pub reading_is : (r : Reading) (t : Statement) → r.statements ≡ t ∷ [] → r.fault ≡ None → r ≡ record { statements = t ∷ []; fault = None }
reading_is r t e f = λ i. record { statements = e i; fault = f i }

-- what is read of it
pub record IsSaid (line : ℕ) (text : List ℕ) : Type 0 where
  pub read : Statement
  pub says : Says text read
  pub said : the_said (said_by line text) ≡ record read { line = line }

pub is_said : (line : ℕ) (text : List ℕ) → is_some (said_by line text) ≡ true → IsSaid line text
unfolding said_by
is_said line text h = go (text_reading text).statements (text_reading text).fault refl refl h
  where
    go : (ss : List Statement) (f : Option TextFault) → (text_reading text).statements ≡ ss → (text_reading text).fault ≡ f
        → is_some (only_statement line ss f) ≡ true → IsSaid line text
    go [] f e g h = absurd cc
    go (t ∷ []) (Some fault) e g h = absurd cc
    go (t ∷ (u ∷ ss)) f e g h = absurd cc
    go (t ∷ []) None e g h = record { read = t; says = record { only = reading_is (text_reading text) t e g }; said = rw (e, g) refl }

-- the next one, if it is said, and none
pub said_next : (front : List Statement) (s : Statement) (rest : Option (List Statement))
    → prepended (front ++ s ∷ []) rest ≡ prepended front (both_or_none (Some s) rest)
said_next front s None = refl
said_next front s (Some below) = ap (λ (ss : List Statement). Some ss) (append_assoc front (s ∷ []) below)

pub said_none : (front : List Statement) (rest : Option (List Statement)) → prepended front (both_or_none None rest) ≡ None
said_none front None = refl
said_none front (Some below) = refl
