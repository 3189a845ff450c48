-- What the code finds at a statement is what follows there.
use Rattle.std.proofs.Common.{◌≡◌, ◌∙◌, ℕ, zero, suc, ◌<◌, Bool, true, false, List, [], ◌∷◌, ◌++◌, IfOk, arith, drop, length, refl, ap, subst, sym}
use Rattle.std.specs.Prelude.{◌||◌, Err, Ok, Result, bytes_eq, get_or}
use Rattle.std.specs.declared.alloc.AllocError.{AllocError}
use Rattle.dmis_text.specs.declared.elements.Statement.{Statement}
use Rattle.program_flow.specs.Calls.{Frame, Step, call_of, is_call, is_open, leave_frame, lifted, step, step_at, step_of}
use Rattle.program_flow.specs.Flow.{turn}
use Rattle.program_flow.specs.Values.{Valuation}
use Rattle.program_flow.specs.Macros.{begins_macro, ends_macro}
use Rattle.program_flow.specs.Stepped.{Leads}
use Rattle.program_flow.specs.declared.calls.Outcome.{Outcome}
use Rattle.program_flow.specs.declared.calls.Outcome.TheVariants as led

-- one step
pub step-past : (text : List Statement) (values : Valuation) (f : Frame) (outer : List Frame) → drop f.control.place f.statements ≡ []
    → step text values (f ∷ outer) ≡ leave_frame outer
unfolding step
step-past text values f outer e = ap (λ (ss : List Statement). step_at text values f outer ss) e

pub step-here : (text : List Statement) (values : Valuation) (f : Frame) (outer : List Frame) (s : Statement) (below : List Statement)
    → drop f.control.place f.statements ≡ s ∷ below → step_of text values f outer s ≡ step text values (f ∷ outer)
unfolding step
step-here text values f outer s below e = sym (ap (λ (ss : List Statement). step_at text values f outer ss) e)

pub step-called : (text : List Statement) (values : Valuation) (f : Frame) (outer : List Frame) (s : Statement) → is_call s ≡ true
    → call_of text f outer s s.params ≡ step_of text values f outer s
step-called text values f outer s h = rw h refl

pub step-turned : (text : List Statement) (values : Valuation) (f : Frame) (outer : List Frame) (s : Statement) → is_call s ≡ false
    → begins_macro s ≡ false → ends_macro s ≡ false → lifted f outer (turn f.statements values f.control) ≡ step_of text values f outer s
step-turned text values f outer s h b e = rw (h, b, e) refl

-- the same first item
abbrev first_or : Statement → List Statement → Statement
first_or s [] = s
first_or s (t ∷ ts) = t

pub same_first : (s t : Statement) (ss ts : List Statement) → s ∷ ss ≡ t ∷ ts → s ≡ t
same_first s t ss ts e = ap (first_or s) e

-- a statement that is there
pub record IsThere (i : ℕ) (ss : List Statement) : Type 0 where
  pub one : Statement
  pub below : List Statement
  pub is : drop i ss ≡ one ∷ below
  pub at : (d : Statement) → get_or ss i d ≡ one

pub is_there : (i : ℕ) (ss : List Statement) → i < length ss → IsThere i ss
is_there i [] h = absurd (omega (arith, h))
is_there zero (s ∷ ss) h = record { one = s; below = ss; is = refl; at = λ d. refl }
is_there (suc i) (s ∷ ss) h = let it = is_there i ss (omega (arith, h)) in record { one = it.one; below = it.below; is = it.is; at = it.at }

-- the outermost frame
pub record HasFirst (frames : List Frame) : Type 0 where
  pub first : Frame
  pub others : List Frame
  pub are : frames ≡ first ∷ others

pub has_first : (calls : List Frame) (last : Frame) → HasFirst (calls ++ (last ∷ []))
has_first [] last = record { first = last; others = []; are = refl }
has_first (f ∷ calls) last = record { first = f; others = calls ++ (last ∷ []); are = refl }

or_none : (b : Bool) → (b || false) ≡ b
or_none true = refl
or_none false = refl

or_more : (a b c d : Bool) → b ≡ (c || d) → (a || b) ≡ ((a || c) || d)
or_more true b c d h = refl
or_more false b c d h = h

pub open_with : (name : List ℕ) (calls : List Frame) (last : Frame) → last.name ≡ []
    → is_open name (calls ++ (last ∷ [])) ≡ (is_open name calls || bytes_eq [] name)
open_with name [] last none = or_none (bytes_eq last.name name) ∙ ap (λ (n : List ℕ). bytes_eq n name) none
open_with name (f ∷ calls) last none =
    or_more (bytes_eq f.name name) (is_open name (calls ++ (last ∷ []))) (is_open name calls) (bytes_eq [] name) (open_with name calls last none)

-- outside macros
ends_if : (r : Result Outcome AllocError) (frames : List Frame) (due : Step) → due ≡ Step.Ends → IfOk r (λ it. it ≡ led.Ends)
    → IfOk r (λ it. Leads frames it due)
ends_if (Err e) frames due is h = tt
ends_if (Ok it) frames due is h = rw h is

pub at_outside : (r : Result Outcome AllocError) (text : List Statement) (values : Valuation) (f : Frame)
    → (drop f.control.place f.statements ≡ [] → IfOk r (λ it. it ≡ led.Ends))
    → ((s : Statement) (below : List Statement) → drop f.control.place f.statements ≡ s ∷ below
    → IfOk r (λ it. Leads (f ∷ []) it (step_of text values f [] s)))
    → IfOk r (λ it. Leads (f ∷ []) it (step text values (f ∷ [])))
at_outside r text values f none one = go (drop f.control.place f.statements) refl
  where
    go : (ss : List Statement) → drop f.control.place f.statements ≡ ss → IfOk r (λ it. Leads (f ∷ []) it (step text values (f ∷ [])))
    go [] e = ends_if r (f ∷ []) (step text values (f ∷ [])) (step-past text values f [] e) (none e)
    go (s ∷ below) e = subst (λ (t : Step). IfOk r (λ it. Leads (f ∷ []) it t)) (step-here text values f [] s below e) (one s below e)
