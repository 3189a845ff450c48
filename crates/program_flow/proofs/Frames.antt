-- Turns where macros are called, one at a time.
use Rattle.std.proofs.Common.{◌≡◌, ◌∙◌, ℕ, zero, suc, ◌+◌, ◌<◌, ◌≤◌, List, [], ◌∷◌, ◌++◌, IfOk, arith, cond, drop, length, refl, ap, subst, sym}
use Rattle.std.specs.Prelude.{◌||◌, Err, None, Ok, Option, Result, Some}
use Rattle.dmis_text.specs.declared.elements.Statement.{Statement}
use Rattle.program_flow.specs.LookBack.{Holds, value_said}
use Rattle.program_flow.specs.Variables.{Entry, entry_value}
use Rattle.program_flow.specs.Calls.{Frame, Step, call_by, call_of, decision_at, ended_by, given_up_in, is_call, lifted, next_of, step, step_at, told_as, told_step}
use Rattle.program_flow.specs.Calls.{trace, traced}
use Rattle.program_flow.specs.Calls.Step.{Ends, Stops, Passes, Gives}
use Rattle.program_flow.specs.Flow.{carried, turn}
use Rattle.program_flow.specs.Values.{Valuation}
use Rattle.program_flow.specs.Left.{GivesNext, IsGiven, Left, frames_of, left_of, size}
use Rattle.program_flow.specs.Macros.{Macro, begins_macro, ends_macro, macro_named}
use Rattle.program_flow.specs.Stepped.{HasEnded, ended_on}
use Rattle.program_flow.specs.declared.flow.Given.{Given}

pub call-done : (n : ℕ) (text : List Statement) (frames : List Frame) (above : List Statement) → n ≡ 0
    → trace n text frames above ≡ given_up_in frames
unfolding trace
call-done zero text frames above e = refl
call-done (suc n) text frames above e = absurd (omega (arith, e))

pub call-step : (m n : ℕ) (text : List Statement) (frames : List Frame) (above : List Statement) → suc m ≡ n
    → trace n text frames above ≡ traced (trace m text) above (told_step text (value_said above) frames)
unfolding trace
call-step m n text frames above e = rw (sym e) refl

-- by what the table of variables says
call-by : (n : ℕ) (text : List Statement) (frames : List Frame) (above : List Statement) (entries : List Entry) (t : Step) → Holds above entries
    → told_step text (entry_value entries) frames ≡ t → trace (n + 1) text frames above ≡ traced (trace n text) above t
call-by n text frames above entries t h e = call-step n (n + 1) text frames above (omega arith)
    ∙ ap (λ (u : Step). traced (trace n text) above u) (ap (λ (v : Valuation). told_step text v frames) (sym h.values) ∙ e)

-- what comes out by itself is not told again
pub told-gives : (d : Option (ℕ × List ℕ)) (s : Statement) (next : List Frame) → told_as d (Gives s next) ≡ Gives s next
told-gives None s next = refl
told-gives (Some of) s next = refl

pub told-ends : (d : Option (ℕ × List ℕ)) → told_as d Ends ≡ Ends
told-ends None = refl
told-ends (Some of) = refl

-- nothing comes out where no statement is left
abbrev outer_of : Left → Frame
outer_of l = record { name = []; statements = l.outside; control = l.control }

step-ended : (text : List Statement) (values : Valuation) (l : Left) → HasEnded l → step text values (frames_of l) ≡ Ends
unfolding step
step-ended text values l h = ap (λ (cs : List Frame). step text values (cs ++ (outer_of l ∷ []))) h.calls
    ∙ ap (λ (ss : List Statement). step_at text values (outer_of l) [] ss) h.outside

told-ended : (text : List Statement) (values : Valuation) (l : Left) → HasEnded l → told_step text values (frames_of l) ≡ Ends
told-ended text values l h = let d = decision_at (next_of (frames_of l)) in
    ap (λ (t : Step). told_as d t) (step-ended text values l h) ∙ told-ends d

up-ended : (l : Left) → HasEnded l → given_up_in (frames_of l) ≡ []
up-ended l h = ap (λ (cs : List Frame). given_up_in (cs ++ (outer_of l ∷ []))) h.calls ∙ ap (λ (ss : List Statement). ended_by ss []) h.outside

pub nothing-left : (n : ℕ) (text : List Statement) (l : Left) (above : List Statement) → HasEnded l → trace n text (frames_of l) above ≡ []
nothing-left zero text l above h = call-done zero text (frames_of l) above refl ∙ up-ended l h
nothing-left (suc n) text l above h = call-step n (suc n) text (frames_of l) above refl
    ∙ ap (λ (u : Step). traced (trace n text) above u) (told-ended text (value_said above) l h)

-- a statement comes out
pub gives-next : (old new : Left) (above : List Statement) (entries : List Entry) (s : Statement) → Holds above entries
    → old.turns ≡ new.turns + 1 → new.macros ≡ old.macros → told_step old.macros (entry_value entries) (frames_of old) ≡ Gives s (frames_of new)
    → left_of old above ≡ s ∷ left_of new (carried above s)
gives-next old new above entries s h t same e =
    ap (λ (n : ℕ). trace n old.macros (frames_of old) above) t ∙ (call-by new.turns old.macros (frames_of old) above entries _ h e
    ∙ ap (λ (ms : List Statement). s ∷ trace new.turns ms (frames_of new) (carried above s)) (sym same))

pub stops-next : (old new : Left) (above : List Statement) (entries : List Entry) (s : Statement) → Holds above entries
    → old.turns ≡ new.turns + 1 → told_step old.macros (entry_value entries) (frames_of old) ≡ Stops s → HasEnded new
    → left_of old above ≡ s ∷ left_of new (carried above s)
stops-next old new above entries s h t e ended =
    ap (λ (n : ℕ). trace n old.macros (frames_of old) above) t ∙ (call-by new.turns old.macros (frames_of old) above entries _ h e
    ∙ ap (λ (ss : List Statement). s ∷ ss) (sym (nothing-left new.turns new.macros new (carried above s) ended)))

pub ends-next : (old new : Left) (above : List Statement) (entries : List Entry) → Holds above entries → old.turns ≡ new.turns + 1
    → told_step old.macros (entry_value entries) (frames_of old) ≡ Ends → left_of old above ≡ []
ends-next old new above entries h t e =
    ap (λ (n : ℕ). trace n old.macros (frames_of old) above) t ∙ call-by new.turns old.macros (frames_of old) above entries _ h e

pub passes-next : (old new : Left) (above : List Statement) (entries : List Entry) → Holds above entries → old.turns ≡ new.turns + 1
    → new.macros ≡ old.macros → told_step old.macros (entry_value entries) (frames_of old) ≡ Passes (frames_of new)
    → left_of new above ≡ left_of old above
passes-next old new above entries h t same e =
    sym (ap (λ (n : ℕ). trace n old.macros (frames_of old) above) t ∙ (call-by new.turns old.macros (frames_of old) above entries _ h e
    ∙ ap (λ (ms : List Statement). trace new.turns ms (frames_of new) above) (sym same)))

-- and fewer are left
few_up : (frames : List Frame) → length (given_up_in frames) ≤ 1
few_up [] = omega arith
few_up (f ∷ outer) = go (drop f.control.place f.statements) (few_up outer)
  where
    go : (below : List Statement) → length (given_up_in outer) ≤ 1 → length (ended_by below (given_up_in outer)) ≤ 1
    go [] few = few
    go (s ∷ below) few = omega arith

fewer-left : (old new : Left) → old.turns ≡ new.turns + 1 → size new < size old
fewer-left old new t = omega (arith, t, few_up (frames_of new))

pub fewer-seen : (mid new old : Left) → mid ≡ old → mid.turns ≡ new.turns + 1 → size new < size old
fewer-seen mid new old seen t = subst (λ (l : Left). size new < size l) seen (fewer-left mid new t)

pub fewer-up : (old new : Left) (line : ℕ) → ended_on (Some line) ≡ given_up_in (frames_of old) → HasEnded new → new.turns ≡ old.turns
    → size new < size old
fewer-up old new line e h t = omega (arith, t, ap length e, ap length (up-ended new h))

-- what the loop has left alone
pub given-on : {E : Type 0} (r : Result (Option Given) E) (old first new : Left) (above : List Statement) → old.outside ≡ first.outside
    → left_of old above ≡ left_of first above → IfOk r (GivesNext old new above) → IfOk r (GivesNext first new above)
given-on (Err e) old first new above same same_left h = tt
given-on (Ok None) old first new above same same_left h = sym same_left ∙ h
given-on (Ok (Some given)) old first new above same same_left h =
    (h.0, subst (λ (ss : List Statement). IsGiven ss given h.0) same h.1, sym same_left ∙ h.2)

-- the same macros
step-same : (text macros : List Statement) (values : Valuation) (frames : List Frame)
    → ((name : List ℕ) → macro_named name macros ≡ macro_named name text) → step macros values frames ≡ step text values frames
unfolding step
step-same text macros values [] same = refl
step-same text macros values (f ∷ outer) same = go (drop f.control.place f.statements)
  where
    called : (s : Statement) (params : List (List ℕ)) → call_of macros f outer s params ≡ call_of text f outer s params
    called s [] = refl
    called s (name ∷ arguments) = ap (λ (m : Option Macro). call_by f outer s name arguments m) (same name)

    go : (below : List Statement) → step_at macros values f outer below ≡ step_at text values f outer below
    go [] = refl
    go (s ∷ below) = ap (λ (t : Step). cond (is_call s) t (cond (begins_macro s || ends_macro s) (Stops s) (lifted f outer (turn f.statements values f.control))))
        (called s s.params)

pub trace-same : (n : ℕ) (text macros : List Statement) (frames : List Frame) (above : List Statement)
    → ((name : List ℕ) → macro_named name macros ≡ macro_named name text) → trace n macros frames above ≡ trace n text frames above
unfolding trace
trace-same zero text macros frames above same = refl
trace-same (suc n) text macros frames above same =
    ap (λ (t : Step). traced (trace n macros) above (told_as (decision_at (next_of frames)) t)) (step-same text macros (value_said above) frames same)
    ∙ go (told_step text (value_said above) frames) (λ next more. trace-same n text macros next more same)
  where
    go : (t : Step) → ((next : List Frame) (more : List Statement) → trace n macros next more ≡ trace n text next more)
        → traced (trace n macros) above t ≡ traced (trace n text) above t
    go Ends behind = refl
    go (Stops s) behind = refl
    go (Passes next) behind = behind next above
    go (Gives s next) behind = ap (λ (ss : List Statement). s ∷ ss) (behind next (carried above s))
