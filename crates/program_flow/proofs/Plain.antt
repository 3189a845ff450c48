-- What is carried out of a text without the words of control flow, macros and calls.
use Rattle.std.proofs.Common.{◌≡◌, ℕ, zero, suc, ◌+◌, ◌<◌, Bool, true, false, List, [], ◌∷◌, arith, drop, length, refl, ap, sym, ◌∙◌}
use Rattle.std.specs.Prelude.{◌||◌, not}
use Rattle.std.specs.List.{AllByRecursion}
use Rattle.dmis_text.specs.declared.elements.Statement.{Statement}
use Rattle.program_flow.specs.LookBack.{value_said}
use Rattle.program_flow.specs.Calls.{Frame, Step, begun, decision_at, is_call, is_plain, lifted, next_of, step, told_as}
use Rattle.program_flow.specs.Calls as calls
use Rattle.program_flow.specs.Flow.{Control, Turn, carried, to}
use Rattle.program_flow.specs.Values.{Valuation}
use Rattle.program_flow.specs.Macros.{begins_macro, ends_macro, outside_after}
use Rattle.program_flow.specs.Blocks.{part_of}
use Rattle.program_flow.specs.declared.blocks.Block.{Block}
use Rattle.program_flow.specs.declared.blocks.Part.TheVariants.{Other}
use Rattle.program_flow.proofs.Frames.{call-step, told-ends, told-gives}
use Rattle.program_flow.proofs.Leads.{step-here, step-past, step-turned}
use Rattle.program_flow.proofs.Straight.{drop-next, turn-other}

-- the only frame of such a text
abbrev pub only : List Statement → Control → Frame
only text c = record { name = []; statements = text; control = c }

not_all : (a b c : Bool) → not (a || (b || c)) ≡ true → (a ≡ false) × ((b ≡ false) × (c ≡ false))
not_all false false false h = (refl, (refl, refl))
not_all true b c h = absurd cc
not_all false true c h = absurd cc
not_all false false true h = absurd cc

outside_same : (text : List Statement) → AllByRecursion (λ (s : Statement). (is_plain s ≡ true) × (part_of s ≡ Other)) text → outside_after false text ≡ text
unfolding outside_after
outside_same [] h = refl
outside_same (s ∷ below) h =
    let plain = not_all (is_call s) (begins_macro s) (ends_macro s) h.0.0 in
    rw plain.1.0 (ap (λ (ss : List Statement). s ∷ ss) (outside_same below h.1))

-- another statement than those of control flow, macros and calls comes out, and the next one follows
pub step-other : (text : List Statement) (values : Valuation) (name : List ℕ) (all : List Statement) (place : ℕ) (blocks : List Block)
    (outer : List Frame) (s : Statement) (below : List Statement) → drop place all ≡ s ∷ below → is_plain s ≡ true → part_of s ≡ Other
    → step text values (record { name = name; statements = all; control = to place blocks } ∷ outer)
    ≡ calls.Step.Gives s (record { name = name; statements = all; control = to (place + 1) blocks } ∷ outer)
step-other text values name all place blocks outer s below d p o =
    let plain = not_all (is_call s) (begins_macro s) (ends_macro s) p in
    let f : Frame = record { name = name; statements = all; control = to place blocks } in
    sym (step-here text values f outer s below d) ∙ (sym (step-turned text values f outer s plain.0 plain.1.0 plain.1.1)
    ∙ ap (λ (t : Turn). lifted f outer t) (turn-other all values place blocks s below d o))

pub call-other : (n place : ℕ) (text all above : List Statement) (s : Statement) (below : List Statement) → drop place all ≡ s ∷ below
    → is_plain s ≡ true → part_of s ≡ Other
    → calls.trace (suc n) text (only all (to place []) ∷ []) above ≡ s ∷ calls.trace n text (only all (to (place + 1) []) ∷ []) (carried above s)
call-other n place text all above s below d p o = call-step n (suc n) text (only all (to place []) ∷ []) above refl
    ∙ ap (λ (t : Step). calls.traced (calls.trace n text) above t)
    (ap (λ (t : Step). told_as (decision_at (next_of (only all (to place []) ∷ []))) t) (step-other text (value_said above) [] all place [] [] s below d p o)
    ∙ told-gives (decision_at (next_of (only all (to place []) ∷ []))) s (only all (to (place + 1) []) ∷ []))

abbrev pub IsStraight : Statement → Type 0
IsStraight s = (is_plain s ≡ true) × (part_of s ≡ Other)

straight : (n place : ℕ) (text all above below : List Statement) → drop place all ≡ below → AllByRecursion IsStraight below → length below < n
    → calls.trace n text (only all (to place []) ∷ []) above ≡ below
straight zero place text all above below d h few = absurd (omega (arith, few))
straight (suc n) place text all above [] d h few = call-step n (suc n) text (only all (to place []) ∷ []) above refl
    ∙ ap (λ (t : Step). calls.traced (calls.trace n text) above (told_as (decision_at (next_of (only all (to place []) ∷ []))) t))
    (step-past text (value_said above) (only all (to place [])) [] d) ∙ ap (λ (t : Step). calls.traced (calls.trace n text) above t)
    (told-ends (decision_at (next_of (only all (to place []) ∷ []))))
straight (suc n) place text all above (s ∷ below) d h few = call-other n place text all above s below d h.0.0 h.0.1
    ∙ ap (λ (ss : List Statement). s ∷ ss) (straight n (place + 1) text all (carried above s) below (drop-next place all s below d) h.1 (omega (arith, few)))

pub straight_text : (text : List Statement) → AllByRecursion IsStraight text → length text < 1000000
    → calls.trace 1000000 text (begun text) [] ≡ text
straight_text text h few = ap (λ (ss : List Statement). calls.trace 1000000 text (only ss (to 0 []) ∷ []) []) (outside_same text h)
    ∙ straight 1000000 0 text text [] text refl h few

-- and is outside macros
pub outside-other : (s : Statement) (below : List Statement) → is_plain s ≡ true → outside_after false (s ∷ below) ≡ s ∷ outside_after false below
unfolding outside_after
outside-other s below p = let plain = not_all (is_call s) (begins_macro s) (ends_macro s) p in rw plain.1.0 refl
