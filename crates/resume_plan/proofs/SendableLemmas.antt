-- Every command of a plan can be written.
use Rattle.resume_plan.proofs.Names.{[], ◌++◌, ◌∷◌, ◌≡◌, arith, behind, block_touches, Bool, clearing, cond, false, Frame, frame_behind, framing}
use Rattle.resume_plan.proofs.Names.{is_empty, IsFrame, IsProgram, IsSendable, IsStep, List, Machine, Meaning as Program, measuring, neg_ℤ, negsuc}
use Rattle.resume_plan.proofs.Names.{None, Option, Part, plan, Planned, pos, refl, Some, Start, starting, Step, stepping, suc, tooling, true}
use Rattle.resume_plan.proofs.Names.{unsigned_abs, up_to, zero, ℕ, ℤ}
use Rattle.std.specs.List.{All, AllByRecursion}
use Rattle.fixed_um.specs.Points.{IsInVolume, point_opposite}
use Rattle.fixed_um.specs.declared.lengths.Point.{Point}
use Rattle.protocol_model.specs.declared.plans.Start.TheVariants.{NewConnection, SameConnection}

-- turning signs stays in the volume
abs-opposite : (z : ℤ) → unsigned_abs (neg_ℤ z) ≡ unsigned_abs z
abs-opposite (pos zero) = refl
abs-opposite (pos (suc n)) = refl
abs-opposite (negsuc n) = refl

opposite_within : (p : Point) → IsInVolume p → IsInVolume (point_opposite p)
opposite_within p h = record { x = rw (abs-opposite p.x) h.x; y = rw (abs-opposite p.y) h.y; z = rw (abs-opposite p.z) h.z }

-- what holds of the elements of two lists holds of those of both
both : {A : Type 0} (P : A → Type 0) (xs ys : List A) → AllByRecursion P xs → AllByRecursion P ys → AllByRecursion P (xs ++ ys)
both P [] ys h g = g
both P (x ∷ xs) ys h g = (h.0, both P xs ys h.1 g)

-- and of the element at each index
at_each : {A : Type 0} (P : A → Type 0) (xs : List A) → AllByRecursion P xs → All P xs
at_each P [] h k d below = absurd (omega arith)
at_each P (x ∷ xs) h zero d below = h.0
at_each P (x ∷ xs) h (suc k) d below = at_each P xs h.1 k d (omega arith)

-- of one of two lists
either : {A : Type 0} (P : A → Type 0) (b : Bool) (xs ys : List A) → AllByRecursion P xs → AllByRecursion P ys
    → AllByRecursion P (cond b xs ys)
either P true xs ys h g = h
either P false xs ys h g = g

-- the steps up to a position, and those after it
are_up_to : (k : ℕ) (ss : List Step) → AllByRecursion IsStep ss → AllByRecursion IsStep (up_to k ss)
are_up_to zero ss h = tt
are_up_to (suc k) [] h = tt
are_up_to (suc k) (Step.Goto p ∷ ss) h = (h.0, are_up_to (suc k) ss h.1)
are_up_to (suc k) (Step.Begin l ∷ ss) h = (h.0, are_up_to (suc k) ss h.1)
are_up_to (suc k) (Step.Touch t ∷ ss) h = (
  h.0,
  either IsStep (is_empty (block_touches ss)) (up_to k ss) (up_to (suc k) ss)
      (are_up_to k ss h.1) (are_up_to (suc k) ss h.1),
)
are_up_to (suc k) (Step.Tool n ∷ ss) h = (h.0, are_up_to (suc k) ss h.1)
are_up_to (suc k) (Step.Recall p ∷ ss) h = (h.0, are_up_to (suc k) ss h.1)
are_up_to (suc k) (Step.End ∷ ss) h = (h.0, are_up_to (suc k) ss h.1)

are_behind : (k : ℕ) (ss : List Step) → AllByRecursion IsStep ss → AllByRecursion IsStep (behind k ss)
are_behind zero ss h = h
are_behind (suc k) [] h = tt
are_behind (suc k) (Step.Goto p ∷ ss) h = are_behind (suc k) ss h.1
are_behind (suc k) (Step.Begin l ∷ ss) h = are_behind (suc k) ss h.1
are_behind (suc k) (Step.Touch t ∷ ss) h = either IsStep (is_empty (block_touches ss)) (behind k ss) (behind (suc k) ss)
    (are_behind k ss h.1) (are_behind (suc k) ss h.1)
are_behind (suc k) (Step.Tool n ∷ ss) h = are_behind (suc k) ss h.1
are_behind (suc k) (Step.Recall p ∷ ss) h = are_behind (suc k) ss h.1
are_behind (suc k) (Step.End ∷ ss) h = are_behind (suc k) ss h.1

-- the frame that is selected there is one
frame_there : (f : Frame) (ss : List Step) → IsFrame f → AllByRecursion IsStep ss → IsFrame (frame_behind f ss)
frame_there f [] is h = is
frame_there f (Step.Goto p ∷ ss) is h = frame_there f ss is h.1
frame_there f (Step.Begin l ∷ ss) is h = frame_there f ss is h.1
frame_there f (Step.Touch t ∷ ss) is h = frame_there f ss is h.1
frame_there f (Step.Tool n ∷ ss) is h = frame_there f ss is h.1
frame_there f (Step.Recall p ∷ ss) is h = frame_there (Part p) ss h.0 h.1
frame_there f (Step.End ∷ ss) is h = frame_there f ss is h.1

-- the commands of each part of a plan
sendable_framing : (f : Frame) → IsFrame f → AllByRecursion IsSendable (framing f)
sendable_framing Machine h = (record { standard = refl; lengths = tt }, tt)
sendable_framing (Part p) h = (record { standard = refl; lengths = opposite_within p h }, (record { standard = refl; lengths = tt }, tt))

sendable_tooling : (tool : Option (List ℕ)) → AllByRecursion IsSendable (tooling tool)
sendable_tooling None = tt
sendable_tooling (Some n) = (record { standard = refl; lengths = tt }, tt)

sendable_stepping : (f : Frame) (ss : List Step) → AllByRecursion IsStep ss → AllByRecursion IsSendable (stepping f ss)
sendable_stepping f [] h = tt
sendable_stepping f (Step.Goto p ∷ ss) h = (record { standard = refl; lengths = tt }, sendable_stepping f ss h.1)
sendable_stepping f (Step.Begin l ∷ ss) h = sendable_stepping f ss h.1
sendable_stepping f (Step.Touch t ∷ ss) h = (record { standard = refl; lengths = tt }, sendable_stepping f ss h.1)
sendable_stepping f (Step.Tool n ∷ ss) h = (record { standard = refl; lengths = tt }, sendable_stepping f ss h.1)
sendable_stepping f (Step.Recall p ∷ ss) h = both IsSendable (framing (Part p)) (stepping (Part p) ss) (sendable_framing (Part p) h.0)
    (sendable_stepping (Part p) ss h.1)
sendable_stepping f (Step.End ∷ ss) h = sendable_stepping f ss h.1

sendable_measuring : (tool : Option (List ℕ)) (f : Frame) (ss : List Step) → IsFrame f → AllByRecursion IsStep ss
    → AllByRecursion IsSendable (measuring tool f ss)
sendable_measuring tool f ss is h =
    both IsSendable (tooling tool) _ (sendable_tooling tool)
    (both IsSendable (framing f) _ (sendable_framing f is)
    (both IsSendable (stepping f ss) _ (sendable_stepping f ss h) (record { standard = refl; lengths = tt }, tt)))

sendable_clearing : (ps : List Planned) → AllByRecursion IsSendable ps → AllByRecursion IsSendable (clearing ps)
sendable_clearing ps h = (
  record { standard = refl; lengths = tt },
  (
    record { standard = refl; lengths = tt },
    (record { standard = refl; lengths = tt }, (record { standard = refl; lengths = tt }, h)),
  ),
)

sendable_starting : (start : Start) (ps : List Planned) → AllByRecursion IsSendable ps → AllByRecursion IsSendable (starting start ps)
sendable_starting NewConnection ps h = (record { standard = refl; lengths = tt }, h)
sendable_starting SameConnection ps h = h

pub plans_are_sendable : (p : Program) (k : ℕ) (start : Start) → IsProgram p → All IsSendable (plan p k start)
plans_are_sendable p k start h =
    at_each IsSendable (plan p k start)
    (sendable_starting start _ (sendable_clearing _
    (sendable_measuring _ _ _ (frame_there Machine (up_to k p.steps) tt (are_up_to k p.steps h.steps)) (are_behind k p.steps h.steps))))
