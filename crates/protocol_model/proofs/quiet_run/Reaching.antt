-- Where the steps of a program are in reach, so is each plan for what is left of it.
use Rattle.protocol_model.proofs.Names.{[], ◌++◌, ◌∷◌, AreInReach, behind, block_touches, Bool, Command, cond, Does, false, Frame, frame_behind}
use Rattle.protocol_model.proofs.Names.{framing, is_empty, IsInReach, List, Meaning as Program, None, Option, Part, plan, Planned, planned, Some}
use Rattle.protocol_model.proofs.Names.{Start, Step, stepping, StepsInReach, suc, tool_behind, tooling, Touch, true, up_to, zero, ℕ}
use Rattle.fixed_um.specs.declared.frames.Frame.TheVariants.{Machine}

-- the tool that is selected is in the rack, if one is
abbrev HasTool : List (List ℕ) → Option (List ℕ) → Type 0
HasTool rack None = Unit {0}
HasTool rack (Some n) = IsInReach rack (Does.Changes n)

-- what is selected at a position, and the steps after it, are in reach
record IsThere (rack : List (List ℕ)) (tool : Option (List ℕ)) (f : Frame) (ss : List Step) : Type 0 where
  has : HasTool rack tool
  steps : StepsInReach rack f ss

touch_there : (rack : List (List ℕ)) (k : ℕ) (tool : Option (List ℕ)) (f : Frame) (t : Touch) (ss : List Step) (b : Bool)
    → IsThere rack (tool_behind tool (up_to k ss)) (frame_behind f (up_to k ss)) (behind k ss)
    → IsThere rack (tool_behind tool (up_to (suc k) ss)) (frame_behind f (up_to (suc k) ss)) (behind (suc k) ss)
    → IsThere rack (tool_behind tool (Step.Touch t ∷ cond b (up_to k ss) (up_to (suc k) ss)))
    (frame_behind f (Step.Touch t ∷ cond b (up_to k ss) (up_to (suc k) ss))) (cond b (behind k ss) (behind (suc k) ss))
touch_there rack k tool f t ss true here there = here
touch_there rack k tool f t ss false here there = there

there_at : (rack : List (List ℕ)) (k : ℕ) (tool : Option (List ℕ)) (f : Frame) (ss : List Step) → HasTool rack tool
    → StepsInReach rack f ss → IsThere rack (tool_behind tool (up_to k ss)) (frame_behind f (up_to k ss)) (behind k ss)
there_at rack zero tool f ss has h = record { has = has; steps = h }
there_at rack (suc k) tool f [] has h = record { has = has; steps = tt }
there_at rack (suc k) tool f (Step.Goto p ∷ ss) has h = there_at rack (suc k) tool f ss has h.1
there_at rack (suc k) tool f (Step.Begin l ∷ ss) has h = there_at rack (suc k) tool f ss has h
there_at rack (suc k) tool f (Step.Touch t ∷ ss) has h = touch_there rack k tool f t ss (is_empty (block_touches ss))
    (there_at rack k tool f ss has h.1) (there_at rack (suc k) tool f ss has h.1)
there_at rack (suc k) tool f (Step.Tool n ∷ ss) has h = there_at rack (suc k) (Some n) f ss h.0 h.1
there_at rack (suc k) tool f (Step.Recall p ∷ ss) has h = there_at rack (suc k) tool (Part p) ss has h
there_at rack (suc k) tool f (Step.End ∷ ss) has h = there_at rack (suc k) tool f ss has h

framing_reached : (rack : List (List ℕ)) (f : Frame) (ps : List Planned) → AreInReach rack ps → AreInReach rack (framing f ++ ps)
framing_reached rack Machine ps h = (tt, h)
framing_reached rack (Part p) ps h = (tt, (tt, h))

tooling_reached : (rack : List (List ℕ)) (tool : Option (List ℕ)) (ps : List Planned) → HasTool rack tool → AreInReach rack ps
    → AreInReach rack (tooling tool ++ ps)
tooling_reached rack None ps has h = h
tooling_reached rack (Some n) ps has h = (has, h)

steps_reached : (rack : List (List ℕ)) (f : Frame) (ss : List Step) (ps : List Planned) → StepsInReach rack f ss → AreInReach rack ps
    → AreInReach rack (stepping f ss ++ ps)
steps_reached rack f [] ps h g = g
steps_reached rack f (Step.Goto p ∷ ss) ps h g = (h.0, steps_reached rack f ss ps h.1 g)
steps_reached rack f (Step.Begin l ∷ ss) ps h g = steps_reached rack f ss ps h g
steps_reached rack f (Step.Touch t ∷ ss) ps h g = (h.0, steps_reached rack f ss ps h.1 g)
steps_reached rack f (Step.Tool n ∷ ss) ps h g = (h.0, steps_reached rack f ss ps h.1 g)
steps_reached rack f (Step.Recall p ∷ ss) ps h g = (tt, (tt, steps_reached rack (Part p) ss ps h g))
steps_reached rack f (Step.End ∷ ss) ps h g = steps_reached rack f ss ps h g

-- a plan on a new connection is in reach, after however many features
pub plan_reached : (p : Program) (rack : List (List ℕ)) (k : ℕ) → StepsInReach rack Machine p.steps
    → AreInReach rack (plan p k Start.NewConnection)
plan_reached p rack k h =
    let there : IsThere rack (tool_behind None (up_to k p.steps)) (frame_behind Machine (up_to k p.steps)) (behind k p.steps) =
    there_at rack k None Machine p.steps tt h in (
      tt,
      (
        tt,
        (
          tt,
          (
            tt,
            (
              tt,
              tooling_reached rack (tool_behind None (up_to k p.steps)) _ there.has
                  (framing_reached rack (frame_behind Machine (up_to k p.steps)) _
                  (steps_reached rack (frame_behind Machine (up_to k p.steps)) (behind k p.steps)
                  (planned Command.EndSession Does.Nothing ∷ [])
                  there.steps (tt, tt))),
            ),
          ),
        ),
      ),
    )
