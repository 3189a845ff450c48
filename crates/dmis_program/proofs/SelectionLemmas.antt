-- A touch has what was selected last above it.
use Rattle.dmis_program.proofs.Names.{[], ◌++◌, ◌∷◌, ◌≡◌, Begin, End, FollowSelections, Frame, Goto, IsProgram, List, Machine, Meaning, None, Option}
use Rattle.dmis_program.proofs.Names.{Part, Point, Recall, SelectNoFrame, SelectNoTool, Some, Step, subst, Tool, Touch, ℕ}
use Rattle.dmis_program.specs.declared.features.Touch as touch

-- after some steps, what is selected there
record Behind (steps : List Step) : Type 0 where
  tool : Option (List ℕ)
  frame : Frame
  follow : FollowSelections tool frame steps

behind : (tool : Option (List ℕ)) (frame : Frame) (front steps : List Step) → FollowSelections tool frame (front ++ steps) → Behind steps
behind tool frame [] steps h = record { tool = tool; frame = frame; follow = h }
behind tool frame (Goto target ∷ front) steps h = behind tool frame front steps h
behind tool frame (Begin label ∷ front) steps h = behind tool frame front steps h
behind tool frame (Touch t ∷ front) steps h = behind tool frame front steps h.2
behind tool frame (Tool name ∷ front) steps h = behind (Some name) frame front steps h
behind tool frame (Recall offset ∷ front) steps h = behind tool (Part offset) front steps h
behind tool frame (End ∷ front) steps h = behind tool frame front steps h

tool_stays : (tool : Option (List ℕ)) (frame : Frame) (between : List Step) (t : touch.Touch) (steps : List Step) → SelectNoTool between
    → FollowSelections tool frame (between ++ (Touch t ∷ steps)) → tool ≡ Some t.tool
tool_stays tool frame [] t steps g h = h.0
tool_stays tool frame (Goto target ∷ between) t steps g h = tool_stays tool frame between t steps g h
tool_stays tool frame (Begin label ∷ between) t steps g h = tool_stays tool frame between t steps g h
tool_stays tool frame (Touch u ∷ between) t steps g h = tool_stays tool frame between t steps g h.2
tool_stays tool frame (Tool name ∷ between) t steps g h = absurd g
tool_stays tool frame (Recall offset ∷ between) t steps g h = tool_stays tool (Part offset) between t steps g h
tool_stays tool frame (End ∷ between) t steps g h = tool_stays tool frame between t steps g h

frame_stays : (tool : Option (List ℕ)) (frame : Frame) (between : List Step) (t : touch.Touch) (steps : List Step) → SelectNoFrame between
    → FollowSelections tool frame (between ++ (Touch t ∷ steps)) → t.frame ≡ frame
frame_stays tool frame [] t steps g h = h.1
frame_stays tool frame (Goto target ∷ between) t steps g h = frame_stays tool frame between t steps g h
frame_stays tool frame (Begin label ∷ between) t steps g h = frame_stays tool frame between t steps g h
frame_stays tool frame (Touch u ∷ between) t steps g h = frame_stays tool frame between t steps g h.2
frame_stays tool frame (Tool name ∷ between) t steps g h = frame_stays (Some name) frame between t steps g h
frame_stays tool frame (Recall offset ∷ between) t steps g h = absurd g
frame_stays tool frame (End ∷ between) t steps g h = frame_stays tool frame between t steps g h

pub touch_tool : (m : Meaning) (before between more : List Step) (name : List ℕ) (t : touch.Touch) → IsProgram m
    → m.steps ≡ before ++ (Tool name ∷ (between ++ (Touch t ∷ more))) → SelectNoTool between → t.tool ≡ name
touch_tool m before between more name t h e g =
    let there = behind None Machine before (Tool name ∷ (between ++ (Touch t ∷ more)))
    (subst (FollowSelections None Machine) e h.selections) in
    let same = tool_stays (Some name) there.frame between t more g there.follow in
    cc

pub touch_frame : (m : Meaning) (before between more : List Step) (offset : Point) (t : touch.Touch) → IsProgram m
    → m.steps ≡ before ++ (Recall offset ∷ (between ++ (Touch t ∷ more))) → SelectNoFrame between → t.frame ≡ Part offset
touch_frame m before between more offset t h e g =
    let there = behind None Machine before (Recall offset ∷ (between ++ (Touch t ∷ more)))
    (subst (FollowSelections None Machine) e h.selections) in
    frame_stays there.tool (Part offset) between t more g there.follow

pub touch_machine : (m : Meaning) (before more : List Step) (t : touch.Touch) → IsProgram m → m.steps ≡ before ++ (Touch t ∷ more)
    → SelectNoFrame before → t.frame ≡ Machine
touch_machine m before more t h e g = frame_stays None Machine before t more g (subst (FollowSelections None Machine) e h.selections)
