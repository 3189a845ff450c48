-- The lines of the commands that carry out statements are those of the plan's commands.
use Rattle.program_review.proofs.Names.{[], ◌++◌, ◌∙◌, ◌∷◌, ◌≡◌, ◌≤◌, after_touch, ap, AreInVolume, behind, Command, command_lines_of}
use Rattle.program_review.proofs.Names.{feature_touches, features_of, flat_map, frame_again, frame_behind, frame_line, framing, HaveLines, IsOn}
use Rattle.program_review.proofs.Names.{length, lines_of, List, Meaning, measuring, None, Ok, Option, plan, planned, Point, program_of, refl, Some}
use Rattle.program_review.proofs.Names.{Statement, statement_commands, Step, stepping, subst, sym, take, task_lines_of, TaskLine, text_reading}
use Rattle.program_review.proofs.Names.{tool_again, tool_behind, tool_line, tooling, up_to, up_to_touch, Wanted, ℕ}
use Rattle.fixed_um.specs.declared.frames.Frame.{Frame}
use Rattle.fixed_um.specs.declared.frames.Frame.TheVariants.{Machine, Part}
use Rattle.dmis_program.proofs.ShapeLemmas.{program_shape}
use Rattle.protocol_model.specs.declared.plans.Does.TheVariants.{Nothing}
use Rattle.protocol_model.specs.declared.plans.Planned.{Planned}
use Rattle.protocol_model.specs.declared.plans.Start.{Start}
use Rattle.protocol_model.specs.declared.plans.Start.TheVariants.{NewConnection, SameConnection}
use Rattle.program_review.proofs.TaskSteps.{StepIsOn, AreTasks, tasks_are_steps}
use Rattle.program_review.proofs.TaskPlaces.{counted, count_of, parts}

-- the selected tool, and the line on which it is selected
abbrev ToolIsOn : List (List ℕ × Point) → List Statement → Option (List ℕ) → Option ℕ → Type 0
ToolIsOn frames all None None = Unit {0}
ToolIsOn frames all None (Some line) = ⊥
ToolIsOn frames all (Some name) None = ⊥
ToolIsOn frames all (Some name) (Some line) = IsOn frames all line (Command.ChangeTool name)

tool_on : (frames : List (List ℕ × Point)) (all : List Statement) (ss : List Step) (ts : List TaskLine) (tool : Option (List ℕ))
    (line : Option ℕ) → AreTasks (StepIsOn frames all) ss ts → ToolIsOn frames all tool line
    → ToolIsOn frames all (tool_behind tool ss) (tool_line line ts)
tool_on frames all [] [] tool line h is = is
tool_on frames all [] (t ∷ ts) tool line h is = absurd h
tool_on frames all (Step.Begin l ∷ ss) ts tool line h is = tool_on frames all ss ts tool line h is
tool_on frames all (Step.End ∷ ss) ts tool line h is = tool_on frames all ss ts tool line h is
tool_on frames all (Step.Tool n ∷ ss) (t ∷ ts) tool line h is = rw h.0 (tool_on frames all ss ts (Some n) (Some t.line) h.1.1 h.1.0)
tool_on frames all (s ∷ ss) [] tool line h is = absurd h
tool_on frames all (s ∷ ss) (t ∷ ts) tool line h is = rw h.0 (tool_on frames all ss ts tool line h.1.1 is)

-- likewise the frame
abbrev FrameIsOn : List (List ℕ × Point) → List Statement → Frame → Option ℕ → Type 0
FrameIsOn frames all Machine None = Unit {0}
FrameIsOn frames all Machine (Some line) = ⊥
FrameIsOn frames all (Part p) None = ⊥
FrameIsOn frames all (Part p) (Some line) = StepIsOn frames all (Step.Recall p) line

frame_on : (frames : List (List ℕ × Point)) (all : List Statement) (ss : List Step) (ts : List TaskLine) (frame : Frame)
    (line : Option ℕ) → AreTasks (StepIsOn frames all) ss ts → FrameIsOn frames all frame line
    → FrameIsOn frames all (frame_behind frame ss) (frame_line line ts)
frame_on frames all [] [] frame line h is = is
frame_on frames all [] (t ∷ ts) frame line h is = absurd h
frame_on frames all (Step.Begin l ∷ ss) ts frame line h is = frame_on frames all ss ts frame line h is
frame_on frames all (Step.End ∷ ss) ts frame line h is = frame_on frames all ss ts frame line h is
frame_on frames all (Step.Recall p ∷ ss) (t ∷ ts) frame line h is = rw h.0 (frame_on frames all ss ts (Part p) (Some t.line) h.1.1 h.1.0)
frame_on frames all (s ∷ ss) [] frame line h is = absurd h
frame_on frames all (s ∷ ss) (t ∷ ts) frame line h is = rw h.0 (frame_on frames all ss ts frame line h.1.1 is)

-- the commands of each part of a plan
tooling_lines : (frames : List (List ℕ × Point)) (all : List Statement) (tool : Option (List ℕ)) (line : Option ℕ) (ps : List Planned)
    (lines : List (Option ℕ)) → ToolIsOn frames all tool line → HaveLines frames all (statement_commands ps) lines
    → HaveLines frames all (statement_commands (tooling tool ++ ps)) (tool_again line ++ lines)
tooling_lines frames all None None ps lines is h = h
tooling_lines frames all None (Some line) ps lines is h = absurd is
tooling_lines frames all (Some name) None ps lines is h = absurd is
tooling_lines frames all (Some name) (Some line) ps lines is h = (is, h)

framing_lines : (frames : List (List ℕ × Point)) (all : List Statement) (frame : Frame) (line : Option ℕ) (ps : List Planned)
    (lines : List (Option ℕ)) → FrameIsOn frames all frame line → HaveLines frames all (statement_commands ps) lines
    → HaveLines frames all (statement_commands (framing frame ++ ps)) (frame_again line ++ lines)
framing_lines frames all Machine None ps lines is h = (refl, h)
framing_lines frames all Machine (Some line) ps lines is h = absurd is
framing_lines frames all (Part p) None ps lines is h = absurd is
framing_lines frames all (Part p) (Some line) ps lines is h = (is.0, (is.1, h))

-- the end of a plan
abbrev ending : List Planned
ending = planned Command.EndSession Nothing ∷ []

stepping_lines : (frames : List (List ℕ × Point)) (all : List Statement) (frame : Frame) (ss : List Step) (ts : List TaskLine)
    → AreTasks (StepIsOn frames all) ss ts
    → HaveLines frames all (statement_commands (stepping frame ss ++ ending)) (flat_map lines_of ts)
stepping_lines frames all frame [] [] h = tt
stepping_lines frames all frame [] (t ∷ ts) h = absurd h
stepping_lines frames all frame (Step.Begin l ∷ ss) ts h = stepping_lines frames all frame ss ts h
stepping_lines frames all frame (Step.End ∷ ss) ts h = stepping_lines frames all frame ss ts h
stepping_lines frames all frame (Step.Recall p ∷ ss) (t ∷ ts) h =
    rw h.0 (h.1.0.0, (h.1.0.1, stepping_lines frames all (Part p) ss ts h.1.1))
stepping_lines frames all frame (s ∷ ss) [] h = absurd h
stepping_lines frames all frame (s ∷ ss) (t ∷ ts) h = rw h.0 (h.1.0, stepping_lines frames all frame ss ts h.1.1)

measuring_lines : (frames : List (List ℕ × Point)) (all : List Statement) (before after : List Step) (n : ℕ) (ts : List TaskLine)
    → AreTasks (StepIsOn frames all) before (up_to_touch n ts) → AreTasks (StepIsOn frames all) after (after_touch n ts)
    → HaveLines frames all (statement_commands (measuring (tool_behind None before) (frame_behind Machine before) after))
    (command_lines_of n ts)
measuring_lines frames all before after n ts h g =
    tooling_lines frames all (tool_behind None before) (tool_line None (up_to_touch n ts)) _ _
    (tool_on frames all before (up_to_touch n ts) None None h tt)
    (framing_lines frames all (frame_behind Machine before) (frame_line None (up_to_touch n ts)) _ _
    (frame_on frames all before (up_to_touch n ts) Machine None h tt)
    (stepping_lines frames all (frame_behind Machine before) after (after_touch n ts) g))

begun : (frames : List (List ℕ × Point)) (all : List Statement) (m : Meaning) (k : ℕ) (start : Start) (lines : List (Option ℕ))
    → HaveLines frames all (statement_commands
    (measuring (tool_behind None (up_to k m.steps)) (frame_behind Machine (up_to k m.steps)) (behind k m.steps))) lines
    → HaveLines frames all (statement_commands (plan m k start)) lines
begun frames all m k NewConnection lines h = h
begun frames all m k SameConnection lines h = h

pub plan_lines : (frames : List (List ℕ × Point)) (text : List ℕ) (m : Meaning) (k : ℕ) (start : Start) → AreInVolume frames
    → program_of frames text ≡ Ok m → k ≤ length m.features
    → HaveLines frames (text_reading text).statements (statement_commands (plan m k start))
    (command_lines_of (length (feature_touches (take k m.features))) (task_lines_of (text_reading text).statements))
plan_lines frames text m k start volume is few =
    let all = (text_reading text).statements in
    let shape = program_shape frames text m volume is in
    let few_steps : k ≤ length (features_of m.steps) = subst (λ (features : List Wanted). k ≤ length features) shape.built few in
    let there = counted None m.steps shape.blocks k few_steps in
    let both = parts (StepIsOn frames all) k m.steps (task_lines_of all) there.there (tasks_are_steps frames text m is) in
    let count : count_of k m.steps ≡ length (feature_touches (take k m.features)) =
    there.count ∙ ap (λ (features : List Wanted). length (feature_touches (take k features))) (sym shape.built) in
    begun frames all m k start _
    (subst (λ (n : ℕ). HaveLines frames all (statement_commands
    (measuring (tool_behind None (up_to k m.steps)) (frame_behind Machine (up_to k m.steps)) (behind k m.steps)))
    (command_lines_of n (task_lines_of all))) count
    (measuring_lines frames all (up_to k m.steps) (behind k m.steps) (count_of k m.steps) (task_lines_of all) both.0 both.1))
