-- Definitions that only proofs use.
use Rattle.resume_plan.proofs.Names.{◌≡◌, behind, Frame, frame_behind, List, Machine, None, Option, Step, tool_behind, up_to, ℕ}

-- that many features are still to be passed in the rest of the steps, where this tool and this frame are selected
pub record IsBehind (completed : ℕ) (steps : List Step) (left : ℕ) (rest : List Step) (tool : Option (List ℕ)) (frame : Frame) : Type 0
  where
    pub left_steps : behind completed steps ≡ behind left rest
    pub selected_tool : tool_behind None (up_to completed steps) ≡ tool_behind tool (up_to left rest)
    pub selected_frame : frame_behind Machine (up_to completed steps) ≡ frame_behind frame (up_to left rest)
