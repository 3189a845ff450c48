-- The tool and the frame that a witness reports of a contact, and those that the machine had (this profile).
use Rattle.std.specs.Prelude.{◌≡◌, ℕ, List, Option, Some, None}
use Rattle.fixed_um.specs.declared.frames.Frame.{Frame}
use Rattle.contact_ledger.specs.declared.acts.Act.{Act}
use Rattle.contact_ledger.specs.declared.acts.Act.TheVariants as act
use Rattle.dme_line.specs.declared.tags.Tag.{Tag}
use Rattle.witness.specs.Asking.{Signal}
use Rattle.witness.specs.Histories.{mark_in}
use Rattle.witness.specs.declared.lines.Heard.TheVariants as heard
use Rattle.witness.specs.declared.lines.Reported.{Reported}
use Rattle.witness.specs.declared.lines.Reported.TheVariants as reports
use Rattle.witness_laws.specs.Machines.{Entry, lines, tool_at_contact, frame_at_contact}

-- of a contact; None if it is not known, or if this is no contact
abbrev pub act_tool : Act → Option (List ℕ)
act_tool (act.Contact target dir tool frame point) = Some tool
act_tool _ = None

abbrev pub act_frame : Act → Option Frame
act_frame (act.Contact target dir tool frame point) = Some frame
act_frame _ = None

abbrev pub contact_tool : Reported → Option (List ℕ)
contact_tool (reports.Did a) = act_tool a
contact_tool (reports.Touched target dir tool frame point) = tool
contact_tool _ = None

abbrev pub contact_frame : Reported → Option Frame
contact_frame (reports.Did a) = act_frame a
contact_frame (reports.Touched target dir tool frame point) = frame
contact_frame _ = None

-- a line of the server is the end of a touch, which made its contact with this tool, or in this frame
pub record HadTool (what : Option (Tag × Signal)) (h : List Entry) (tool : List ℕ) : Type 0 where
  pub touch : ℕ
  pub ends : mark_in what (lines h) ≡ Some (touch, heard.Complete)
  pub had : tool_at_contact touch h ≡ Some (Some tool)

pub record HadFrame (what : Option (Tag × Signal)) (h : List Entry) (frame : Frame) : Type 0 where
  pub touch : ℕ
  pub ends : mark_in what (lines h) ≡ Some (touch, heard.Complete)
  pub had : frame_at_contact touch h ≡ Some (Some frame)

-- where the tool or the frame of a contact is known, a line of the server is the end of a touch that had it
pub record HadKnown (what : Option (Tag × Signal)) (h : List Entry) (r : Reported) : Type 0 where
  pub tool : (tool : List ℕ) → contact_tool r ≡ Some tool → HadTool what h tool
  pub frame : (frame : Frame) → contact_frame r ≡ Some frame → HadFrame what h frame
