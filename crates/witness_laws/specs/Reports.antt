-- Which report of a witness is that of an act of a server (this profile).
use Rattle.std.specs.Prelude.{◌≡◌, ℕ, Bool, true, false, ◌&&◌, if◌then◌else◌, Option, Some, None, List, [], ◌∷◌}
use Rattle.std.specs.List.{list_any}
use Rattle.fixed_um.specs.declared.frames.Frame.{Frame}
use Rattle.contact_ledger.specs.declared.acts.Act.{Act}
use Rattle.contact_ledger.specs.declared.acts.Act.TheVariants as act
use Rattle.dme_line.specs.declared.tags.Tag.{Tag}
use Rattle.protocol_model.specs.Readings.{command_of}
use Rattle.protocol_model.specs.Replies.{tag_is}
use Rattle.witness.specs.Asking.{sent}
use Rattle.witness.specs.Marks.{is_foreign}
use Rattle.witness.specs.declared.lines.Reported.{Reported}
use Rattle.witness.specs.declared.lines.Reported.TheVariants as reports
use Rattle.witness.specs.declared.lines.Rule.TheVariants.{NotInTurn}
use Rattle.witness.specs.declared.lines.SentCommand.{SentCommand}

-- a line that this profile does not know is no report of an act, nor one that belongs to no command, nor one that breaks a rule
abbrev pub is_other : Reported → Bool
is_other (reports.Other side line) = true
is_other (reports.Unasked line) = true
is_other (reports.Broken rule tag) = true
is_other _ = false

-- what was reported without these lines
abbrev pub act_reports : List Reported → List Reported
act_reports [] = []
act_reports (x ∷ xs) = if is_other x then act_reports xs else x ∷ act_reports xs

-- a line of the client is under this tag, and this profile does not know it
abbrev pub is_foreign_under : Tag → Option (Tag × SentCommand) → Bool
is_foreign_under tag None = false
is_foreign_under tag (Some (used, what)) = tag_is used tag && is_foreign what

-- one of these lines is
abbrev pub some_foreign : List (List ℕ) → Tag → Bool
some_foreign lines tag = list_any (λ line. is_foreign_under tag (sent line (command_of line))) lines

-- a rule that is broken is that of turns, by an answer under one of these tags
abbrev pub breaks_only : (Tag → Bool) → Reported → Bool
breaks_only tags (reports.Broken NotInTurn tag) = tags tag
breaks_only tags (reports.Broken rule tag) = false
breaks_only tags _ = true

-- nothing is named, or just this
abbrev pub NamesNoOther : {A : Type 0} → Option A → A → Type 0
NamesNoOther None x = Unit {0}
NamesNoOther (Some y) x = y ≡ x

-- a report is that of an act: it is the act, or has all of it but a tool or a frame that is not known
abbrev pub IsReportOf : Reported → Act → Type 0
IsReportOf (reports.Did a) b = a ≡ b
IsReportOf (reports.MovedSomewhere p) (act.Moved target frame) = p ≡ target
IsReportOf reports.FramedSomehow (act.Framed frame) = Unit {0}
IsReportOf (reports.Touched p d n f at) (act.Contact target dir tool frame point) =
    (p ≡ target) × (d ≡ dir) × NamesNoOther n tool × NamesNoOther f frame × (at ≡ point)
IsReportOf _ _ = ⊥

-- reports are those of these acts, one for one, in order
abbrev pub AreReportsOf : List Reported → List Act → Type 0
AreReportsOf [] [] = Unit {0}
AreReportsOf (x ∷ xs) (a ∷ acts) = IsReportOf x a × AreReportsOf xs acts
AreReportsOf _ _ = ⊥

-- the tool of an act, and its frame, if it has one
abbrev pub tool_of : Act → Option (List ℕ)
tool_of (act.Contact target dir tool frame point) = Some tool
tool_of (act.Changed tool) = Some tool
tool_of _ = None

abbrev pub frame_of : Act → Option Frame
frame_of (act.Contact target dir tool frame point) = Some frame
frame_of (act.Moved target frame) = Some frame
frame_of (act.Framed frame) = Some frame
frame_of _ = None

-- the tool that a report names, and the frame
abbrev pub tool_named : Reported → Option (List ℕ)
tool_named (reports.Did a) = tool_of a
tool_named (reports.Touched p d n f at) = n
tool_named _ = None

abbrev pub frame_named : Reported → Option Frame
frame_named (reports.Did a) = frame_of a
frame_named (reports.Touched p d n f at) = f
frame_named _ = None

-- where a report names a tool or a frame, it is that of the act
pub record NamesThoseOf (report : Reported) (a : Act) : Type 0 where
  pub tool : (name : List ℕ) → tool_named report ≡ Some name → tool_of a ≡ Some name
  pub frame : (name : Frame) → frame_named report ≡ Some name → frame_of a ≡ Some name
