-- Changes of tool and frame that may hold for a line, and what becomes of them (this profile).
use Rattle.std.specs.Prelude.{ℕ, ◌==◌, Bool, false, ◌&&◌, if◌then◌else◌, List, Option, Some, None}
use Rattle.fixed_um.specs.Points.{point_opposite}
use Rattle.fixed_um.specs.declared.lengths.Point.{Point}
use Rattle.fixed_um.specs.declared.frames.Frame.{Frame}
use Rattle.fixed_um.specs.declared.frames.Frame.TheVariants.{Machine, Part}
use Rattle.dme_line.specs.declared.commands.Command.{Command}
use Rattle.dme_line.specs.declared.commands.Command.TheVariants as command
use Rattle.dme_line.specs.declared.commands.Csy.{Csy}
use Rattle.dme_line.specs.declared.commands.Csy.TheVariants.{MachineCsy, PartCsy}
use Rattle.witness.specs.Marks.{is_error}
use Rattle.witness.specs.declared.lines.Heard.{Heard}
use Rattle.witness.specs.declared.lines.Heard.TheVariants as heard
use Rattle.witness.specs.declared.lines.Known.{Known}
use Rattle.witness.specs.declared.lines.Progress.{Progress}
use Rattle.witness.specs.declared.lines.Progress.TheVariants.{Sent, Begun, Done}
use Rattle.witness.specs.declared.lines.Renewal.{Renewal}
use Rattle.witness.specs.declared.lines.Renewal.TheVariants.{Fault, Mark, Answer}
use Rattle.witness.specs.declared.lines.SentCommand.{SentCommand}
use Rattle.witness.specs.declared.lines.SentCommand.TheVariants as sends
use Rattle.witness.specs.declared.lines.Standing.{Standing}

-- nothing, as at the start of a connection
abbrev pub nothing : Known
nothing = record { tool = None; csy = None; part = None; zero = None }

-- ---- what becomes of a change

-- it is so far now
abbrev pub at : Standing → Progress → Option Standing
at s progress = Some (record { line = s.line; rival = s.rival; progress = progress })

-- a fault, by how far it is
abbrev pub faulted : Standing → Progress → Option Standing
faulted s Sent = Some s
faulted s _ = None

-- a mark for it
abbrev pub with_mark : Standing → Progress → Heard → Option Standing
with_mark s Sent heard.Received = at s Begun
with_mark s Begun heard.Complete = at s Done
with_mark s _ _ = None

-- an answer to a line below it
abbrev pub answering : Standing → Progress → Option Standing
answering s Done = Some s
answering s _ = None

-- an error of the line that was open last under its tag when it was sent: either may be the one that was refused
abbrev pub is_rival : ℕ → Option ℕ → Bool
is_rival line None = false
is_rival line (Some n) = n == line

abbrev pub unless_refused : Standing → ℕ → Heard → Option Standing
unless_refused s line h = if is_rival line s.rival && is_error h then None else Some s

abbrev pub renewed : Renewal → Standing → Option Standing
renewed Fault s = faulted s s.progress
renewed (Mark line h) s = if s.line == line then with_mark s s.progress h else unless_refused s line h
renewed Answer s = answering s s.progress

-- ---- what becomes of what is known

abbrev pub standing : {A : Type 0} → A → Option Standing → Option (A × Standing)
standing a None = None
standing a (Some s) = Some (a, s)

abbrev pub one_renewed : {A : Type 0} → Renewal → Option (A × Standing) → Option (A × Standing)
one_renewed r None = None
one_renewed r (Some (a, s)) = standing a (renewed r s)

abbrev pub all_renewed : Renewal → Known → Known
all_renewed r k = record {
  tool = one_renewed r k.tool;
  csy = one_renewed r k.csy;
  part = one_renewed r k.part;
  zero = one_renewed r k.zero;
}

-- ---- below a line

-- a command that was just sent, on the line of this number; None if it is lost, since the one before it under its tag has failed
abbrev pub fresh : ℕ → Option ℕ → Bool → Option Standing
fresh n rival is_lost = if is_lost then None else Some (record { line = n; rival = rival; progress = Sent })

-- the machine's frame may still hold if a part's zero point is stored; a part's does not
abbrev pub unless_part : Option (Csy × Standing) → Option (Csy × Standing)
unless_part None = None
unless_part (Some (MachineCsy, s)) = Some (MachineCsy, s)
unless_part (Some (PartCsy, s)) = None

-- below a command that was just sent; a session begins and ends with anything, and homing may put a tool down
abbrev pub below_command : Option Standing → Command → Known → Known
below_command s command.StartSession k = nothing
below_command s command.EndSession k = nothing
below_command s command.Home k = record { tool = None; csy = k.csy; part = k.part; zero = k.zero }
below_command s (command.ChangeTool tool) k = record { tool = standing tool s; csy = k.csy; part = k.part; zero = k.zero }
below_command s (command.SetCsyTransformation p) k =
    record { tool = k.tool; csy = unless_part k.csy; part = k.part; zero = standing (point_opposite p) s }
below_command s (command.SetCoordSystem csy) k = record { tool = k.tool; csy = standing csy s; part = k.zero; zero = k.zero }
below_command s _ k = k

-- below what a line asks for; of what is foreign anything may have been changed
abbrev pub below : Option Standing → SentCommand → Known → Known
below s (sends.Known c) k = below_command s c k
below s sends.Asking k = k
below s (sends.Foreign line) k = nothing

-- ---- what is known

-- what a change that is done selects
abbrev pub if_done : {A : Type 0} → A → Progress → Option A
if_done a Done = Some a
if_done a _ = None

abbrev pub done : {A : Type 0} → Option (A × Standing) → Option A
done None = None
done (Some (a, s)) = if_done a s.progress

-- the part's frame, if its zero point is known
abbrev pub part_at : Option Point → Option Frame
part_at None = None
part_at (Some p) = Some (Part p)

-- the frame of a coordinate system, with this zero point of the part
abbrev pub frame_in : Csy → Option Point → Option Frame
frame_in MachineCsy p = Some Machine
frame_in PartCsy p = part_at p

abbrev pub frame_by : Option Csy → Option Point → Option Frame
frame_by None p = None
frame_by (Some csy) p = frame_in csy p

-- the tool, and the frame
abbrev pub tool_of : Known → Option (List ℕ)
tool_of k = done k.tool

abbrev pub frame_of : Known → Option Frame
frame_of k = frame_by (done k.csy) (done k.part)
