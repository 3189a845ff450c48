-- What callers know of a server at any time, whatever calls were made and whatever bytes were fed (this profile).
use Rattle.std.specs.Prelude.{◌≡◌, ◌≤◌, true, false, Some, None, List, [], length}
use Rattle.std.specs.List.{AllByRecursion}
use Rattle.fixed_um.specs.declared.frames.Frame.TheVariants.{Machine}
use Rattle.fixed_um.specs.Points.{zero_point}
use Rattle.dme_line.specs.Tags.{is_event_tag}
use Rattle.contact_ledger.specs.Ledgers.{IsConnection, connection_most}
use Rattle.line_framing.specs.Framing.{IsSound, no_bytes}
use Rattle.protocol_model.specs.Server.{Server, first_failing, checks}
use Rattle.protocol_model.specs.Ends.{ServerEnd}
use Rattle.protocol_model.specs.declared.lines.Line.{Line}
use Rattle.protocol_model.specs.declared.lines.Waiting.{Waiting}
use Rattle.server_core.specs.Serving.{runs}

-- on no connection a server has no session and no error, a stored offset of zero, the machine's frame, nothing that runs or waits, and no
-- bytes
pub record IsOff (e : ServerEnd) : Type 0 where
  pub session : e.server.session ≡ false
  pub error : e.server.error ≡ false
  pub frame : e.server.frame ≡ Machine
  pub stored : e.server.stored ≡ zero_point
  pub running : e.server.running ≡ None
  pub waiting : e.server.waiting ≡ []
  pub input : e.input ≡ no_bytes
  pub out : e.out ≡ []

-- what runs is a command for the machine, and still passes all checks of a turn: a session is open, a touch has its tool, and a target lies
-- in the volume
abbrev pub IsRunnable : Server → Line → Type 0
IsRunnable s line = (runs (Some line.command) ≡ true) × (first_failing (checks s line.command) ≡ None)

-- in the error state nothing waits, at most 64 commands wait, and what runs can run
pub record IsOrderly (s : Server) : Type 0 where
  pub quiet : s.error ≡ true → s.waiting ≡ []
  pub few : length s.waiting ≤ 64
  pub running : (line : Line) → s.running ≡ Some line → IsRunnable s line

-- what holds at any time, whatever functions read the lines: a connection has a number, on none nothing is left of one, and a framing fault
-- that is kept is what is at the start of the bytes
pub record IsSteady (e : ServerEnd) : Type 0 where
  pub last : e.server.last ≤ connection_most
  pub on : e.server.on ≡ true → IsConnection e.server.last
  pub off : e.server.on ≡ false → IsOff e
  pub orderly : IsOrderly e.server
  pub sound : IsSound e.input

-- a standard tag
abbrev pub HasStandardTag : Waiting → Type 0
HasStandardTag w = is_event_tag w.tag ≡ false

-- all that waits has standard tags, where lines are read as the interface says
abbrev pub AreStandard : List Waiting → Type 0
AreStandard ws = AllByRecursion HasStandardTag ws

-- what holds at any time of a server that reads lines as the interface says
pub record IsServing (e : ServerEnd) : Type 0 where
  pub steady : IsSteady e
  pub standard : AreStandard e.server.waiting
