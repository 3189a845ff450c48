-- What callers see of a server (this profile): its setup, and its end of a connection.
use Rattle.std.specs.Prelude.{◌≡◌, ◌≢◌, ℕ, nat_lt, nat_le, Bool, not, ◌&&◌, is_none, Option, Some, None, true, false, List, [], ◌∷◌, Result, Ok, Err}
use Rattle.contact_ledger.specs.Ledgers.{connection_most}
use Rattle.dme_line.specs.declared.commands.Command.{Command}
use Rattle.dme_line.specs.declared.commands.Command.TheVariants as command
use Rattle.protocol_model.specs.declared.lines.Misread.{Misread}
use Rattle.protocol_model.specs.declared.lines.Waiting.{Waiting}
use Rattle.line_framing.specs.Next.{next_of}
use Rattle.line_framing.specs.Framing.{IsLineDue}
use Rattle.line_framing.specs.declared.faults.FramingFault.{FramingFault}
use Rattle.server_core.specs.declared.faults.ServerFault.{ServerFault}
use Rattle.server_core.specs.declared.faults.ServerFault.TheVariants as server_fault
use Rattle.fixed_um.specs.Points.{IsInVolume}
use Rattle.tool_rack.specs.Setups.{SetupValue}
use Rattle.protocol_model.specs.Plan.{is_empty}
use Rattle.protocol_model.specs.Server.{Server, Answer, new_server, refusal, may_end}
use Rattle.protocol_model.specs.Ends.{ServerEnd, new_server_end}
use Rattle.protocol_model.specs.declared.lines.Line.{Line}
use Rattle.protocol_model.specs.declared.machine.Outcome.{Outcome}

-- a server's setup, and its end of a connection
pub record ServerValue : Type 0 where
  pub setup : SetupValue
  pub end : ServerEnd

-- a server that was never on a connection
abbrev pub new_serving : SetupValue → ServerValue
new_serving setup = record { setup = setup; end = new_server_end setup.tools }

abbrev pub with_end : ServerValue → ServerEnd → ServerValue
with_end s e = record { setup = s.setup; end = e }

-- a server comes to a connection while it is on none, and to each number once, in rising order
abbrev pub may_accept : ℕ → Server → Bool
may_accept n s = not s.on && (nat_lt s.last n && nat_le n connection_most)

-- bytes are taken on a connection, until a framing fault is met in them
abbrev pub may_feed : ServerEnd → Bool
may_feed e = e.server.on && is_none e.input.fault

-- a waiting command is processed while nothing runs
abbrev pub may_turn : Server → Bool
may_turn s = is_none s.running && not (is_empty s.waiting)

-- why the first waiting command is refused at its turn, if it is
abbrev pub refusal_in : Server → List Waiting → Option ℕ
refusal_in s [] = None
refusal_in s (w ∷ ws) = refusal s w.reading

abbrev pub first_refusal : Server → Option ℕ
first_refusal s = refusal_in s s.waiting

-- the first waiting command, if one waits and was no faulty line
abbrev pub ok_of : Result Command Misread → Option Command
ok_of (Ok c) = Some c
ok_of (Err refused) = None

abbrev pub command_in : List Waiting → Option Command
command_in [] = None
command_in (w ∷ ws) = ok_of w.reading

abbrev pub first_command : Server → Option Command
first_command s = command_in s.waiting

-- a command that runs on the machine
abbrev pub runs : Option Command → Bool
runs (Some command.Home) = true
runs (Some (command.ChangeTool n)) = true
runs (Some (command.GoTo p)) = true
runs (Some (command.PtMeas p d)) = true
runs _ = false

-- a command that is complete at once, and no act
abbrev pub IsAtOnce : Option Command → Type 0
IsAtOnce (Some command.IsHomed) = ⊥
IsAtOnce (Some (command.SetCoordSystem system)) = ⊥
IsAtOnce c = runs c ≡ false

-- a move or a touch
abbrev pub IsWay : Command → Type 0
IsWay (command.GoTo p) = Unit {0}
IsWay (command.PtMeas p d) = Unit {0}
IsWay _ = ⊥

-- the kinds of outcome that a command can have
abbrev pub fits : Command → Outcome → Bool
fits command.Home Outcome.Done = true
fits (command.ChangeTool n) Outcome.Done = true
fits (command.GoTo p) Outcome.Done = true
fits (command.PtMeas p d) (Outcome.Touched at) = true
fits (command.PtMeas p d) Outcome.Missed = true
fits c Outcome.Fault = true
fits c outcome = false

-- no touched point is outside the machine's volume
abbrev pub IsInside : Outcome → Type 0
IsInside Outcome.Done = Unit {0}
IsInside (Outcome.Touched at) = IsInVolume at
IsInside Outcome.Missed = Unit {0}
IsInside Outcome.Fault = Unit {0}

-- an outcome is of a kind that what runs can have
abbrev pub fits_running : Option Line → Outcome → Bool
fits_running None outcome = false
fits_running (Some line) outcome = fits line.command outcome

-- a server's setup, and the server without the bytes of its connection
pub record ControllerValue : Type 0 where
  pub setup : SetupValue
  pub server : Server

abbrev pub new_controlled : SetupValue → ControllerValue
new_controlled setup = record { setup = setup; server = new_server setup.tools }

abbrev pub with_server : ControllerValue → Server → ControllerValue
with_server c s = record { setup = c.setup; server = s }

abbrev pub with_answered : ControllerValue → Answer → ControllerValue
with_answered c a = record { setup = c.setup; server = a.server }

-- why bytes are not taken: the server is on no connection, it keeps a framing fault, or memory runs out where neither is so
abbrev pub IsFeedFault : ServerEnd → ServerFault → Type 0
IsFeedFault e server_fault.NotNow = e.server.on ≡ false
IsFeedFault e (server_fault.Framing why) = e.input.fault ≡ Some why
IsFeedFault e server_fault.Memory = may_feed e ≡ true
IsFeedFault e _ = ⊥

-- a framing fault is kept, and all else is as it was
abbrev pub with_fault : ServerValue → FramingFault → ServerValue
with_fault s why = with_end s (record (s.end) { input = record (s.end.input) { fault = Some why } })

-- why no line is read, and what the server is then: it is on no connection, what is at the front is no line, which is kept, or memory
-- runs out for a line
abbrev pub IsReadFault : ServerValue → ServerValue → ServerFault → Type 0
IsReadFault old new server_fault.NotNow = new ≡ old
IsReadFault old new (server_fault.Framing why) = (next_of old.end.input.rest ≡ Err why) × (new ≡ with_fault old why)
IsReadFault old new server_fault.Memory = IsLineDue (next_of old.end.input.rest) × (new ≡ old)
IsReadFault old new _ = ⊥

-- why an outcome is refused: nothing runs, what runs cannot end so, a touched point is outside the volume, or memory runs out
abbrev pub IsMachineFault : Server → Outcome → ServerFault → Type 0
IsMachineFault s o server_fault.NothingRuns = s.running ≡ None
IsMachineFault s o server_fault.WrongOutcome = (s.running ≢ None) × (fits_running s.running o ≡ false)
IsMachineFault s o server_fault.OutOfVolume = (fits_running s.running o ≡ true) × (may_end s.running o ≡ false)
IsMachineFault s o server_fault.Memory = may_end s.running o ≡ true
IsMachineFault s o _ = ⊥
