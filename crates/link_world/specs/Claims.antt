-- What is promised of a world after any events, what an event answers, and when no world is made (this profile).
use Rattle.std.specs.Prelude.{◌≡◌, ◌≢◌, Bool, true, false, None, List, Result, Ok, Err}
use Rattle.dmis_program.specs.Meaning.{Meaning}
use Rattle.line_framing.specs.Framing.{Framing}
use Rattle.line_framing.specs.Next.{next_of}
use Rattle.line_framing.specs.declared.faults.FramingFault.{FramingFault}
use Rattle.tool_rack.specs.Setups.{SetupValue}
use Rattle.protocol_model.specs.Claims.{Sound, Told}
use Rattle.protocol_model.specs.Plan.{plan}
use Rattle.protocol_model.specs.World.{World, start, can}
use Rattle.protocol_model.specs.declared.events.Event.{Event}
use Rattle.protocol_model.specs.declared.plans.Planned.{Planned}
use Rattle.protocol_model.specs.declared.plans.Start.{Start}
use Rattle.protocol_model.specs.declared.states.State.{State}
use Rattle.client_core.specs.declared.faults.ClientFault.{ClientFault}
use Rattle.client_core.specs.declared.faults.ClientFault.TheVariants as client_fault
use Rattle.server_core.specs.declared.faults.ServerFault.{ServerFault}
use Rattle.server_core.specs.declared.faults.ServerFault.TheVariants as server_fault
use Rattle.link_world.specs.declared.worlds.faults.WorldFault.{WorldFault}
use Rattle.link_world.specs.declared.worlds.faults.WorldFault.TheVariants as world_fault
use Rattle.link_world.specs.declared.worlds.faults.NewFault.{NewFault}
use Rattle.link_world.specs.declared.worlds.faults.NewFault.TheVariants as fault

-- an input without a framing fault: none was met, and none is next in what is not read yet
pub record IsFramed (input : Framing) : Type 0 where
  pub met : input.fault ≡ None
  pub next : (why : FramingFault) → next_of input.rest ≡ Err why → ⊥

-- the headline, of a world after any events
pub record Headline (w : World) : Type 0 where
  -- the features that the client holds are the first of its program, each with the points of an unbroken run of the server's contacts
  pub features : Sound w.client.client.program.features w.client.client.table.tally.features w.server.server.ledger
  -- what the client has counted on its connection is a prefix of what the server did there
  pub counted : Told w.client.client.table.tally.counted w.server.server.ledger w.client.client.last
  -- the client has met no line and no mark that is unexpected
  pub client : w.client.client.state ≢ State.Faulted
  -- the server has met no framing fault, and it reads none next
  pub server : IsFramed w.server.input

-- a program and a setup are handed back because of the window
abbrev pub HandsBack : Meaning → SetupValue → NewFault → Type 0
HandsBack program setup (fault.BadWindow given_program given_setup) = (given_program ≡ program) × (given_setup ≡ setup)
HandsBack program setup fault.Memory = ⊥

-- there is no world if memory ran out
abbrev pub IsWant : NewFault → Type 0
IsWant (fault.BadWindow given_program given_setup) = ⊥
IsWant fault.Memory = Unit {0}

-- a world in which nothing has happened: it is as its program, its rack and its window make it
abbrev pub IsNew : World → Type 0
IsNew w = w ≡ start w.client.client.program w.server.server.rack w.client.client.window

-- the plan of a world's whole program, as it is begun on the first connection
abbrev pub first_plan : World → List Planned
first_plan w = plan w.client.client.program 0 Start.NewConnection

-- the events that may need memory: all except a server's taking a connection, either side's leaving one, and either side's restart
abbrev pub takes_memory : Event → Bool
takes_memory (Event.Accept n) = false
takes_memory Event.ClientLeaves = false
takes_memory Event.ServerLeaves = false
takes_memory (Event.ClientRestart k) = false
takes_memory Event.ServerRestart = false
takes_memory _ = true

-- the answer to an event: it happens only if it can, is refused exactly if it cannot, and memory runs out only if it can happen and needs
-- some
abbrev pub IsAnswer : Event → World → Result (Unit {0}) WorldFault → Type 0
IsAnswer e w (Ok u) = can e w ≡ true
IsAnswer e w (Err world_fault.NotNow) = can e w ≡ false
IsAnswer e w (Err world_fault.Memory) = (can e w ≡ true) × (takes_memory e ≡ true)

-- why an event of the client does not happen, from the reason its call is refused
abbrev pub refused_by : ClientFault → WorldFault
refused_by client_fault.NotNow = world_fault.NotNow
refused_by (client_fault.Faulted cause) = world_fault.NotNow
refused_by client_fault.Memory = world_fault.Memory

-- likewise for the server
abbrev pub refused_by_server : ServerFault → WorldFault
refused_by_server server_fault.Memory = world_fault.Memory
refused_by_server _ = world_fault.NotNow
