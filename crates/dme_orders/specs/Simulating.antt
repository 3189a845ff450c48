-- What simulating a program by a schedule leaves (this profile).
use Rattle.std.specs.Prelude.{◌≡◌, ◌⊎◌, ℕ, List, ◌++◌, Bool, true, false, Option, Some, None, length, Result}
use Rattle.std.specs.Io.KnownBytes.{Appends}
use Rattle.byte_ports.specs.Transfers.{AppendsFront}
use Rattle.tool_rack.specs.Setups.{SetupValue}
use Rattle.dmis_program.specs.Meaning.{Meaning}
use Rattle.protocol_model.specs.World.{World, start, run_of}
use Rattle.protocol_model.specs.declared.events.Event.{Event}
use Rattle.protocol_model.specs.declared.machine.Job.{Job}
use Rattle.protocol_model.specs.declared.machine.Outcome.{Outcome}
use Rattle.protocol_model.specs.declared.states.State.{State}
use Rattle.link_world.specs.Machines.{simulated}
use Rattle.link_world.specs.Reports.{reported, report_text}
use Rattle.link_world.specs.Schedules.{ArePlayed, Plays}
use Rattle.link_world.specs.Traces.{traced, undelivered}
use Rattle.link_world.specs.declared.texts.reports.Report.{Report}
use Rattle.link_world.specs.declared.texts.schedules.Instruction.{Instruction}
use Rattle.dme_orders.specs.Input.{SimulationInput, ReadsSimulation, WhyNoSimulation}
use Rattle.dme_orders.specs.Orders.{Went, went, Carries}
use Rattle.dme_orders.specs.Reading.{Came}
use Rattle.order_parts.specs.declared.faults.FilesFault.{FilesFault}

-- what is shown of a world
abbrev pub shown_of : World → Report
shown_of w = record {
  state = w.client.client.state;
  counted = length w.client.client.table.tally.counted;
  features = w.client.client.table.tally.features;
  contacts = reported w.server.server.ledger;
}

-- the instructions, played in a new world with the program, the setup's tools and this window, and with the machine of the setup's shifts,
-- lead to this world
abbrev pub IsPlayed : ℕ → SetupValue → List Instruction → Meaning → World → Type 0
IsPlayed window setup instructions program world = Plays (simulated setup.shifts) instructions false (start program setup.tools window) world

-- so played, they leave a client in this state, and a report that is this text
pub record LeavesReport (window : ℕ) (setup : SetupValue) (instructions : List Instruction) (program : Meaning) (state : State)
    (text : List ℕ) : Type 0 where
  pub world : World
  pub played : IsPlayed window setup instructions program world
  pub stands : state ≡ world.client.client.state
  pub told : text ≡ report_text (shown_of world)

-- the report of the world was written, or the simulation was not carried out
abbrev pub Simulates : {S C R W : Type 0} → ℕ → Came S → Came C → Came R → Went W → Result State FilesFault → Type 0
Simulates window s c r w = Carries (ReadsSimulation s c r)
    (λ input. LeavesReport window input.setup input.instructions input.program) w (WhyNoSimulation s c r)

-- ---- the lines that both sides write

-- the instructions, played, lead from one world to another, and this text is the rows of their events and of what is never delivered
pub record AreTraced (answer : Job → ℕ → Outcome) (instructions : List Instruction) (w v : World) (text : List ℕ) : Type 0 where
  pub events : List Event
  pub made : ArePlayed answer instructions false w events
  pub leads : v ≡ run_of events w
  pub is : text ≡ traced events w ++ undelivered v

-- a text followed all that a sink had taken; or the sink has failed, and has taken a proper prefix of it
abbrev pub GoesOut : {L : Type 0} → Went L → List ℕ → Type 0
GoesOut w text = Appends (w.taken w.old) (w.taken w.new) text
    ⊎ ((w.has_failed w.new ≡ true) × AppendsFront (w.taken w.old) (w.taken w.new) text)

-- a text of which this holds went to a sink
abbrev pub IsShown : {L : Type 0} → Went L → (List ℕ → Type 0) → Type 0
IsShown w Holds = (text : List ℕ) × Holds text × GoesOut w text

-- likewise if there is a sink
abbrev pub ShowsLines : {L : Type 0} → (L → Option (List ℕ)) → (L → Bool) → (old new : Option L) → (List ℕ → Type 0) → Type 0
ShowsLines taken has_failed None new Holds = new ≡ None
ShowsLines taken has_failed (Some old) None Holds = ⊥
ShowsLines taken has_failed (Some old) (Some new) Holds = IsShown (went taken has_failed old new) Holds

-- the instructions, played in a new world, leave a client in this state, a report that is this text, and lines for a sink, if there is one
pub record LeavesLines {L : Type 0} (taken : L → Option (List ℕ)) (has_failed : L → Bool) (old new : Option L) (window : ℕ)
    (setup : SetupValue) (instructions : List Instruction) (program : Meaning) (state : State) (text : List ℕ) : Type 0 where
  pub world : World
  pub stands : state ≡ world.client.client.state
  pub told : text ≡ report_text (shown_of world)
  pub lines : ShowsLines taken has_failed old new
      (AreTraced (simulated setup.shifts) instructions (start program setup.tools window) world)

-- the files were read; the lines went to a sink, if there is one; and the report of the same world was written
pub record SimulatesLines {S C R L W : Type 0} (window : ℕ) (s : Came S) (c : Came C) (r : Came R) (taken : L → Option (List ℕ))
    (has_failed : L → Bool) (old new : Option L) (w : Went W) (state : State) : Type 0 where
  pub input : SimulationInput
  pub read : ReadsSimulation s c r input
  pub report : List ℕ
  pub leaves : LeavesLines taken has_failed old new window input.setup input.instructions input.program state report
  pub written : Appends (w.taken w.old) (w.taken w.new) report
