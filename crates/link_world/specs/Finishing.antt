-- How calls bring what is left of a program to its end, and what they leave (this profile).
use Rattle.std.specs.Prelude.{◌≡◌, ◌⊎◌, ℕ, ◌≤◌, Bool, true, false, List, [], ◌++◌, length, Result, Ok, Err}
use Rattle.dmis_program.specs.Meaning.{Meaning}
use Rattle.protocol_model.specs.Finishing.{rejoining, rejoined, CanFinish, CanMeasure, HasMeasured, plan_left}
use Rattle.protocol_model.specs.Rounds.{IsRound, AreBusy, AreAllBusy, all_of}
use Rattle.protocol_model.specs.World.{World, start, run_of}
use Rattle.protocol_model.specs.declared.events.Event.{Event}
use Rattle.protocol_model.specs.declared.machine.Job.{Job}
use Rattle.protocol_model.specs.declared.machine.Outcome.{Outcome}
use Rattle.protocol_model.specs.declared.states.State.{State}
use Rattle.link_world.specs.Claims.{Headline}
use Rattle.link_world.specs.Links.{WorldValue}
use Rattle.link_world.specs.declared.worlds.faults.WorldFault.{WorldFault}
use Rattle.link_world.specs.declared.worlds.faults.WorldFault.TheVariants as fault
use Rattle.link_world.specs.declared.worlds.finishing.Quiet.{Quiet}

-- what no event changes is the same
pub record IsSameKind (old new : WorldValue) : Type 0 where
  pub setup : new.setup ≡ old.setup
  pub program : new.world.client.client.program ≡ old.world.client.client.program
  pub window : new.world.client.client.window ≡ old.world.client.client.window

-- no plan has more commands than this
abbrev pub commands_most : ℕ
commands_most = 30000

-- n quiet rounds that each do something, followed by a round that does nothing; if they are cut, the part of the next round that happened
pub record AreTurns (answer : Job → ℕ → Outcome) (turns : ℕ) (cut : Bool) (w : World) (events : List Event) : Type 0
  where
    pub rounds : List (List Event)
    pub rest : List Event
    pub whole : events ≡ all_of rounds ++ rest
    pub end : (AreAllBusy answer w rounds × (length rounds ≡ turns) × (rest ≡ []))
        ⊎ ((cut ≡ true) × AreBusy answer w rounds × IsRound answer true (run_of (all_of rounds) w) rest)

-- both ends came to the next connection, and n turns led from one world to another
pub record Finishes (answer : Job → ℕ → Outcome) (turns : ℕ) (w v : World) : Type 0 where
  pub events : List Event
  pub made : AreTurns answer turns false (rejoined w) events
  pub leads : v ≡ run_of (rejoining w ++ events) w

-- the events are a prefix of those by which both ends come to the next connection
pub record AreFirstOfJoining (cut : Bool) (w : World) (events : List Event) : Type 0 where
  pub more : List Event
  pub parts : events ++ more ≡ rejoining w

-- a prefix of such events led from one world to another, and there they ended
pub record Stops (answer : Job → ℕ → Outcome) (w v : World) : Type 0 where
  pub joins : List Event
  pub events : List Event
  pub made : (AreFirstOfJoining true w joins × (events ≡ []))
      ⊎ ((joins ≡ rejoining w) × AreTurns answer 0 true (rejoined w) events)
  pub leads : v ≡ run_of (joins ++ events) w

-- the rest of a program was brought to its end in n turns, at most as many as commands are left; if the rack has the tools, the targets lie
-- in the volume and the machine does what it is asked, all of it was measured
pub record IsEnd (answer : Job → ℕ → Outcome) (turns : ℕ) (w v : World) : Type 0 where
  pub finishes : Finishes answer turns w v
  pub few : turns ≤ length (plan_left w)
  pub done : CanMeasure answer w → v.client.client.state ≡ State.Done
  pub measured : CanMeasure answer w → HasMeasured answer w v

-- the answer to a call that brings the rest to its end, and what it leaves: it is refused exactly if nothing can be finished, and then
-- changes nothing; if memory runs out, a prefix of its events has happened
abbrev pub IsFinish : (Job → ℕ → Outcome) → WorldValue → Result ℕ WorldFault → WorldValue → Type 0
IsFinish answer l (Ok turns) m = CanFinish l.world × IsEnd answer turns l.world m.world
IsFinish answer l (Err fault.NotNow) m = ¬ (CanFinish l.world) × (m ≡ l)
IsFinish answer l (Err fault.Memory) m = CanFinish l.world × Stops answer l.world m.world

-- a run of a program on a server with this rack, neither of which was ever on a connection: the world that it ends in, what is reported of
-- it, and what holds of it
pub record IsQuietRun (answer : Job → ℕ → Outcome) (p : Meaning) (rack : List (List ℕ)) (window : ℕ) (quiet : Quiet)
    : Type 0
  where
    pub world : World
    pub finishes : Finishes answer quiet.turns (start p rack window) world
    pub state : quiet.state ≡ world.client.client.state
    pub features : quiet.features ≡ world.client.client.table.tally.features
    pub always : Headline world
