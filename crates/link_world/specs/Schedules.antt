-- What the instructions of a schedule do to a world: the events, in order (this profile). A list of events that is cut has ended early,
-- because memory ran out; for a list that is not cut, the definition says where it ends.
use Rattle.std.specs.Prelude.{◌≡◌, ◌≢◌, ◌⊎◌, ℕ, ◌≤◌, ◌<◌, Bool, true, false, Some, List, [], ◌∷◌, ◌++◌, length, All}
use Rattle.protocol_model.specs.Rounds.{IsOne, AreWhile, Then, all_up, all_down, ending, IsRound, AreRounds, all_of}
use Rattle.protocol_model.specs.World.{World, run_of}
use Rattle.protocol_model.specs.declared.events.Event.{Event}
use Rattle.protocol_model.specs.declared.events.Event.TheVariants as event
use Rattle.protocol_model.specs.declared.machine.Job.{Job}
use Rattle.protocol_model.specs.declared.machine.Outcome.{Outcome}
use Rattle.link_world.specs.Traces.{TraceValue, Traces}
use Rattle.link_world.specs.declared.texts.schedules.Instruction.{Instruction}
use Rattle.link_world.specs.declared.texts.schedules.Instruction.TheVariants as instruction

-- n rounds; if they are cut, fewer, and the part of the next round that happened
pub record AreCounted (answer : Job → ℕ → Outcome) (n : ℕ) (cut : Bool) (w : World) (events : List Event) : Type 0
  where
    pub rounds : List (List Event)
    pub rest : List Event
    pub whole : events ≡ all_of rounds ++ rest
    pub are : AreRounds answer w rounds
    pub end : ((length rounds ≡ n) × (rest ≡ []))
        ⊎ ((cut ≡ true) × (length rounds < n) × IsRound answer true (run_of (all_of rounds) w) rest)

-- the maximum number of quiet rounds
abbrev pub rounds_most : ℕ
rounds_most = 1000000

-- rounds that do something, up to the maximum or until one does nothing; if they are cut, the part of the next round that happened
pub record AreQuiet (answer : Job → ℕ → Outcome) (cut : Bool) (w : World) (events : List Event) : Type 0 where
  pub rounds : List (List Event)
  pub rest : List Event
  pub whole : events ≡ all_of rounds ++ rest
  pub are : AreRounds answer w rounds
  pub busy : All (λ r. r ≢ []) rounds
  pub few : length rounds ≤ rounds_most
  pub end : ((rest ≡ []) × ((length rounds ≡ rounds_most) ⊎ IsRound answer false (run_of (all_of rounds) w) []))
      ⊎ ((cut ≡ true) × (length rounds < rounds_most) × IsRound answer true (run_of (all_of rounds) w) rest)

-- the events of one instruction
abbrev pub AreMade : (Job → ℕ → Outcome) → Instruction → Bool → World → List Event → Type 0
AreMade answer (instruction.Once e) = λ cut w. IsOne (Some e) cut
AreMade answer instruction.Auto = λ cut w. IsOne (ending answer w) cut
AreMade answer instruction.UpAll = λ cut w. IsOne (all_up w) cut
AreMade answer instruction.DownAll = λ cut w. IsOne (all_down w) cut
AreMade answer instruction.ServerReadsAll = AreWhile event.ServerReads
AreMade answer instruction.ClientReadsAll = AreWhile event.ClientReads
AreMade answer (instruction.Rounds n) = AreCounted answer n
AreMade answer instruction.Quiet = AreQuiet answer

-- the events of instructions, one after another
abbrev pub ArePlayed : (Job → ℕ → Outcome) → List Instruction → Bool → World → List Event → Type 0
ArePlayed answer [] = λ cut w events. events ≡ []
ArePlayed answer (i ∷ is) = Then (AreMade answer i) (ArePlayed answer is)

-- instructions were played, whole or cut, and led from one world to another
pub record Plays (answer : Job → ℕ → Outcome) (played : List Instruction) (cut : Bool) (w v : World) : Type 0 where
  pub events : List Event
  pub made : ArePlayed answer played cut w events
  pub leads : v ≡ run_of events w

-- likewise, and the rows of the events follow the text of a trace
pub record PlaysTraced (answer : Job → ℕ → Outcome) (played : List Instruction) (cut : Bool) (w v : World) (old new : TraceValue) : Type 0
  where
    pub events : List Event
    pub made : ArePlayed answer played cut w events
    pub leads : v ≡ run_of events w
    pub traces : Traces events w old new
