-- What calls state of the parts of a server's turn (this profile). A budget is how many steps may still be made.
use Rattle.std.specs.Prelude.{◌≡◌, ℕ, ◌+◌, ◌*◌, ◌≤◌, Bool, ◌||◌, ⊤, Option, None, Some, is_some, List, [], ◌++◌, length, Ok}
use Rattle.std.specs.Io.KnownBytes.{Consumes}
use Rattle.line_framing.specs.Next.{next_of}
use Rattle.protocol_model.specs.Server.{Server, running_job}
use Rattle.protocol_model.specs.Ends.{ServerEnd, serving_fed, serving_left}
use Rattle.protocol_model.specs.declared.lines.Line.{Line}
use Rattle.protocol_model.specs.declared.machine.Job.{Job}
use Rattle.protocol_model.specs.declared.machine.Outcome.{Outcome}
use Rattle.server_core.specs.Serving.{ServerValue, with_end, may_turn}
use Rattle.server_core.specs.declared.faults.ServerFault.{ServerFault}
use Rattle.link_world.specs.declared.connections.pumps.PumpFault.{PumpFault}
use Rattle.link_world.specs.declared.connections.pumps.PumpFault.TheVariants as fault
use Rattle.link_world.specs.Pumps.{Stage, Reading, IsLost}
use Rattle.link_world.specs.PumpParts.{IsTakeFault}
use Rattle.link_world.specs.ServerPumps.{ServerTurn, steps_made, IsServerRefusal}

-- a stage of a server's turn continues from one end to another, whatever the turn was before, and each step was one of the budget; its
-- setup stays the same
pub record ServerGoesOn (answer : Job → ℕ → Outcome) (stage : Stage) (budget budget_now : ℕ) (old new : ServerValue) : Type 0 where
  pub setup : new.setup ≡ old.setup
  pub turn : (least : ℕ) (start : ServerEnd) (read : List ℕ)
      → (turn : ServerTurn answer least start stage read [] old.end)
      → (further : ServerTurn answer least start stage read [] new.end)
      × (budget_now + steps_made further ≤ budget + steps_made turn)

-- a server was fed what was pulled, and each step gave at least one byte
pub record ServerCame (old new : ServerValue) (left left_now : Option (List ℕ)) (budget budget_now count : ℕ) : Type 0 where
  pub read : List ℕ
  pub fed : new ≡ with_end old (serving_fed read old.end)
  pub consumed : Consumes left left_now read
  pub counted : budget ≤ budget_now + length read
  pub count_is : count ≡ length read

-- the same, when fewer than n bytes have come
pub record ServerCameShort (least : ℕ) (old new : ServerValue) (left left_now : Option (List ℕ)) (budget : ℕ)
    (fault : PumpFault ServerFault)
    : Type 0
  where
    pub read : List ℕ
    pub lost : List ℕ
    pub fed : new ≡ with_end old (serving_fed read old.end)
    pub consumed : Consumes left left_now (read ++ lost)
    pub is_lost : IsLost fault lost
    pub why : IsTakeFault least budget (length read) left_now fault

-- why no more lines are read, from the number of bytes held at first: each line has at least two
abbrev pub IsServerReadFault : (budget held : ℕ) → ServerEnd → PumpFault ServerFault → Type 0
IsServerReadFault budget held e fault.TurnsSpent = 2 * budget ≤ held
IsServerReadFault budget held e (fault.Core why) = IsServerRefusal e why
IsServerReadFault budget held e fault.Memory = ⊤
IsServerReadFault budget held e _ = ⊥

-- lines were read up to bytes that are not a line, or to a line that runs out of memory or may not be read; apart from its framing fault
-- the server is as it was then
pub record ServerReadStops (old new : ServerValue) (budget : ℕ) (fault : PumpFault ServerFault) : Type 0 where
  pub last : ServerValue
  pub goes : (answer : Job → ℕ → Outcome) → ServerGoesOn answer Reading budget 0 old last
  pub setup : new.setup ≡ old.setup
  pub same : serving_left new.end ≡ serving_left last.end
  pub why : IsServerReadFault budget (length old.end.input.rest) last.end fault

-- bytes have come, at least n, and each whole line was read, within the steps that these bytes and lines take
pub record ReadIn (least calls calls_now : ℕ) (old new : ServerValue) (left left_now : Option (List ℕ)) (budget budget_now count : ℕ)
    : Type 0
  where
    pub read : List ℕ
    pub setup : new.setup ≡ old.setup
    pub turn : (answer : Job → ℕ → Outcome)
        → (turn : ServerTurn answer least old.end Reading read [] new.end)
        × (calls_now + budget_now + steps_made turn ≤ calls + budget)
    pub none : next_of new.end.input.rest ≡ Ok None
    pub consumed : Consumes left left_now read
    pub counted : 2 * budget ≤ 2 * budget_now + 3 * length read + length old.end.input.rest
    pub count_is : count ≡ length read

-- there is something to do: a job runs, or a waiting command may be processed
abbrev pub has_work : Server → Bool
has_work s = is_some (running_job s) || may_turn s

-- the maximum number of steps for that
abbrev pub steps_of_one : Option Line → ℕ
steps_of_one None = 0
steps_of_one (Some line) = 1

abbrev pub steps_of : Server → ℕ
steps_of s = steps_of_one s.running + 2 * length s.waiting

-- why no more is done: the budget is spent, at one step for each piece of work
abbrev pub IsWorkFault : (budget : ℕ) → PumpFault ServerFault → Type 0
IsWorkFault budget fault.TurnsSpent = budget ≤ 129
IsWorkFault budget fault.Memory = ⊤
IsWorkFault budget _ = ⊥
