-- Quiet rounds, in which the client, the server and its machine do all that they can, as lists of events from a world (this profile). A
-- list that is cut has ended early, because memory ran out; for a list that is not cut, the definition says where it ends.
use Rattle.std.specs.Prelude.{◌≡◌, ◌≢◌, ◌⊎◌, ℕ, Bool, true, false, if◌then◌else◌, Option, Some, None, List, [], ◌∷◌, ◌++◌, length, All}
use Rattle.std.specs.List.{flat_map}
use Rattle.contact_ledger.specs.Ledgers.{contact_count}
use Rattle.protocol_model.specs.Server.{running_job}
use Rattle.protocol_model.specs.World.{World, can, happens, after, run_of, client_link, server_link}
use Rattle.protocol_model.specs.declared.events.Event.{Event}
use Rattle.protocol_model.specs.declared.events.Event.TheVariants as event
use Rattle.protocol_model.specs.declared.machine.Job.{Job}
use Rattle.protocol_model.specs.declared.machine.Outcome.{Outcome}

-- a list ends where this holds; a cut list ends anywhere
abbrev pub MayEnd : Bool → Type 0 → Type 0
MayEnd true P = Unit {0}
MayEnd false P = P

-- this event if there is one, and no other
abbrev pub IsOne : Option Event → Bool → List Event → Type 0
IsOne None cut events = events ≡ []
IsOne (Some e) cut events = (events ≡ e ∷ []) ⊎ ((cut ≡ true) × (events ≡ []))

-- an event, again and again while it can happen
abbrev pub AreWhile : Event → Bool → World → List Event → Type 0
AreWhile e cut w [] = MayEnd cut (can e w ≡ false)
AreWhile e cut w (f ∷ fs) = (f ≡ e) × (can e w ≡ true) × AreWhile e cut (happens e w) fs

-- one list after another: the second in the world that the first leaves; if the first is cut, there is no second
pub record Then (A B : Bool → World → List Event → Type 0) (cut : Bool) (w : World) (events : List Event) : Type 0
  where
    pub front : List Event
    pub back : List Event
    pub whole : events ≡ front ++ back
    pub parts : (A false w front × B cut (run_of front w) back) ⊎ ((cut ≡ true) × A true w front × (back ≡ []))

-- an event, if it can happen
abbrev pub possible : Event → World → Option Event
possible e w = if can e w then Some e else None

-- all bytes that wait on the way up, and on the way down
abbrev pub all_up : World → Option Event
all_up w = possible (event.Up (length (server_link w).up)) w

abbrev pub all_down : World → Option Event
all_down w = possible (event.Down (length (client_link w).down)) w

-- what runs ends as a machine answers to its job, whose number is that of the next contact
abbrev pub ended : (Job → ℕ → Outcome) → ℕ → Option Job → Option Event
ended answer n None = None
ended answer n (Some job) = Some (event.Machine (answer job n))

abbrev pub ending : (Job → ℕ → Outcome) → World → Option Event
ending answer w = ended answer (contact_count w.server.server.ledger) (running_job w.server.server)

-- what the server has to do: what runs ends, else what waits first is processed
abbrev pub working : Option Event → World → Option Event
working (Some e) w = Some e
working None w = possible event.ServerTurn w

-- turns and ends while there is one
abbrev pub AreWork : (Job → ℕ → Outcome) → Bool → World → List Event → Type 0
AreWork answer cut w [] = MayEnd cut (working (ending answer w) w ≡ None)
AreWork answer cut w (e ∷ es) = (working (ending answer w) w ≡ Some e) × AreWork answer cut (after e w) es

-- a quiet round: the client sends all that is due, all of it comes to the server, which reads it all and does it all, and all answers come
-- to the client, which reads them all
abbrev pub IsRound : (Job → ℕ → Outcome) → Bool → World → List Event → Type 0
IsRound answer =
    Then (AreWhile event.ClientSends) (
    Then (λ cut w. IsOne (all_up w) cut) (
    Then (AreWhile event.ServerReads) (
    Then (AreWork answer) (
    Then (λ cut w. IsOne (all_down w) cut) (AreWhile event.ClientReads)))))

-- whole rounds, one after another
abbrev pub AreRounds : (Job → ℕ → Outcome) → World → List (List Event) → Type 0
AreRounds answer w [] = Unit {0}
AreRounds answer w (r ∷ rs) = IsRound answer false w r × AreRounds answer (run_of r w) rs

-- the events of rounds, one after another
abbrev pub all_of : List (List Event) → List Event
all_of rounds = flat_map (λ r. r) rounds

-- rounds of which each does something
pub record AreBusy (answer : Job → ℕ → Outcome) (w : World) (rounds : List (List Event)) : Type 0 where
  pub are : AreRounds answer w rounds
  pub busy : All (λ r. r ≢ []) rounds

-- they are all that do something: the round after them does nothing
pub record AreAllBusy (answer : Job → ℕ → Outcome) (w : World) (rounds : List (List Event)) : Type 0 where
  pub busy : AreBusy answer w rounds
  pub still : IsRound answer false (run_of (all_of rounds) w) []
