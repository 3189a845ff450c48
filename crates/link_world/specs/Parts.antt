-- What calls state of the parts of a schedule that they play (this profile).
use Rattle.std.specs.Prelude.{◌≡◌, Bool, true, false, Option, Some, None, List, [], ◌∷◌, Result, Ok, Err, IfSome}
use Rattle.protocol_model.specs.World.{World, run_of}
use Rattle.protocol_model.specs.declared.events.Event.{Event}
use Rattle.protocol_model.specs.declared.events.Event.TheVariants as event
use Rattle.tool_rack.specs.Setups.{SetupValue}
use Rattle.link_world.specs.Links.{WorldValue}
use Rattle.link_world.specs.Traces.{TraceValue, no_trace, Traces}

-- there is an event
abbrev pub is_any : List Event → Bool
is_any [] = false
is_any (e ∷ es) = true

-- the events that are repeated while they can happen
abbrev pub repeats : Event → Bool
repeats event.ClientSends = true
repeats event.ServerReads = true
repeats event.ClientReads = true
repeats _ = false

-- a world, and the trace of what happens to it
pub record Staged : Type 0 where
  pub setup : SetupValue
  pub world : World
  pub trace : TraceValue

abbrev pub staged : WorldValue → TraceValue → Staged
staged l t = record { setup = l.setup; world = l.world; trace = t }

-- a world of which no trace is kept
abbrev pub unwatched : WorldValue → Staged
unwatched l = staged l no_trace

-- events lead from one world to another, and their rows follow the text of the trace
pub record Leading (events : List Event) (l m : Staged) : Type 0 where
  pub is : m ≡ record { setup = l.setup; world = run_of events l.world; trace = m.trace }
  pub traces : Traces events l.world l.trace m.trace

-- events of a part of a schedule, whole or cut, lead from one world to another; whether there are any, if that is reported
pub record Makes (are : Bool → World → List Event → Type 0) (cut : Bool) (told : Option Bool) (l m : Staged) : Type 0
  where
    pub events : List Event
    pub made : are cut l.world events
    pub leads : Leading events l m
    pub told_is : IfSome told (λ busy. busy ≡ is_any events)

-- a call played a part whole and reported whether there was any event; or it ran out of memory and cut the part
abbrev pub Tells : {E : Type 0} → Result Bool E → (Bool → World → List Event → Type 0) → Staged → Staged → Type 0
Tells (Ok busy) are l m = Makes are false (Some busy) l m
Tells (Err fault) are l m = Makes are true None l m

-- likewise for a call that reports nothing
abbrev pub PlaysPart : {E : Type 0} → Result (Unit {0}) E → (Bool → World → List Event → Type 0) → Staged → Staged → Type 0
PlaysPart (Ok u) are l m = Makes are false None l m
PlaysPart (Err fault) are l m = Makes are true None l m
