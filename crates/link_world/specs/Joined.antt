-- Turns over ports as lists of the events of a world (this profile).
use Rattle.std.specs.Prelude.{◌≡◌, ℕ, Bool, true, false, Option, List, [], ◌∷◌, ◌++◌, length, take, drop}
use Rattle.protocol_model.specs.Ends.{ClientEnd, ServerEnd, end_left}
use Rattle.protocol_model.specs.World.{World, client_link, server_link, with_link, run_of}
use Rattle.protocol_model.specs.declared.events.Event.{Event}
use Rattle.protocol_model.specs.declared.events.Event.TheVariants as event
use Rattle.protocol_model.specs.declared.machine.Job.{Job}
use Rattle.protocol_model.specs.declared.machine.Outcome.{Outcome}
use Rattle.link_world.specs.Machines.{fits_job}
use Rattle.protocol_model.specs.Rounds.{Then, AreWhile, IsOne, possible, AreWork}
use Rattle.client_core.specs.Calls.{Abort, Call, behind_call, behind_calls}
use Rattle.client_core.specs.declared.faults.ClientFault.{ClientFault}
use Rattle.server_core.specs.declared.faults.ServerFault.{ServerFault}
use Rattle.link_world.specs.declared.connections.pumps.Moved.{Moved}
use Rattle.link_world.specs.declared.connections.pumps.PumpFault.{PumpFault}
use Rattle.link_world.specs.Pumps.{ClientMoved, ClientStopped}
use Rattle.link_world.specs.ServerPumps.{ServerMoved, ServerStopped}

-- a client's turn as events: it sends while it can, n bytes come down (if n is not 0), and it reads while it can; a turn that is cut is a
-- prefix of that
abbrev pub IsClientTurn : ℕ → Bool → World → List Event → Type 0
IsClientTurn count =
    Then (AreWhile event.ClientSends) (
    Then (λ cut w. IsOne (possible (event.Down count) w) cut) (AreWhile event.ClientReads))

-- a client before a call of its pump: if it is to stop, it aborts, which changes nothing if it cannot abort
abbrev pub steered : (stops : Bool) → ClientEnd → ClientEnd
steered false e = e
steered true e = behind_call Abort e

-- likewise as events
abbrev pub steering : (stops : Bool) → List Event
steering false = []
steering true = event.Abort ∷ []

-- a server's turn as events: n bytes come up (if n is not 0), it reads while it can, and it does all that it has to do, as its machine
-- answers; a turn that is cut is a prefix of that
abbrev pub IsServerTurn : (Job → ℕ → Outcome) → ℕ → Bool → World → List Event → Type 0
IsServerTurn answer count =
    Then (λ cut w. IsOne (possible (event.Up count) w) cut) (
    Then (AreWhile event.ServerReads) (AreWork answer))

-- a turn as events leads from one world to another
pub record TurnLeads (is : Bool → World → List Event → Type 0) (cut : Bool) (w v : World) : Type 0 where
  pub events : List Event
  pub made : is cut w events
  pub leads : run_of events w ≡ v

-- a world whose client is this end, except that it has nothing to send: this text has joined its connection, and n bytes have come down
abbrev pub client_joined : World → ClientEnd → List ℕ → ℕ → World
client_joined w e text count = record {
  client = record e { out = [] };
  server = w.server;
  links = with_link w.links w.client.client.last
      (record { up = (client_link w).up ++ text; down = drop count (client_link w).down });
  written = w.written ++ text;
}

-- a machine's answers fit the jobs, as every machine must ensure
abbrev pub AreFit : (Job → ℕ → Outcome) → Type 0
AreFit answer = (job : Job) (n : ℕ) → fits_job job (answer job n) ≡ true

-- a world whose server is this end, except that it has nothing to send: this text has joined its connection, and n bytes have come up
abbrev pub server_joined : World → ServerEnd → List ℕ → ℕ → World
server_joined w e text count = record {
  client = w.client;
  server = record e { out = [] };
  links = with_link w.links w.server.server.last
      (record { up = drop count (server_link w).up; down = (server_link w).down ++ text });
  written = w.written;
}

-- ---- both sides

-- both ends of one connection, and the bytes on their way: those that a side's pump has written and the other's has not yet taken
pub record EndPair : Type 0 where
  pub client : ClientEnd
  pub server : ServerEnd
  pub up : List ℕ
  pub down : List ℕ

-- the ends of a world, with the bytes that wait on the client's connection
abbrev pub pumped_of : World → EndPair
pumped_of w = record { client = w.client; server = w.server; up = (client_link w).up; down = (client_link w).down }

-- after a call of the client's pump: the bytes that it took are gone from the way down, and those that it wrote have joined the way up
abbrev pub with_client : EndPair → ClientEnd → (read written : List ℕ) → EndPair
with_client p e read written = record { client = e; server = p.server; up = p.up ++ written; down = drop (length read) p.down }

-- likewise for the server's pump
abbrev pub with_server : EndPair → ServerEnd → (read written : List ℕ) → EndPair
with_server p e read written = record { client = p.client; server = e; up = drop (length read) p.up; down = p.down ++ written }

-- calls of both pumps, one after another in any order, each whole or stopped, with any bounds and over any ports, where the bytes that a
-- call took are the first of those on their way to its side; the client is steered before each of its calls, and may then leave
pub data PumpCalls (answer : Job → ℕ → Outcome) (start : EndPair) : EndPair → Type 0 where
  no_calls : PumpCalls answer start start
  client_moves : (p : EndPair) (c : Bool) (e : ClientEnd) (least : ℕ) (left left_now taken taken_now : Option (List ℕ)) (moved : Moved)
      → PumpCalls answer start p
      → (h : ClientMoved least (steered c p.client) e left left_now taken taken_now moved) → take (length h.read) p.down ≡ h.read
      → PumpCalls answer start (with_client p e h.read h.written)
  client_stops : (p : EndPair) (c : Bool) (e : ClientEnd) (least bound : ℕ) (left left_now taken taken_now : Option (List ℕ))
      (fault : PumpFault ClientFault) → PumpCalls answer start p
      → (h : ClientStopped least bound (steered c p.client) e left left_now taken taken_now fault) → take (length h.read) p.down ≡ h.read
      → PumpCalls answer start (with_client p e h.read h.written)
  client_leaves : (p : EndPair) (c : Bool) → PumpCalls answer start p
      → PumpCalls answer start (with_client p (end_left (steered c p.client)) [] [])
  server_moves : (p : EndPair) (e : ServerEnd) (least : ℕ) (left left_now taken taken_now : Option (List ℕ)) (moved : Moved)
      → PumpCalls answer start p
      → (h : ServerMoved answer least p.server e left left_now taken taken_now moved) → take (length h.read) p.up ≡ h.read
      → PumpCalls answer start (with_server p e h.read h.written)
  server_stops : (p : EndPair) (e : ServerEnd) (least bound : ℕ) (left left_now taken taken_now : Option (List ℕ))
      (fault : PumpFault ServerFault) → PumpCalls answer start p
      → (h : ServerStopped answer least bound p.server e left left_now taken taken_now fault) → take (length h.read) p.up ≡ h.read
      → PumpCalls answer start (with_server p e h.read h.written)

-- the bytes on their way from a side are those that wait on the connection; if that side has left, they are a prefix of these
abbrev pub AreOnWay : (on : Bool) → (bytes waiting : List ℕ) → Type 0
AreOnWay true bytes waiting = waiting ≡ bytes
AreOnWay false bytes waiting = (more : List ℕ) × (waiting ≡ bytes ++ more)

-- a world has both ends, and the bytes on their way wait on its connection
pub record IsWorldOf (w : World) (p : EndPair) : Type 0 where
  pub client : w.client ≡ p.client
  pub server : w.server ≡ p.server
  pub up : AreOnWay p.client.client.on p.up (client_link w).up
  pub down : AreOnWay p.server.server.on p.down (client_link w).down

-- a call as events: the whole turn of a side, or a prefix of one and its leaving, after an abort if a client was to stop; a call of a side
-- that has left is no event
pub data IsCall (answer : Job → ℕ → Outcome) (w : World) : List Event → Type 0 where
  no_event : IsCall answer w []
  client_turn : (c : Bool) (count : ℕ) (events : List Event) → IsClientTurn count false (run_of (steering c) w) events
      → IsCall answer w (steering c ++ events)
  client_left : (c : Bool) (count : ℕ) (events : List Event) → IsClientTurn count true (run_of (steering c) w) events
      → IsCall answer w ((steering c ++ events) ++ event.ClientLeaves ∷ [])
  server_turn : (count : ℕ) (events : List Event) → IsServerTurn answer count false w events → IsCall answer w events
  server_left : (count : ℕ) (events : List Event) → IsServerTurn answer count true w events
      → IsCall answer w (events ++ event.ServerLeaves ∷ [])

-- calls as events, one after another
pub data AreCalls (answer : Job → ℕ → Outcome) (w : World) : List Event → Type 0 where
  no_call : AreCalls answer w []
  one_more : (events more : List Event) → AreCalls answer w events → IsCall answer (run_of events w) more
      → AreCalls answer w (events ++ more)

-- calls as events lead a world there
pub record IsOneWorld (answer : Job → ℕ → Outcome) (w : World) (p : EndPair) : Type 0 where
  pub events : List Event
  pub are : AreCalls answer w events
  pub is : IsWorldOf (run_of events w) p

-- ---- against any peer

-- calls of a client, one after another: those of its pump, each whole or stopped, with any bounds and over any ports, and between them its
-- own calls, such as the one that comes to the next connection
pub data ClientCalls (start : ClientEnd) : ClientEnd → Type 0 where
  not_called : ClientCalls start start
  moves : (e f : ClientEnd) (least : ℕ) (left left_now taken taken_now : Option (List ℕ)) (moved : Moved) → ClientCalls start e
      → ClientMoved least e f left left_now taken taken_now moved → ClientCalls start f
  stops : (e f : ClientEnd) (least bound : ℕ) (left left_now taken taken_now : Option (List ℕ)) (fault : PumpFault ClientFault)
      → ClientCalls start e → ClientStopped least bound e f left left_now taken taken_now fault → ClientCalls start f
  called : (e : ClientEnd) (call : Call) → ClientCalls start e → ClientCalls start (behind_call call e)

-- a list of a client's own calls leads there
pub record AreOwnCalls (start e : ClientEnd) : Type 0 where
  pub calls : List Call
  pub lead : e ≡ behind_calls calls start
