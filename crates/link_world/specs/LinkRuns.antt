-- Whole connections, as turns of one side or of both over their ports (this profile).
use Rattle.std.specs.Prelude.{◌≡◌, ℕ, ◌==◌, ◌+◌, ◌*◌, ◌<◌, ◌≤◌, Bool, ◌&&◌, true, false, ⊤, Option, List, [], ◌++◌, length}
use Rattle.std.specs.Io.KnownBytes.{Appends, Consumes, IsAtEnd}
use Rattle.protocol_model.specs.Ends.{ClientEnd, ServerEnd, end_left, serving_left}
use Rattle.protocol_model.specs.declared.machine.Job.{Job}
use Rattle.protocol_model.specs.declared.machine.Outcome.{Outcome}
use Rattle.protocol_model.specs.declared.states.State.{State}
use Rattle.client_core.specs.declared.faults.ClientFault.{ClientFault}
use Rattle.server_core.specs.declared.faults.ServerFault.{ServerFault}
use Rattle.link_world.specs.declared.connections.pumps.Moved.{Moved}
use Rattle.link_world.specs.declared.connections.pumps.PumpFault.{PumpFault}
use Rattle.link_world.specs.declared.connections.pumps.PumpFault.TheVariants as fault
use Rattle.link_world.specs.declared.connections.links.LoopFault.{LoopFault}
use Rattle.link_world.specs.declared.connections.links.LoopFault.TheVariants as loop_fault
use Rattle.link_world.specs.Pumps.{ClientMoved, ClientStopped, HasRefused, IsLost}
use Rattle.link_world.specs.ServerPumps.{ServerMoved, ServerStopped, IsServerRefusal}

-- how many turns a run may have, and how many steps each of them may make
abbrev pub turns_most : ℕ
turns_most = 1000000

abbrev pub steps_most : ℕ
steps_most = 1000000

-- how many calls of ports that makes in total
abbrev pub calls_most : ℕ
calls_most = turns_most * steps_most

-- ---- the client's side

-- a client whose run is over: its plan is counted, or nothing is open after a failure or an abort
abbrev pub is_over : State → Bool
is_over State.Done = true
is_over State.Halted = true
is_over _ = false

-- n turns of a client, one after another over the same ports, each made while its run was not over and asking for at least one byte; with
-- all the bytes that came in and all that went out, in order
pub data ClientRun (old : ClientEnd) (left taken : Option (List ℕ))
    : ℕ → List ℕ → List ℕ → ClientEnd → Option (List ℕ) → Option (List ℕ) → Type 0 where
  starts : ClientRun old left taken 0 [] [] old left taken
  goes : (turns : ℕ) (read written : List ℕ) (mid new : ClientEnd) (left_mid left_now taken_mid taken_now : Option (List ℕ)) (moved : Moved)
      → ClientRun old left taken turns read written mid left_mid taken_mid → is_over mid.client.state ≡ false
      → (turn : ClientMoved 1 mid new left_mid left_now taken_mid taken_now moved)
      → ClientRun old left taken (turns + 1) (read ++ turn.read) (written ++ turn.written) new left_now taken_now

-- at most the allowed number of turns of a client: the source has lost exactly the bytes that came in, and the sink has taken those that
-- went out
pub record ClientRan (old new : ClientEnd) (left left_now taken taken_now : Option (List ℕ)) : Type 0 where
  pub turns : ℕ
  pub read : List ℕ
  pub written : List ℕ
  pub run : ClientRun old left taken turns read written new left_now taken_now
  pub few : turns ≤ turns_most
  pub consumed : Consumes left left_now read
  pub appended : Appends taken taken_now written

-- how turns of a client end in a fault: one more turn stops, or the allowed number were made and the client leaves; with all bytes that
-- came in and went out, those that were discarded, and the client's end before it left
pub data ClientEnds (old new : ClientEnd) (left left_now taken taken_now : Option (List ℕ))
    : PumpFault ClientFault → List ℕ → List ℕ → List ℕ → ClientEnd → Type 0 where
  stops : (turns : ℕ) (read written : List ℕ) (mid : ClientEnd) (left_mid taken_mid : Option (List ℕ)) (fault : PumpFault ClientFault)
      → ClientRun old left taken turns read written mid left_mid taken_mid → is_over mid.client.state ≡ false → turns < turns_most
      → (turn : ClientStopped 1 steps_most mid new left_mid left_now taken_mid taken_now fault)
      → ClientEnds old new left left_now taken taken_now fault (read ++ turn.read) (written ++ turn.written) turn.lost turn.last
  spends : (read written : List ℕ) (last : ClientEnd) → ClientRun old left taken turns_most read written last left_now taken_now
      → is_over last.client.state ≡ false → new ≡ end_left last
      → ClientEnds old new left left_now taken taken_now fault.TurnsSpent read written [] last

-- why a client's run has stopped, from the counts of all bytes that came in, that went out and that it held unread at first, from what the
-- source has left, and from the client's end before it left
abbrev pub ClientRunWhy : (read written held : ℕ) → Option (List ℕ) → ClientEnd → PumpFault ClientFault → Type 0
ClientRunWhy read written held left_now last fault.ReadFailed = ⊤
ClientRunWhy read written held left_now last fault.WriteFailed = ⊤
ClientRunWhy read written held left_now last fault.Ended = IsAtEnd left_now
ClientRunWhy read written held left_now last fault.TurnsSpent = 1000000 ≤ written + 2 * (read + held)
ClientRunWhy read written held left_now last (fault.Core why) = HasRefused last (fault.Core why)
ClientRunWhy read written held left_now last fault.Memory = ⊤

-- a client's run that has stopped in a fault: the client has left its connection, and all bytes are reported as those of one turn
pub record ClientRunStopped (old new : ClientEnd) (left left_now taken taken_now : Option (List ℕ)) (fault : PumpFault ClientFault) : Type 0
  where
    pub read : List ℕ
    pub written : List ℕ
    pub lost : List ℕ
    pub last : ClientEnd
    pub ends : ClientEnds old new left left_now taken taken_now fault read written lost last
    pub leaves : new ≡ end_left last
    pub consumed : Consumes left left_now (read ++ lost)
    pub is_lost : IsLost fault lost
    pub appended : Appends taken taken_now written
    pub why : ClientRunWhy (length read) (length written) (length old.input.rest) left_now last fault

-- ---- the server's side

-- likewise for a server and its machine: n turns, each asking for at least one byte
pub data ServerRun (answer : Job → ℕ → Outcome) (old : ServerEnd) (left taken : Option (List ℕ))
    : ℕ → List ℕ → List ℕ → ServerEnd → Option (List ℕ) → Option (List ℕ) → Type 0 where
  starts : ServerRun answer old left taken 0 [] [] old left taken
  goes : (turns : ℕ) (read written : List ℕ) (mid new : ServerEnd) (left_mid left_now taken_mid taken_now : Option (List ℕ)) (moved : Moved)
      → ServerRun answer old left taken turns read written mid left_mid taken_mid
      → (turn : ServerMoved answer 1 mid new left_mid left_now taken_mid taken_now moved)
      → ServerRun answer old left taken (turns + 1) (read ++ turn.read) (written ++ turn.written) new left_now taken_now

-- how they end: one more turn stops, or the allowed number were made and the server leaves
pub data ServerEnds (answer : Job → ℕ → Outcome) (old new : ServerEnd) (left left_now taken taken_now : Option (List ℕ))
    : PumpFault ServerFault → List ℕ → List ℕ → List ℕ → ServerEnd → Type 0 where
  stops : (turns : ℕ) (read written : List ℕ) (mid : ServerEnd) (left_mid taken_mid : Option (List ℕ)) (fault : PumpFault ServerFault)
      → ServerRun answer old left taken turns read written mid left_mid taken_mid → turns < turns_most
      → (turn : ServerStopped answer 1 steps_most mid new left_mid left_now taken_mid taken_now fault)
      → ServerEnds answer old new left left_now taken taken_now fault (read ++ turn.read) (written ++ turn.written) turn.lost turn.last
  spends : (read written : List ℕ) (last : ServerEnd) → ServerRun answer old left taken turns_most read written last left_now taken_now
      → new ≡ serving_left last → ServerEnds answer old new left left_now taken taken_now fault.TurnsSpent read written [] last

-- why a server's run has stopped
abbrev pub ServerRunWhy : (read written held : ℕ) → Option (List ℕ) → ServerEnd → PumpFault ServerFault → Type 0
ServerRunWhy read written held left_now last fault.ReadFailed = ⊤
ServerRunWhy read written held left_now last fault.WriteFailed = ⊤
ServerRunWhy read written held left_now last fault.Ended = IsAtEnd left_now
ServerRunWhy read written held left_now last fault.TurnsSpent = 1000000 ≤ written + 4 * (read + held) + 129
ServerRunWhy read written held left_now last (fault.Core why) = IsServerRefusal last why
ServerRunWhy read written held left_now last fault.Memory = ⊤

-- a server's run that has stopped: the server has left its connection, and all bytes are reported as those of one turn
pub record ServerRunStopped (answer : Job → ℕ → Outcome) (old new : ServerEnd) (left left_now taken taken_now : Option (List ℕ))
    (fault : PumpFault ServerFault) : Type 0
  where
    pub read : List ℕ
    pub written : List ℕ
    pub lost : List ℕ
    pub last : ServerEnd
    pub ends : ServerEnds answer old new left left_now taken taken_now fault read written lost last
    pub leaves : new ≡ serving_left last
    pub consumed : Consumes left left_now (read ++ lost)
    pub is_lost : IsLost fault lost
    pub appended : Appends taken taken_now written
    pub why : ServerRunWhy (length read) (length written) (length old.input.rest) left_now last fault

-- ---- both sides in turn

-- an end, and what its two ports show: the bytes that are left in its source, and those that its sink has taken
pub record ClientSide : Type 0 where
  pub end : ClientEnd
  pub left : Option (List ℕ)
  pub taken : Option (List ℕ)

pub record ServerSide : Type 0 where
  pub end : ServerEnd
  pub left : Option (List ℕ)
  pub taken : Option (List ℕ)

abbrev pub client_side : ClientEnd → Option (List ℕ) → Option (List ℕ) → ClientSide
client_side e left taken = record { end = e; left = left; taken = taken }

abbrev pub server_side : ServerEnd → Option (List ℕ) → Option (List ℕ) → ServerSide
server_side e left taken = record { end = e; left = left; taken = taken }

-- nothing came in and nothing went out, on either side
abbrev pub are_still : Moved → Moved → Bool
are_still c s = (c.read == 0 && c.written == 0) && (s.read == 0 && s.written == 0)

-- a turn of the client and then one of the server: the client asks for n bytes, the server for those that the client has just written
pub record PairMoved (answer : Job → ℕ → Outcome) (down : ℕ) (c c_now : ClientSide) (s s_now : ServerSide) (by_client by_server : Moved)
    : Type 0
  where
    pub client : ClientMoved down c.end c_now.end c.left c_now.left c.taken c_now.taken by_client
    pub server : ServerMoved answer by_client.written s.end s_now.end s.left s_now.left s.taken s_now.taken by_server

-- n such pairs, in each of which a byte came in or went out; the client asks each time for what the server wrote in its last turn, at first
-- for nothing
pub data LoopRun (answer : Job → ℕ → Outcome) (c : ClientSide) (s : ServerSide) : ℕ → ℕ → ClientSide → ServerSide → Type 0 where
  starts : LoopRun answer c s 0 0 c s
  goes : (pairs down : ℕ) (c_mid c_now : ClientSide) (s_mid s_now : ServerSide) (by_client by_server : Moved)
      → LoopRun answer c s pairs down c_mid s_mid → PairMoved answer down c_mid c_now s_mid s_now by_client by_server
      → are_still by_client by_server ≡ false → LoopRun answer c s (pairs + 1) by_server.written c_now s_now

-- pairs up to one in which no byte came in or went out
pub record LoopRan (answer : Job → ℕ → Outcome) (c c_now : ClientSide) (s s_now : ServerSide) : Type 0 where
  pub pairs : ℕ
  pub down : ℕ
  pub c_mid : ClientSide
  pub s_mid : ServerSide
  pub by_client : Moved
  pub by_server : Moved
  pub run : LoopRun answer c s pairs down c_mid s_mid
  pub few : pairs < turns_most
  pub last : PairMoved answer down c_mid c_now s_mid s_now by_client by_server
  pub still : are_still by_client by_server ≡ true

-- a side that leaves leaves its ports as they are
abbrev pub client_leaves : ClientSide → ClientSide
client_leaves c = record c { end = end_left c.end }

abbrev pub server_leaves : ServerSide → ServerSide
server_leaves s = record s { end = serving_left s.end }

-- a pair that a fault has ended: one side's turn stops, and the other side leaves its connection too
pub data PairStopped (answer : Job → ℕ → Outcome) (down : ℕ) (c c_now : ClientSide) (s s_now : ServerSide) : LoopFault → Type 0 where
  client_stops : (fault : PumpFault ClientFault)
      → ClientStopped down steps_most c.end c_now.end c.left c_now.left c.taken c_now.taken fault → s_now ≡ server_leaves s
      → PairStopped answer down c c_now s s_now (loop_fault.Client fault)
  server_stops : (c_then : ClientSide) (moved : Moved) (fault : PumpFault ServerFault)
      → ClientMoved down c.end c_then.end c.left c_then.left c.taken c_then.taken moved
      → ServerStopped answer moved.written steps_most s.end s_now.end s.left s_now.left s.taken s_now.taken fault
      → c_now ≡ client_leaves c_then → PairStopped answer down c c_now s s_now (loop_fault.Server fault)

-- pairs that end in a fault: one more pair stops, or the allowed number were made and both sides leave
pub data LoopStopped (answer : Job → ℕ → Outcome) (c c_now : ClientSide) (s s_now : ServerSide) : LoopFault → Type 0 where
  stops : (pairs down : ℕ) (c_mid : ClientSide) (s_mid : ServerSide) (fault : LoopFault) → LoopRun answer c s pairs down c_mid s_mid
      → pairs < turns_most → PairStopped answer down c_mid c_now s_mid s_now fault → LoopStopped answer c c_now s s_now fault
  spends : (down : ℕ) (c_mid : ClientSide) (s_mid : ServerSide) → LoopRun answer c s turns_most down c_mid s_mid
      → c_now ≡ client_leaves c_mid → s_now ≡ server_leaves s_mid
      → LoopStopped answer c c_now s s_now (loop_fault.Client fault.TurnsSpent)
