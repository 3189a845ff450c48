-- A client and a server on connections that carry lines as values (this profile). Of each older connection the server may read whatever it
-- likes.
use Rattle.std.specs.Prelude.{ℕ, suc, ◌==◌, nat_lt, nat_le, Bool, true, ◌&&◌, not, if◌then◌else◌, is_none, is_some, List, [], ◌∷◌, ◌++◌, length, Ok}
use Rattle.dmis_program.specs.Meaning.{Meaning as Program}
use Rattle.protocol_model.specs.Replies.{Reading, Reply, tag_of, mark_of}
use Rattle.protocol_model.specs.Plan.{is_empty}
use Rattle.protocol_model.specs.Client.{Client, Sends, new_client, client_connected, client_sent, client_aborted, client_resumed}
use Rattle.protocol_model.specs.Client.{client_read, client_left, client_restarted, due, is_apart, may_abort, may_resume}
use Rattle.protocol_model.specs.Server.{Server, Answer, new_server, server_accepted, server_read, server_turned, server_machined}
use Rattle.protocol_model.specs.Server.{server_left, server_restarted, may_end}
use Rattle.protocol_model.specs.declared.lines.Line.{Line}
use Rattle.protocol_model.specs.declared.machine.Outcome.{Outcome}

-- both ends, and what is on its way on the connection that the client made last: lines up, replies down
pub record World : Type 0 where
  pub client : Client
  pub server : Server
  pub up : List Line
  pub down : List Reply

-- the events, as where bytes are carried; a line is read whole
pub data Event : Type 0 where
  Connect : Event
  Accept : ℕ → Event
  ClientSends : Event
  ServerReads : Event
  -- on an older connection, whatever is there
  ServerReadsOld : Reading → Event
  ServerTurn : Event
  Machine : Outcome → Event
  ClientReads : Event
  ClientLeaves : Event
  ServerLeaves : Event
  Abort : Event
  Resume : Event
  ClientRestart : ℕ → Event
  ServerRestart : Event

-- a client with this program and this window, and a server with this rack, neither ever on a connection
abbrev pub start : Program → List (List ℕ) → ℕ → World
start p rack window = record { client = new_client p [] window; server = new_server rack; up = []; down = [] }

-- the server's answer joins the way down, if it is given on the client's last connection
abbrev pub answered : World → List Line → Answer → World
answered w up a = record {
  client = w.client;
  server = a.server;
  up = up;
  down = if w.server.last == w.client.last then w.down
      ++ a.said else w.down;
}

-- what the client writes joins the way up
abbrev pub sent : World → Sends → World
sent w s = record { client = s.client; server = w.server; up = w.up ++ s.lines; down = w.down }

-- the client makes the next connection: nothing is on its way there
abbrev pub connected : World → World
connected w = record { client = client_connected (suc w.client.last) w.client; server = w.server; up = []; down = [] }

-- the server reads the first line on the way up
abbrev pub server_reads : World → List Line → World
server_reads w [] = w
server_reads w (line ∷ up) = answered w up (server_read w.server (Ok line))

-- the client reads the first reply on the way down
abbrev pub client_reads : World → List Reply → World
client_reads w [] = w
client_reads w (r ∷ down) = record { client = client_read w.client (tag_of r) (mark_of r); server = w.server; up = w.up; down = down }

-- whether an event can happen
abbrev pub can : Event → World → Bool
can Connect w = is_apart w.client.state
can (Accept n) w = not w.server.on && (nat_lt w.server.last n && nat_le n w.client.last)
can ClientSends w = is_some (due w.client)
can ServerReads w = w.server.on && (w.server.last == w.client.last)
can (ServerReadsOld reading) w = w.server.on && not (w.server.last == w.client.last)
can ServerTurn w = is_none w.server.running && not (is_empty w.server.waiting)
can (Machine outcome) w = may_end w.server.running outcome
can ClientReads w = w.client.on
can ClientLeaves w = w.client.on
can ServerLeaves w = w.server.on
can Abort w = may_abort w.client.state
can Resume w = may_resume w.client w.client.state
can (ClientRestart k) w = nat_le k (length w.client.table.tally.features)
can ServerRestart w = true

-- what an event does
abbrev pub happens : Event → World → World
happens Connect w = connected w
happens (Accept n) w = record w { server = server_accepted n w.server }
happens ClientSends w = sent w (client_sent w.client)
happens ServerReads w = server_reads w w.up
happens (ServerReadsOld reading) w = answered w w.up (server_read w.server reading)
happens ServerTurn w = answered w w.up (server_turned w.server)
happens (Machine outcome) w = answered w w.up (server_machined w.server outcome)
happens ClientReads w = client_reads w w.down
happens ClientLeaves w = record w { client = client_left w.client }
happens ServerLeaves w = record w { server = server_left w.server }
happens Abort w = sent w (client_aborted w.client)
happens Resume w = record w { client = client_resumed w.client }
happens (ClientRestart k) w = record w { client = client_restarted k w.client }
happens ServerRestart w = record w { server = server_restarted w.server }

-- an event that cannot happen changes nothing
abbrev pub after : Event → World → World
after e w = if can e w then happens e w else w

-- events, one after another
abbrev pub run_of : List Event → World → World
run_of [] w = w
run_of (e ∷ es) w = run_of es (after e w)
