-- Both ends and the bytes between them: the events, what each does, and lists of them (this profile).
use Rattle.std.specs.Prelude.{ℕ, suc, ◌-◌, nat_lt, nat_le, Bool, true, false, ◌&&◌, not, if◌then◌else◌, Some, None, is_none, is_some, List}
use Rattle.std.specs.Prelude.{[], ◌∷◌, ◌++◌, length, take, drop, slice_set, Ok, Err}
use Rattle.std.specs.List.{slice_index_or}
use Rattle.dmis_program.specs.Meaning.{Meaning}
use Rattle.contact_ledger.specs.Ledgers.{connection_most}
use Rattle.line_framing.specs.Next.{Front, next_of}
use Rattle.protocol_model.specs.Plan.{is_empty}
use Rattle.protocol_model.specs.Client.{due, is_apart, may_abort, may_resume}
use Rattle.protocol_model.specs.Server.{may_end}
use Rattle.protocol_model.specs.Ends.{ClientEnd, ServerEnd, new_client_end, end_connected, end_sent, end_aborted, end_fed, end_read}
use Rattle.protocol_model.specs.Ends.{end_resumed, end_left, end_restarted, new_server_end, serving_accepted, serving_fed, serving_read}
use Rattle.protocol_model.specs.Ends.{serving_turned, serving_machined, serving_left, serving_restarted}
use Rattle.protocol_model.specs.declared.events.Event.{Event}
use Rattle.protocol_model.specs.declared.events.Event.TheVariants.{Connect, Accept, ClientSends, Up, ServerReads, ServerTurn, Machine, Down}
use Rattle.protocol_model.specs.declared.events.Event.TheVariants.{ClientReads, ClientLeaves, ServerLeaves, Abort, Resume, ClientRestart}
use Rattle.protocol_model.specs.declared.events.Event.TheVariants.{ServerRestart}
use Rattle.protocol_model.specs.declared.states.State.{State}

-- the unread bytes of a connection: those of the client, and those of the server
pub record Link : Type 0 where
  pub up : List ℕ
  pub down : List ℕ

-- no bytes
abbrev pub no_link : Link
no_link = record { up = []; down = [] }

-- connections are numbered from 1 as the client makes them; also, all that the client wrote on the one that it made last
pub record World : Type 0 where
  pub client : ClientEnd
  pub server : ServerEnd
  pub links : List Link
  pub written : List ℕ

-- the bytes of the connection of this number
abbrev pub link_of : List Link → ℕ → Link
link_of links n = slice_index_or links (n - 1) no_link

-- other bytes for the connection of this number
abbrev pub with_link : List Link → ℕ → Link → List Link
with_link links n link = slice_set links (n - 1) link

-- a client with this program and this window, and a server with this rack, neither ever on a connection
abbrev pub start : Meaning → List (List ℕ) → ℕ → World
start p rack window = record { client = new_client_end p [] window; server = new_server_end rack; links = []; written = [] }

-- the bytes of the connection that the client is on
abbrev pub client_link : World → Link
client_link w = link_of w.links w.client.client.last

-- the bytes of the connection that the server is on
abbrev pub server_link : World → Link
server_link w = link_of w.links w.server.server.last

-- what the client wrote joins the bytes of its connection in the same event
abbrev pub client_writes : World → ClientEnd → World
client_writes w e = record {
  client = record e { out = [] };
  server = w.server;
  links = with_link w.links w.client.client.last (record (client_link w) { up = (client_link w).up ++ e.out });
  written = w.written ++ e.out;
}

-- what the server wrote joins the bytes of its connection in the same event
abbrev pub server_writes : World → ServerEnd → World
server_writes w e = record {
  client = w.client;
  server = record e { out = [] };
  links = with_link w.links w.server.server.last (record (server_link w) { down = (server_link w).down ++ e.out });
  written = w.written;
}

-- the client makes the next connection: no bytes are on it yet
abbrev pub connected : World → World
connected w = record {
  client = end_connected (suc w.client.client.last) w.client;
  server = w.server;
  links = w.links ++ no_link ∷ [];
  written = [];
}

-- bytes move from the start of a list to the side that reads them
abbrev pub moved_up : ℕ → World → World
moved_up k w = record w {
  server = serving_fed (take k (server_link w).up) w.server;
  links = with_link w.links w.server.server.last (record (server_link w) { up = drop k (server_link w).up });
}

-- bytes move down to the client
abbrev pub moved_down : ℕ → World → World
moved_down k w = record w {
  client = end_fed (take k (client_link w).down) w.client;
  links = with_link w.links w.client.client.last (record (client_link w) { down = drop k (client_link w).down });
}

-- a whole line is next; a server does not read what no line can hold
abbrev pub is_line : Front → Bool
is_line (Ok None) = false
is_line (Ok (Some found)) = true
is_line (Err why) = false

-- a line is next, or what no line can hold
abbrev pub is_any : Front → Bool
is_any (Ok None) = false
is_any (Ok (Some found)) = true
is_any (Err why) = true

-- the state in which a client reads nothing more
abbrev pub is_faulted : State → Bool
is_faulted State.Faulted = true
is_faulted _ = false

-- a count of bytes, not zero, is there
abbrev pub has_some : ℕ → List ℕ → Bool
has_some k bytes = nat_le 1 k && nat_le k (length bytes)

-- whether an event can happen now
abbrev pub can : Event → World → Bool
can Connect w = is_apart w.client.client.state && nat_lt w.client.client.last connection_most
can (Accept n) w = not w.server.server.on && (nat_lt w.server.server.last n && nat_le n (length w.links))
can ClientSends w = is_some (due w.client.client)
can (Up k) w = w.server.server.on && (is_none w.server.input.fault && has_some k (server_link w).up)
can ServerReads w = w.server.server.on && (is_none w.server.input.fault && is_line (next_of w.server.input.rest))
can ServerTurn w = is_none w.server.server.running && not (is_empty w.server.server.waiting)
can (Machine outcome) w = may_end w.server.server.running outcome
can (Down k) w = w.client.client.on && (not (is_faulted w.client.client.state) && has_some k (client_link w).down)
can ClientReads w = w.client.client.on && (not (is_faulted w.client.client.state) && is_any (next_of w.client.input.rest))
can ClientLeaves w = w.client.client.on
can ServerLeaves w = w.server.server.on
can Abort w = may_abort w.client.client.state
can Resume w = may_resume w.client.client w.client.client.state
can (ClientRestart k) w = nat_le k (length w.client.client.table.tally.features)
can ServerRestart w = true

-- what an event does
abbrev pub happens : Event → World → World
happens Connect w = connected w
happens (Accept n) w = record w { server = serving_accepted n w.server }
happens ClientSends w = client_writes w (end_sent w.client)
happens (Up k) w = moved_up k w
happens ServerReads w = server_writes w (serving_read w.server)
happens ServerTurn w = server_writes w (serving_turned w.server)
happens (Machine outcome) w = server_writes w (serving_machined outcome w.server)
happens (Down k) w = moved_down k w
happens ClientReads w = record w { client = end_read w.client }
happens ClientLeaves w = record w { client = end_left w.client }
happens ServerLeaves w = record w { server = serving_left w.server }
happens Abort w = client_writes w (end_aborted w.client)
happens Resume w = record w { client = end_resumed w.client }
happens (ClientRestart k) w = record w { client = end_restarted k w.client }
happens ServerRestart w = record w { server = serving_restarted w.server }

-- an event that cannot happen changes nothing
abbrev pub after : Event → World → World
after e w = if can e w then happens e w else w

-- events, one after another
abbrev pub run_of : List Event → World → World
run_of [] w = w
run_of (e ∷ es) w = run_of es (after e w)
