-- Both ends and their connections, as the definitions see them (this profile).
use Rattle.std.specs.Prelude.{◌≡◌, ℕ, ◌≤◌, List, [], ◌∷◌, ◌++◌, true, length, drop}
use Rattle.dmis_program.specs.Meaning.{Meaning}
use Rattle.dmis_program.specs.Programs.{IsProgram}
use Rattle.tool_rack.specs.Setups.{SetupValue}
use Rattle.protocol_model.specs.Ends.{ClientEnd, ServerEnd}
use Rattle.protocol_model.specs.World.{World, Link, start, run_of}
use Rattle.protocol_model.specs.declared.events.Event.{Event}
use Rattle.client_core.specs.Clients.{window_most}
use Rattle.server_core.specs.Serving.{ServerValue}
use Rattle.link_world.specs.declared.worlds.connection.Connection.{Connection}

-- the bytes of a connection, without the room for more
abbrev pub link_of_connection : Connection → Link
link_of_connection c = record { up = c.up.waiting; down = c.down.waiting }

-- a server that is on a connection is on one of these
abbrev pub StandsOn : ServerEnd → List Connection → Type 0
StandsOn e cs = (e.server.on ≡ true → 1 ≤ e.server.last) × (e.server.last ≤ length cs)

-- the bytes of a connection, followed by what a side wrote
abbrev pub with_up : Connection → List ℕ → Link
with_up c text = record { up = c.up.waiting ++ text; down = c.down.waiting }

abbrev pub with_down : Connection → List ℕ → Link
with_down c text = record { up = c.up.waiting; down = c.down.waiting ++ text }

-- the same connection without the first bytes of one way
abbrev pub fewer_up : ℕ → Connection → Link
fewer_up count c = record { up = drop count c.up.waiting; down = c.down.waiting }

abbrev pub fewer_down : ℕ → Connection → Link
fewer_down count c = record { up = c.up.waiting; down = drop count c.down.waiting }

-- likewise for all connections, in order
abbrev pub links_of : List Connection → List Link
links_of [] = []
links_of (c ∷ cs) = link_of_connection c ∷ links_of cs

-- a client's end with no bytes to send
abbrev pub quiet_client : ClientEnd → ClientEnd
quiet_client e = record e { out = [] }

-- a server's end with no bytes to send
abbrev pub quiet_server : ServerEnd → ServerEnd
quiet_server e = record e { out = [] }

-- a setup, and the world of its server
pub record WorldValue : Type 0 where
  pub setup : SetupValue
  pub world : World

-- what is seen of the code's parts
abbrev pub seen : ClientEnd → ServerValue → List Connection → List ℕ → WorldValue
seen client server connections written =
    record {
      setup = server.setup;
      world = record {
        client = client;
        server = server.end;
        links = links_of connections;
        written = written;
      };
    }

-- the same setup with another world
abbrev pub with_world : WorldValue → World → WorldValue
with_world l w = record { setup = l.setup; world = w }

-- a list of events leads to it from a world in which nothing has happened
pub record IsReached (l : WorldValue) : Type 0 where
  pub program : Meaning
  pub is_program : IsProgram program
  pub window : ℕ
  pub few : window ≤ window_most
  pub events : List Event
  pub reached : l.world ≡ run_of events (start program l.setup.tools window)
