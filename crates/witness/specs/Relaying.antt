-- A relay between the two ends of a connection: what came, what is sent on, and what is written of it (this profile).
use Rattle.std.specs.Prelude.{◌≡◌, ℕ, ◌≤◌, Bool, true, List, [], ◌++◌, length, take, drop}
use Rattle.line_framing.specs.Next.{next_of}
use Rattle.line_framing.specs.Framing.{IsLineDue, fed}
use Rattle.witness.specs.Texts.{told_lines}
use Rattle.witness.specs.Watching.{Watching, unwatched, client_read, server_read}
use Rattle.witness.specs.declared.lines.Reported.{Reported}

-- the number of the connection, its witness, the bytes of each end that were not sent on, and the text that is due and was not written
pub record Relaying : Type 0 where
  pub connection : ℕ
  pub watching : Watching
  pub up : List ℕ
  pub down : List ℕ
  pub due : List ℕ

-- a relay without a byte; it sees the order between the two ends
abbrev pub fresh : ℕ → Relaying
fresh connection = record { connection = connection; watching = unwatched true; up = []; down = []; due = [] }

-- bytes come from the client, or from the server
abbrev pub client_came : Relaying → List ℕ → Relaying
client_came r bytes = record {
  connection = r.connection;
  watching = record r.watching { up = fed r.watching.up bytes };
  up = r.up ++ bytes;
  down = r.down;
  due = r.due;
}

abbrev pub server_came : Relaying → List ℕ → Relaying
server_came r bytes = record {
  connection = r.connection;
  watching = record r.watching { down = fed r.watching.down bytes };
  up = r.up;
  down = r.down ++ bytes;
  due = r.due;
}

-- ---- reading

-- no whole line of an end waits
abbrev pub IsClientRead : Watching → Type 0
IsClientRead w = IsLineDue (next_of w.up.rest) → ⊥

abbrev pub IsServerRead : Watching → Type 0
IsServerRead w = IsLineDue (next_of w.down.rest) → ⊥

-- lines were read one after another: one of the server only if none of the client waits, so that a command is read before its answers
pub data Reads : Watching → Watching → Type 0 where
  none : (w : Watching) → Reads w w
  client : (old w : Watching) → Reads old w → Reads old (client_read w)
  server : (old w : Watching) → Reads old w → IsClientRead w → Reads old (server_read w)

-- what was read is no longer with the witness
abbrev pub untold : Watching → Watching
untold w = record { up = w.up; down = w.down; dialogue = record (w.dialogue) { reported = [] } }

-- the text of what was read is due
abbrev pub made_due : Relaying → Relaying
made_due r = record {
  connection = r.connection;
  watching = untold r.watching;
  up = r.up;
  down = r.down;
  due = r.due ++ told_lines r.connection r.watching.dialogue.reported;
}

-- all lines that came were read, and what they report is written
pub record IsAllTold (r : Relaying) : Type 0 where
  pub client : IsClientRead r.watching
  pub server : IsServerRead r.watching
  pub taken : r.watching.dialogue.reported ≡ []
  pub written : r.due ≡ []

-- ---- a relay from its beginning

-- what it is asked to do
pub data Move : Type 0 where
  FromClient : List ℕ → Move
  FromServer : List ℕ → Move
  Read : Move
  MakeDue : Move
  Write : Move
  ToServer : ℕ → Move
  ToClient : ℕ → Move

-- it did that; bytes go to the client only if all that came was reported
abbrev pub Did : Relaying → Move → Relaying → Type 0
Did old (FromClient bytes) new = new ≡ client_came old bytes
Did old (FromServer bytes) new = new ≡ server_came old bytes
Did old Read new = Reads old.watching new.watching × (new ≡ record old { watching = new.watching })
Did old MakeDue new = new ≡ made_due old
Did old Write new = new ≡ record old { due = [] }
Did old (ToServer n) new = (n ≤ length old.up) × (new ≡ record old { up = drop n old.up })
Did old (ToClient n) new = IsAllTold old × (n ≤ length old.down) × (new ≡ record old { down = drop n old.down })

-- what came from each end, what was sent on to the other, what was reported, and what was written
pub record Course : Type 0 where
  pub came_up : List ℕ
  pub came_down : List ℕ
  pub sent_up : List ℕ
  pub sent_down : List ℕ
  pub reported : List Reported
  pub written : List ℕ

abbrev pub no_course : Course
no_course = record { came_up = []; came_down = []; sent_up = []; sent_down = []; reported = []; written = [] }

-- a course and one move more, of a relay as it was before the move
abbrev pub with_move : Course → Relaying → Move → Course
with_move c r (FromClient bytes) = record c { came_up = c.came_up ++ bytes }
with_move c r (FromServer bytes) = record c { came_down = c.came_down ++ bytes }
with_move c r Read = c
with_move c r MakeDue = record c { reported = c.reported ++ r.watching.dialogue.reported }
with_move c r Write = record c { written = c.written ++ r.due }
with_move c r (ToServer n) = record c { sent_up = c.sent_up ++ take n r.up }
with_move c r (ToClient n) = record c { sent_down = c.sent_down ++ take n r.down }

-- a relay, and its course from its beginning on
pub data Relays (connection : ℕ) : Course → Relaying → Type 0 where
  begun : Relays connection no_course (fresh connection)
  moved : (c : Course) (r new : Relaying) (move : Move) → Relays connection c r → Did r move new
      → Relays connection (with_move c r move) new

-- ---- what two lists of bytes report

-- a witness to whom these bytes came, in any pieces, and that has read lines meanwhile
pub data IsHeard (ordered : Bool) : List ℕ → List ℕ → Watching → Type 0 where
  silent : IsHeard ordered [] [] (unwatched ordered)
  came_up : (up down bytes : List ℕ) (w : Watching) → IsHeard ordered up down w
      → IsHeard ordered (up ++ bytes) down (record w { up = fed w.up bytes })
  came_down : (up down bytes : List ℕ) (w : Watching) → IsHeard ordered up down w
      → IsHeard ordered up (down ++ bytes) (record w { down = fed w.down bytes })
  read : (up down : List ℕ) (old new : Watching) → IsHeard ordered up down old → Reads old new → IsHeard ordered up down new

-- the text is that of all that these bytes report, with all their lines read
pub record IsToldOf (ordered : Bool) (connection : ℕ) (up down text : List ℕ) : Type 0 where
  pub heard : Watching
  pub bytes : IsHeard ordered up down heard
  pub client : IsClientRead heard
  pub server : IsServerRead heard
  pub text_is : text ≡ told_lines connection heard.dialogue.reported
