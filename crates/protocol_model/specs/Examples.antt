-- Values, claims and servers of the examples, written out (this profile). Lengths are in micrometres.
-- No theorem cites these definitions: the examples next to them show what the others give.
use Rattle.std.specs.Prelude.{ℕ, zero, suc, ℤ, pos, neg_ℤ, Option, Some, None, List, [], ◌∷◌, ◌++◌, codes, Ok, true}
use Rattle.fixed_um.specs.Shapes.{Direction}
use Rattle.fixed_um.specs.declared.lengths.Point.{Point}
use Rattle.fixed_um.specs.declared.frames.Frame.{Frame}
use Rattle.fixed_um.specs.declared.frames.Frame.TheVariants as frame
use Rattle.dme_line.specs.declared.tags.Tag.TheVariants.{Std}
use Rattle.dme_line.specs.declared.commands.Kind.{Kind}
use Rattle.dme_line.specs.declared.commands.Command.{Command}
use Rattle.contact_ledger.specs.declared.features.Feature.{Feature}
use Rattle.dmis_program.specs.Meaning.{touch_with}
use Rattle.dmis_program.specs.declared.features.Touch.{Touch}
use Rattle.dmis_program.specs.declared.features.Wanted.{Wanted}
use Rattle.protocol_model.specs.Replies.{Reading, Reply}
use Rattle.protocol_model.specs.Claims.{MadeContact}
use Rattle.protocol_model.specs.Server.{Server, Answer, server_read, server_turned, server_machined, new_server, server_accepted}
use Rattle.protocol_model.specs.declared.lines.Line.{Line}
use Rattle.protocol_model.specs.declared.machine.Outcome.{Outcome}

-- ---- values

-- a point, its lengths in micrometres
abbrev pub at : ℤ → ℤ → ℤ → Point
at x y z = record { x = x; y = y; z = z }

-- a length below zero
abbrev pub neg : ℕ → ℤ
neg n = neg_ℤ (pos n)

-- a direction, its components in millionths
abbrev pub along : ℤ → ℤ → ℤ → Option Direction
along i j k = Some (record { i = i; j = j; k = k })

-- from above
abbrev pub from_above : Option Direction
from_above = along (pos 0) (pos 0) (pos 1000000)

-- the first tool of the rack, and the offset of the stored frame
abbrev pub tool : List ℕ
tool = codes "P1"

-- the offset of the stored frame
abbrev pub part : Point
part = at (pos 100000) (pos 0) (pos 0)

-- a feature: its label and its points, of unknown origin
abbrev pub feature : List ℕ → List Point → Feature
feature label points = record { label = label; points = points; origin = None }

-- a feature whose last point was counted on the connection of this number, in the frame of its last touch
abbrev pub feature_on : ℕ → Frame → List ℕ → List Point → Feature
feature_on connection f label points =
    record { label = label; points = points; origin = Some (record { connection = connection; frame = f }) }

-- a command under a standard tag
abbrev pub line : ℕ → Command → Line
line n c = record { tag = Std n; command = c }

-- an error under a standard tag, and its end
abbrev pub failed : ℕ → ℕ → Kind → List Reply
failed n code kind = Reply.Error (Std n) code (Some kind) ∷ Reply.Done (Std n) ∷ []

-- ---- claims

-- a contact that was made for a touch ten millimetres along x, and met the surface so far along x
abbrev pub made : ℕ → MadeContact
made x = record {
  connection = 1;
  target = at (pos 10000) (pos 0) (pos 0);
  dir = from_above;
  tool = tool;
  frame = frame.Machine;
  point = at (pos x) (pos 0) (pos 0);
}

-- the touch that it serves
abbrev pub alike : Touch
alike = touch_with tool frame.Machine (at (pos 10000) (pos 0) (pos 0)) from_above

-- two features that want this touch alone, and what is held of them if one contact served both
abbrev pub alike_wanted : List Wanted
alike_wanted = record { label = codes "A"; touches = alike ∷ [] } ∷ record { label = codes "B"; touches = alike ∷ [] } ∷ []

abbrev pub alike_features : List Feature
alike_features = feature (codes "A") (at (pos 10002) (pos 0) (pos 0) ∷ []) ∷ feature (codes "B") (at (pos 10002) (pos 0) (pos 0) ∷ []) ∷ []

-- a feature that wants it twice, and what is held of it if a contact between was left out
abbrev pub twice_wanted : List Wanted
twice_wanted = record { label = codes "A"; touches = alike ∷ alike ∷ [] } ∷ []

abbrev pub twice_features : List Feature
twice_features = feature (codes "A") (at (pos 10002) (pos 0) (pos 0) ∷ at (pos 10004) (pos 0) (pos 0) ∷ []) ∷ []

-- ---- a server by itself

-- a call of a server that is on a connection
pub data Call : Type 0 where
  Reads : Reading → Call
  Turns : Call
  Ends : Outcome → Call

-- what a server answers to a call
abbrev pub call_answer : Call → Server → Answer
call_answer (Call.Reads reading) s = server_read s reading
call_answer Call.Turns s = server_turned s
call_answer (Call.Ends outcome) s = server_machined s outcome

-- what is answered to calls, one after another
abbrev pub called : List Call → Server → List Reply
called [] s = []
called (c ∷ cs) s = (call_answer c s).said ++ called cs (call_answer c s).server

-- the same command under that many tags, from one on, read one after another
abbrev pub read_under : Command → ℕ → ℕ → List Call
read_under c n zero = []
read_under c n (suc more) = Call.Reads (Ok (line n c)) ∷ read_under c (suc n) more

-- a server on its first connection, with the tools P1 and P2: no session, not homed, no tool
abbrev pub no_session : Server
no_session = server_accepted 1 (new_server (codes "P1" ∷ codes "P2" ∷ []))

-- the same where a session is open
abbrev pub not_homed : Server
not_homed = record no_session { session = true }

-- likewise if the machine is also homed
abbrev pub no_tool : Server
no_tool = record not_homed { homed = true }

-- the same with a tool
abbrev pub ready : Server
ready = record no_tool { tool = Some tool }

-- a micrometre outside the volume
abbrev pub outside : Point
outside = at (pos 1000000001) (pos 0) (pos 0)

-- what a server answers to a command that it reads and that is processed
abbrev pub asked : Command → Server → List Reply
asked c s = called (read_under c 8 1 ++ Call.Turns ∷ []) s

-- it is received, and refused at its turn with this number
abbrev pub refused_with : ℕ → Kind → List Reply
refused_with number k = Reply.Ack (Std 8) ∷ failed 8 number k
