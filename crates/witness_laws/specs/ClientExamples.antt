-- Examples: clients that are written out, and what a witness reports of them (this profile). No law cites these definitions.
use Rattle.std.specs.Prelude.{ℕ, pos, true, false, List, [], ◌∷◌, ◌++◌, codes, Some, None}
use Rattle.fixed_um.specs.declared.lengths.Point.{Point}
use Rattle.fixed_um.specs.declared.frames.Frame.TheVariants.{Machine}
use Rattle.contact_ledger.specs.declared.acts.Act.{Act}
use Rattle.contact_ledger.specs.declared.acts.Act.TheVariants as act
use Rattle.dme_line.specs.declared.commands.Command.{Command}
use Rattle.dme_line.specs.declared.commands.Command.TheVariants as command
use Rattle.dme_line.specs.declared.tags.Tag.{Tag}
use Rattle.dme_line.specs.declared.tags.Tag.TheVariants.{Std}
use Rattle.protocol_model.specs.Client.{new_client, no_tally}
use Rattle.protocol_model.specs.Ends.{ClientEnd, new_client_end}
use Rattle.protocol_model.specs.Plan.{planned}
use Rattle.protocol_model.specs.declared.lines.Line.{Line}
use Rattle.protocol_model.specs.declared.plans.Does.{Does}
use Rattle.protocol_model.specs.declared.plans.Planned.{Planned}
use Rattle.protocol_model.specs.declared.states.State.{State}
use Rattle.client_core.specs.Calls.{Feed, ReadOne}
use Rattle.record_text.specs.ToldExamples.{empty, completed, changing}
use Rattle.witness.specs.Dialogues.{Dialogue}
use Rattle.witness.specs.Known.{nothing}
use Rattle.witness.specs.declared.lines.Progress.TheVariants.{Begun}
use Rattle.witness.specs.declared.lines.Reported.TheVariants.{Did, Left}
use Rattle.witness.specs.declared.lines.SentCommand.TheVariants.{Known}
use Rattle.witness.specs.declared.lines.Stage.TheVariants as stage
use Rattle.witness.specs.declared.lines.Use.{Use}
use Rattle.witness_laws.specs.Ahead.{Watched}
use Rattle.witness_laws.specs.Orders.{Down}
use Rattle.witness_laws.specs.Visits.{Visit}

-- a change to the tool P1
abbrev pub change : Command
change = command.ChangeTool (codes "P1")

-- a command that was just sent on a line under a tag, with nothing known for it
abbrev pub sent : ℕ → Tag → Command → Use
sent n t c = record {
  tag = t;
  command = Known c;
  line = n;
  stage = stage.Sent;
  has_failed = false;
  rival = None;
  known = nothing;
}

-- a witness that has reported a homing, and for which the change is received under 00007
abbrev pub watching : Dialogue
watching = record {
  ordered = true;
  lines = 1;
  uses = record (sent 0 (Std 7) change) { stage = stage.Received } ∷ [];
  events = [];
  crossed = false;
  known = record nothing { tool = Some (codes "P1", record { line = 0; rival = None; progress = Begun }) };
  reported = Did act.Homed ∷ [];
}

-- a line under the event tag of number 0, and a client to whom it has come
abbrev pub zero : List ℕ
zero = codes "E0000 %"

abbrev pub stray : ClientEnd
stray = record (changing 3 []) { input = record { rest = zero ++ 13 ∷ 10 ∷ []; fault = None } }

-- a touch with P1 in machine axes, at the origin
abbrev pub origin : Point
origin = record { x = pos 0; y = pos 0; z = pos 0 }

abbrev pub touch : Act
touch = act.Contact origin None (codes "P1") Machine origin

-- a homing, and the end of the session
abbrev pub steps : List Planned
steps = planned command.Home Does.Homes ∷ planned command.EndSession Does.Nothing ∷ []

-- a client on the connection 3 that has sent nothing of these
abbrev pub sending : ClientEnd
sending = record {
  client = record (new_client empty [] 1) {
    on = true;
    last = 3;
    state = State.Running;
    table = record { standard = []; event = []; tally = record (no_tally 3 []) { todo = steps; unsent = steps } };
  };
  input = record { rest = []; fault = None };
  out = [];
}

-- a client that was never on a connection, and has nothing to do
abbrev pub fresh : ClientEnd
fresh = new_client_end empty [] 1

-- a connection that has these numbers, on which the witness reads one line that the client does not, and before which another client left
abbrev pub unread_on : ℕ → ℕ → Visit
unread_on own number = record { others = (6, Left) ∷ []; own = own; number = number; calls = []; unread = Down completed ∷ [] }

-- two of them
abbrev pub two : List Visit
two = unread_on 4 7 ∷ unread_on 5 8 ∷ []

-- a client to whom the end of the change has come, and a witness that has not read it
abbrev pub relayed : Watched
relayed = record { client = changing 3 (act.Homed ∷ []); dialogue = watching; ahead = [] }

-- a homing under a tag
abbrev pub homing : Tag → List Line
homing t = record { tag = t; command = command.Home } ∷ []

-- a connection on which the client reads such a line
abbrev pub zero_read : Visit
zero_read = record { others = []; own = 4; number = 7; calls = Feed (zero ++ 13 ∷ 10 ∷ []) ∷ ReadOne ∷ []; unread = [] }
