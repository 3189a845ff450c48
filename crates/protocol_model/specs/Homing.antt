-- Examples of the question whether the machine is homed (this profile).
-- No theorem cites these definitions.
use Rattle.std.specs.Prelude.{Bool, List, [], ◌∷◌, ◌++◌, Ok}
use Rattle.dme_line.specs.declared.tags.Tag.TheVariants.{Std}
use Rattle.dme_line.specs.declared.commands.Command.TheVariants as command
use Rattle.protocol_model.specs.Replies.{Mark, Reply}
use Rattle.protocol_model.specs.Client.{Client, client_read}
use Rattle.protocol_model.specs.Server.{Server}
use Rattle.protocol_model.specs.Examples.{line, Call, call_answer}
use Rattle.protocol_model.specs.Scripts.{one_point, Cue, client_sends, client_leaves, server_leaves, connect, accept, quiet, opened, play}
use Rattle.protocol_model.specs.declared.held.Datum.TheVariants as datum

-- a server after calls, one after another
abbrev pub server_behind : List Call → Server → Server
server_behind [] s = s
server_behind (c ∷ cs) s = server_behind cs (call_answer c s).server

-- the question is read, and is processed
abbrev pub asked_now : List Call
asked_now = Call.Reads (Ok (line 3 command.IsHomed)) ∷ Call.Turns ∷ []

-- the command that homes the machine is read and runs
abbrev pub homing_now : List Call
homing_now = Call.Reads (Ok (line 1 command.Home)) ∷ Call.Turns ∷ []

-- the question is received and answered so
abbrev pub told_so : Bool → List Reply
told_so homed = Reply.Ack (Std 3) ∷ Reply.Given (Std 3) (datum.Homed homed) ∷ Reply.Done (Std 3) ∷ []

-- a client that asks, and has read that the question was received
abbrev pub asking_client : Client
asking_client = client_read (play one_point 1 (opened ++ quiet 2 ∷ client_sends ∷ [])).world.client (Std 3) Mark.Ack

-- that client when it has read this answer
abbrev pub answered_client : Bool → Client
answered_client homed = client_read asking_client (Std 3) (Mark.Given (datum.Homed homed))

-- that client when it has also read the end of the question
abbrev pub told_client : Bool → Client
told_client homed = client_read (answered_client homed) (Std 3) Mark.Done

-- both ends leave the first connection and are on the second
abbrev pub opened_again : List Cue
opened_again = client_leaves ∷ server_leaves ∷ connect ∷ accept 2 ∷ []
