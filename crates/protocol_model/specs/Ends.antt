-- A client and a server with the bytes that they were fed and the bytes that are to be sent (this profile; lines as the I++ DME Interface
-- version 1 forms them).
use Rattle.std.specs.Prelude.{ℕ, Bool, if◌then◌else◌, Option, Some, None, List, [], ◌∷◌, ◌++◌, drop, Result, Ok, Err}
use Rattle.fixed_um.specs.declared.lengths.Point.{Point}
use Rattle.dmis_program.specs.Meaning.{Meaning}
use Rattle.dme_line.specs.declared.tags.Tag.{Tag}
use Rattle.dme_line.specs.declared.tags.Tag.TheVariants.{Std, Event}
use Rattle.dme_line.specs.declared.commands.Kind.{Kind}
use Rattle.dme_line.specs.declared.commands.Kind.TheVariants as kind
use Rattle.dme_line.specs.declared.responses.Mark.{Mark as Marked}
use Rattle.dme_line.specs.declared.responses.Mark.TheVariants as mark
use Rattle.dme_line.specs.declared.responses.Response.{Response}
use Rattle.dme_line.specs.declared.responses.NotResponse.{NotResponse}
use Rattle.dme_line.specs.declared.points.NotPoint.{NotPoint}
use Rattle.dme_line.specs.declared.homed.NotHomedText.{NotHomedText}
use Rattle.protocol_model.specs.Readings.{command_of, response_of, point_of, homed_of}
use Rattle.contact_ledger.specs.declared.features.Feature.{Feature}
use Rattle.line_framing.specs.Next.{Front, next_of}
use Rattle.line_framing.specs.Framing.{Framing, no_bytes, fed, left_by}
use Rattle.line_framing.specs.declared.faults.FramingFault.TheVariants as framing
use Rattle.protocol_model.specs.Replies.{Mark, tag_is}
use Rattle.protocol_model.specs.Lines.{command_bytes, reply_bytes, reading_of}
use Rattle.protocol_model.specs.Client.{Client, Sends, new_client, faulted, client_connected, client_sent, client_aborted, client_resumed}
use Rattle.protocol_model.specs.Client.{client_read, client_left, client_restarted}
use Rattle.protocol_model.specs.Server.{Server, Answer, new_server, server_accepted, server_read, server_turned, server_machined}
use Rattle.protocol_model.specs.Server.{server_left, server_restarted}
use Rattle.protocol_model.specs.declared.states.Cause.{Cause}
use Rattle.protocol_model.specs.declared.held.Datum.TheVariants as datum
use Rattle.protocol_model.specs.declared.held.OpenCommand.{OpenCommand}
use Rattle.protocol_model.specs.declared.machine.Outcome.{Outcome}

-- ---- the client's end

-- a client, the bytes that it was fed and has not read, and those that are to be sent
pub record ClientEnd : Type 0 where
  pub client : Client
  pub input : Framing
  pub out : List ℕ

-- a client that was never on a connection, with no bytes
abbrev pub new_client_end : Meaning → List Feature → ℕ → ClientEnd
new_client_end p fs window = record { client = new_client p fs window; input = no_bytes; out = [] }

-- on a new connection no byte is left of the one before
abbrev pub end_connected : ℕ → ClientEnd → ClientEnd
end_connected n e = record { client = client_connected n e.client; input = no_bytes; out = [] }

-- what is written joins the bytes that are to be sent
abbrev pub with_lines : ClientEnd → Sends → ClientEnd
with_lines e s = record { client = s.client; input = e.input; out = e.out ++ command_bytes s.lines }

-- what is due is written
abbrev pub end_sent : ClientEnd → ClientEnd
end_sent e = with_lines e (client_sent e.client)

-- an abort is written
abbrev pub end_aborted : ClientEnd → ClientEnd
end_aborted e = with_lines e (client_aborted e.client)

-- bytes come from the connection
abbrev pub end_fed : List ℕ → ClientEnd → ClientEnd
end_fed bytes e = record e { input = fed e.input bytes }

-- the kind of the first command that is held under a tag
abbrev pub held_kind : Tag → List OpenCommand → Option Kind
held_kind t [] = None
held_kind t (h ∷ hs) = if tag_is h.tag t then Some h.kind else held_kind t hs

-- the kind of the command that is held under a tag of either sort
abbrev pub held_under : Tag → Client → Option Kind
held_under (Std n) c = held_kind (Std n) c.table.standard
held_under (Event n) c = held_kind (Event n) c.table.event

-- a data text under the tag of a touch: it is read as a point
abbrev pub given_point : Client → Tag → Result Point NotPoint → Client
given_point c t (Ok p) = client_read c t (Mark.Given (datum.Point p))
given_point c t (Err why) = faulted Cause.NotResponse c

-- a data text under the tag of an IsHomed: it is read as what that asks
abbrev pub given_homed : Client → Tag → Result Bool NotHomedText → Client
given_homed c t (Ok homed) = client_read c t (Mark.Given (datum.Homed homed))
given_homed c t (Err why) = faulted Cause.NotResponse c

-- a data text for a command of this kind: it is unexpected if the command asks for no data
abbrev pub given_for : Client → Tag → List ℕ → Kind → Client
given_for c t text kind.PtMeas = given_point c t (point_of text)
given_for c t text kind.IsHomed = given_homed c t (homed_of text)
given_for c t text _ = faulted Cause.OutOfOrder c

-- a data text for the command that is held under its tag, if one is
abbrev pub given_under : Client → Tag → List ℕ → Option Kind → Client
given_under c t text None = faulted Cause.UnknownTag c
given_under c t text (Some kind) = given_for c t text kind

-- a data text under a tag; what comes on the event tag number 0 changes nothing
abbrev pub given : Client → Tag → List ℕ → Client
given c t text = if tag_is t (Event 0) then c else given_under c t text (held_under t c)

-- a response is read
abbrev pub response_read : Client → Tag → Marked → Client
response_read c t mark.Ack = client_read c t Mark.Ack
response_read c t (mark.Given text) = given c t text
response_read c t mark.Done = client_read c t Mark.Done
response_read c t (mark.Error text) = client_read c t Mark.Error

-- a line is read as a response, or is not one
abbrev pub line_read : Client → Result Response NotResponse → Client
line_read c (Ok r) = response_read c r.tag r.mark
line_read c (Err refused) = faulted Cause.NotResponse c

-- what is at the start of the bytes: nothing whole, a line, or a fault, which ends the client's reading
abbrev pub front_read : Client → Front → Client
front_read c (Ok None) = c
front_read c (Ok (Some (line, rest))) = line_read c (response_of line)
front_read c (Err framing.LineTooLong) = faulted Cause.LineTooLong c
front_read c (Err framing.BadByte) = faulted Cause.BadByte c

-- what is at the front is read
abbrev pub end_read : ClientEnd → ClientEnd
end_read e = record {
  client = front_read e.client (next_of e.input.rest);
  input = left_by (next_of e.input.rest) e.input;
  out = e.out;
}

-- the plan is begun again on the same connection
abbrev pub end_resumed : ClientEnd → ClientEnd
end_resumed e = record e { client = client_resumed e.client }

-- the connection is left, and no byte of it is kept
abbrev pub end_left : ClientEnd → ClientEnd
end_left e = record { client = client_left e.client; input = no_bytes; out = [] }

-- a new client with the first k features, and no bytes
abbrev pub end_restarted : ℕ → ClientEnd → ClientEnd
end_restarted k e = record { client = client_restarted k e.client; input = no_bytes; out = [] }

-- the first bytes are sent
abbrev pub end_taken : ℕ → ClientEnd → ClientEnd
end_taken k e = record e { out = drop k e.out }

-- ---- the server's end

-- a server, the bytes that it was fed and has not read, and those that are to be sent
pub record ServerEnd : Type 0 where
  pub server : Server
  pub input : Framing
  pub out : List ℕ

-- a server that was never on a connection, with no bytes
abbrev pub new_server_end : List (List ℕ) → ServerEnd
new_server_end rack = record { server = new_server rack; input = no_bytes; out = [] }

-- a connection is taken
abbrev pub serving_accepted : ℕ → ServerEnd → ServerEnd
serving_accepted n e = record e { server = server_accepted n e.server }

-- bytes come from the connection
abbrev pub serving_fed : List ℕ → ServerEnd → ServerEnd
serving_fed bytes e = record e { input = fed e.input bytes }

-- what is answered joins the bytes that are to be sent
abbrev pub with_answer : ServerEnd → Framing → Answer → ServerEnd
with_answer e input a = record { server = a.server; input = input; out = e.out ++ reply_bytes a.said }

-- what is at the start of the bytes: nothing whole, a line, or a fault, after which nothing is read until the connection is left
abbrev pub front_served : ServerEnd → Front → ServerEnd
front_served e (Ok None) = e
front_served e (Ok (Some (line, rest))) = with_answer e (record (e.input) { rest = rest })
    (server_read e.server (reading_of (command_of line)))
front_served e (Err why) = record e { input = record (e.input) { fault = Some why } }

-- what is at the front is read
abbrev pub serving_read : ServerEnd → ServerEnd
serving_read e = front_served e (next_of e.input.rest)

-- the first waiting command is processed
abbrev pub serving_turned : ServerEnd → ServerEnd
serving_turned e = with_answer e e.input (server_turned e.server)

-- the machine is done with the running command
abbrev pub serving_machined : Outcome → ServerEnd → ServerEnd
serving_machined outcome e = with_answer e e.input (server_machined e.server outcome)

-- the connection is left, and no byte of it is kept
abbrev pub serving_left : ServerEnd → ServerEnd
serving_left e = record { server = server_left e.server; input = no_bytes; out = [] }

-- a restarted server keeps no byte
abbrev pub serving_restarted : ServerEnd → ServerEnd
serving_restarted e = record { server = server_restarted e.server; input = no_bytes; out = [] }

-- the first bytes are sent
abbrev pub serving_taken : ℕ → ServerEnd → ServerEnd
serving_taken k e = record e { out = drop k e.out }
