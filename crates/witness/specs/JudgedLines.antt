-- What a line of either end is, by what it reads as (this profile).
use Rattle.std.specs.Prelude.{ℕ, Bool, List, drop, codes, nat_eq, Result, Ok, Err, if◌then◌else◌}
use Rattle.std.specs.List.{starts_with}
use Rattle.fixed_um.specs.declared.lengths.Point.{Point}
use Rattle.dme_line.specs.Kinds.{kind_of}
use Rattle.dme_line.specs.declared.tags.Tag.{Tag}
use Rattle.dme_line.specs.declared.commands.Command.{Command}
use Rattle.dme_line.specs.declared.reading.LineFault.{LineFault}
use Rattle.dme_line.specs.declared.reading.LineFault.TheVariants.{NoTag, UnknownCommand, BadArguments}
use Rattle.dme_line.specs.declared.responses.Mark.{Mark}
use Rattle.dme_line.specs.declared.responses.Mark.TheVariants as mark
use Rattle.dme_line.specs.declared.responses.Response.{Response}
use Rattle.dme_line.specs.declared.responses.NotResponse.{NotResponse}
use Rattle.dme_line.specs.declared.points.NotPoint.{NotPoint}
use Rattle.dme_line.specs.declared.homed.NotHomedText.{NotHomedText}
use Rattle.protocol_model.specs.Readings.{command_of, response_of, point_of, homed_of}
use Rattle.witness.specs.Asking.{is_asking}
use Rattle.witness.specs.declared.judged_lines.Data.{Data}
use Rattle.witness.specs.declared.judged_lines.Data.TheVariants as data_is
use Rattle.witness.specs.declared.judged_lines.Heard.{Heard}
use Rattle.witness.specs.declared.judged_lines.Heard.TheVariants as heard
use Rattle.witness.specs.declared.judged_lines.Reply.{Reply}
use Rattle.witness.specs.declared.judged_lines.Reply.TheVariants as reply
use Rattle.witness.specs.declared.judged_lines.Severity.{Severity}
use Rattle.witness.specs.declared.judged_lines.Severity.TheVariants as severity
use Rattle.witness.specs.declared.judged_lines.Sent.{Sent}
use Rattle.witness.specs.declared.judged_lines.Sent.TheVariants as sent

-- ---- a line of the client

-- a name that this profile does not know; it follows a tag and a space, which take six bytes
abbrev pub unknown_as : Bool → Tag → Sent
unknown_as harmless tag = if harmless then sent.Standard tag else sent.Unknown tag

-- a line by what it reads as
abbrev pub sent_as : List ℕ → Result (Tag × Command) LineFault → Sent
sent_as line (Ok (tag, command)) = sent.Command tag (kind_of command)
sent_as line (Err NoTag) = sent.Untagged
sent_as line (Err (UnknownCommand tag)) = unknown_as (is_asking (drop 6 line)) tag
sent_as line (Err (BadArguments tag kind)) = sent.Unread tag kind

-- a line of the client
abbrev pub sent_of : List ℕ → Sent
sent_of line = sent_as line (command_of line)

-- ---- a line of the server

-- a data text, by what it reads as: no text is both
abbrev pub data_as : Result Point NotPoint → Result Bool NotHomedText → Data
data_as (Ok p) homed = data_is.Point
data_as (Err why) (Ok homed) = data_is.Homed
data_as (Err why) (Err also) = data_is.Other

abbrev pub data_of : List ℕ → Data
data_of text = data_as (point_of text) (homed_of text)

-- the severity of an error, by its text; that of this profile is 3
abbrev pub severity_of : List ℕ → Severity
severity_of text = if starts_with nat_eq text (codes "Error(3,") then severity.Three else severity.Other

abbrev pub reply_as : Mark → Reply
reply_as mark.Ack = reply.Received
reply_as (mark.Given text) = reply.Given (data_of text)
reply_as mark.Done = reply.Complete
reply_as (mark.Error text) = reply.Error (severity_of text)

-- a line by what it reads as
abbrev pub heard_as : Result Response NotResponse → Heard
heard_as (Ok r) = heard.Response r.tag (reply_as r.mark)
heard_as (Err why) = heard.Other

-- a line of the server
abbrev pub heard_of : List ℕ → Heard
heard_of line = heard_as (response_of line)
