-- Lines as bytes: what is written of commands and replies, and how they are read (I++ DME Interface version 1; the texts of errors are this
-- profile's).
use Rattle.std.specs.Prelude.{ℕ, Bool, List, [], ◌∷◌, Result, Ok, Err}
use Rattle.fixed_um.specs.declared.lengths.Point.{Point}
use Rattle.dme_line.specs.Points.{written_point}
use Rattle.dme_line.specs.Homed.{written_homed}
use Rattle.dme_line.specs.Written.{written_command}
use Rattle.dme_line.specs.Responses.{written_response}
use Rattle.dme_line.specs.Errors.{written_error}
use Rattle.dme_line.specs.declared.tags.Tag.{Tag}
use Rattle.dme_line.specs.declared.commands.Command.{Command}
use Rattle.dme_line.specs.declared.reading.LineFault.{LineFault}
use Rattle.dme_line.specs.declared.responses.Mark.TheVariants as mark
use Rattle.line_framing.specs.Content.{line_bytes}
use Rattle.protocol_model.specs.Replies.{Reading, Reply}
use Rattle.protocol_model.specs.declared.held.Datum.{Datum}
use Rattle.protocol_model.specs.declared.held.Datum.TheVariants as datum
use Rattle.protocol_model.specs.declared.lines.Line.{Line}

-- the line of a command, without its end
abbrev pub command_text : Line → List ℕ
command_text l = written_command l.tag l.command

-- the text of a data line
abbrev pub written_datum : Datum → List ℕ
written_datum (datum.Point p) = written_point p
written_datum (datum.Homed homed) = written_homed homed

-- the line of a reply, without its end
abbrev pub reply_text : Reply → List ℕ
reply_text (Reply.Ack t) = written_response (record { tag = t; mark = mark.Ack })
reply_text (Reply.Given t d) = written_response (record { tag = t; mark = mark.Given (written_datum d) })
reply_text (Reply.Done t) = written_response (record { tag = t; mark = mark.Done })
reply_text (Reply.Error t code name) = written_error t code name

-- the lines of commands, and those of replies
abbrev pub command_texts : List Line → List (List ℕ)
command_texts [] = []
command_texts (l ∷ ls) = command_text l ∷ command_texts ls

-- the lines of replies
abbrev pub reply_texts : List Reply → List (List ℕ)
reply_texts [] = []
reply_texts (r ∷ rs) = reply_text r ∷ reply_texts rs

-- lines one after another, each with CR LF
abbrev pub command_bytes : List Line → List ℕ
command_bytes ls = line_bytes (command_texts ls)

-- likewise for replies
abbrev pub reply_bytes : List Reply → List ℕ
reply_bytes rs = line_bytes (reply_texts rs)

-- what the server reads of a line
abbrev pub reading_of : Result (Tag × Command) LineFault → Reading
reading_of (Ok (tag, command)) = Ok (record { tag = tag; command = command })
reading_of (Err why) = Err why
