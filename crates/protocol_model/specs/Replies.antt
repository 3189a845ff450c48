-- Lines as values: what a client asks, what a server answers, and what a client hears of it (I++ DME Interface version 1).
use Rattle.std.specs.Prelude.{ℕ, ◌==◌, Bool, false, Option, Result}
use Rattle.dme_line.specs.declared.tags.Tag.{Tag}
use Rattle.dme_line.specs.declared.tags.Tag.TheVariants.{Std, Event}
use Rattle.dme_line.specs.declared.commands.Kind.{Kind}
use Rattle.dme_line.specs.declared.reading.LineFault.{LineFault}
use Rattle.protocol_model.specs.declared.held.Datum.{Datum}
use Rattle.protocol_model.specs.declared.lines.Line.{Line}

-- what a line of a client reads as
abbrev pub Reading : Type 0
Reading = Result Line LineFault

-- a line that a server answers: received, data, complete, or an error with its number and the command's name if it is known
pub data Reply : Type 0 where
  Ack : Tag → Reply
  Given : Tag → Datum → Reply
  Done : Tag → Reply
  Error : Tag → ℕ → Option Kind → Reply

-- what a client hears of a reply; the text of an error is not examined
pub data Mark : Type 0 where
  Ack : Mark
  Given : Datum → Mark
  Done : Mark
  Error : Mark

-- the tag that a reply answers
abbrev pub tag_of : Reply → Tag
tag_of (Ack t) = t
tag_of (Given t d) = t
tag_of (Done t) = t
tag_of (Error t code kind) = t

-- the mark of a reply
abbrev pub mark_of : Reply → Mark
mark_of (Ack t) = Mark.Ack
mark_of (Given t d) = Mark.Given d
mark_of (Done t) = Mark.Done
mark_of (Error t code kind) = Mark.Error

-- whether two tags are one
abbrev pub tag_is : Tag → Tag → Bool
tag_is (Std n) (Std m) = n == m
tag_is (Std n) (Event m) = false
tag_is (Event n) (Std m) = false
tag_is (Event n) (Event m) = n == m
