-- Streams of written lines (I++ DME Interface version 1).
use Rattle.std.specs.Prelude.{◌≡◌, ℕ, List, [], ◌∷◌, ◌++◌, map, Some, None, Ok, Err}
use Rattle.line_framing.specs.Content.{line_bytes}
use Rattle.line_framing.specs.Next.{Front}
use Rattle.dme_line.specs.declared.tags.Tag.{Tag}
use Rattle.dme_line.specs.declared.commands.Command.{Command}
use Rattle.dme_line.specs.declared.responses.Response.{Response}
use Rattle.dme_line.specs.Written.{written_command, IsWritable}
use Rattle.dme_line.specs.CommandText.{ReadsCommand}
use Rattle.dme_line.specs.Responses.{written_response, IsWritableResponse, ReadsResponse}

-- a command under its tag
pub record Sent : Type 0 where
  pub tag : Tag
  pub command : Command

-- how a kind of message is on a line: which of them can be written, their text, and what a line says
pub record Wording (X : Type 0) : Type 1 where
  pub May : X → Type 0
  pub text : X → List ℕ
  pub Reads : List ℕ → X → Type 0

-- commands under their tags
abbrev pub commands : Wording Sent
commands = record {
  May = λ s. IsWritable s.tag s.command;
  text = λ s. written_command s.tag s.command;
  Reads = λ line s. ReadsCommand line (Ok (s.tag, s.command));
}

-- responses
abbrev pub responses : Wording Response
responses = record { May = IsWritableResponse; text = written_response; Reads = λ line r. ReadsResponse line (Ok r) }

-- each of them can be written
abbrev pub AreWritable : {X : Type 0} → Wording X → List X → Type 0
AreWritable wording [] = Unit {0}
AreWritable wording (x ∷ sent) = wording.May x × AreWritable wording sent

-- their written lines, each with its end
abbrev pub stream_of : {X : Type 0} → Wording X → List X → List ℕ
stream_of wording sent = line_bytes (map wording.text sent)

-- the line is that of the first and reads as it, and what is left, with what is to come, are the lines of the others
pub record IsFirst {X : Type 0} (wording : Wording X) (sent : List X) (more line left : List ℕ) : Type 0 where
  pub first : X
  pub others : List X
  pub parts : sent ≡ first ∷ others
  pub written : line ≡ wording.text first
  pub reads : wording.Reads line first
  pub behind : left ++ more ≡ stream_of wording others

-- what is at the start of such a stream: nothing whole yet, or the line of the first; never a fault
abbrev pub HandsFirst : {X : Type 0} → Wording X → List X → List ℕ → Front → Type 0
HandsFirst wording sent more (Ok None) = Unit {0}
HandsFirst wording sent more (Ok (Some (line, left))) = IsFirst wording sent more line left
HandsFirst wording sent more (Err fault) = ⊥
