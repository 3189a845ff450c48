-- A server and a witness that reads each line of its connection as soon as the server has read or answered it (this profile).
use Rattle.std.specs.Prelude.{◌≡◌, ℕ, Bool, true, false, ◌||◌, if◌then◌else◌, List, [], ◌∷◌, ◌++◌, Result, Ok, Err}
use Rattle.dme_line.specs.declared.tags.Tag.{Tag}
use Rattle.dme_line.specs.declared.commands.Command.{Command}
use Rattle.dme_line.specs.declared.reading.LineFault.{LineFault}
use Rattle.dme_line.specs.declared.reading.LineFault.TheVariants as fault
use Rattle.line_framing.specs.Next.{next_of}
use Rattle.protocol_model.specs.Readings.{command_of}
use Rattle.protocol_model.specs.Replies.{Reply}
use Rattle.protocol_model.specs.Lines.{reading_of, reply_texts}
use Rattle.protocol_model.specs.Server.{Server, runs_under, waits_under, server_read, server_turned, server_machined, may_end}
use Rattle.protocol_model.specs.Ends.{ServerEnd, serving_accepted}
use Rattle.server_core.specs.Serving.{may_accept, may_turn}
use Rattle.server_core.specs.Calls.{Call, ReadOne, Turn, Machine, Leave, Restart, Sent, behind_call, behind_calls, reached, gives_up}
use Rattle.witness.specs.Dialogues.{Dialogue, silence}
use Rattle.witness.specs.Watching.{client_lines, server_lines}
use Rattle.witness.specs.declared.lines.Reported.{Reported}
use Rattle.contact_ledger.specs.declared.acts.Act.{Act}
use Rattle.protocol_model.specs.Claims.{acts_on}
use Rattle.line_framing.specs.Calls.{line_in}

-- ---- the lines of a call

-- the line of the client that a call reads, if it reads one
abbrev pub line_read : Call → ServerEnd → List (List ℕ)
line_read ReadOne e = if e.server.on then line_in (next_of e.input.rest) else []
line_read _ e = []

-- the lines of the client that calls read
abbrev pub all_read : List Call → ServerEnd → List (List ℕ)
all_read [] e = []
all_read (call ∷ calls) e = line_read call e ++ all_read calls (behind_call call e)

-- what a server answers to a line, if there is one
abbrev pub replies : Server → List (List ℕ) → List Reply
replies s [] = []
replies s (line ∷ lines) = (server_read s (reading_of (command_of line))).said

-- what a call answers
abbrev pub answered : Call → ServerEnd → List Reply
answered ReadOne e = replies e.server (line_read ReadOne e)
answered Turn e = if may_turn e.server then (server_turned e.server).said else []
answered (Machine ended) e = if may_end e.server.running ended then (server_machined e.server ended).said else []
answered _ e = []

-- a call that takes none of the bytes that are to be sent
abbrev pub keeps_out : Call → Bool
keeps_out Leave = false
keeps_out Restart = false
keeps_out (Sent count) = false
keeps_out _ = true

-- ---- the witness

-- it reads the line that a call reads, and then the written lines that the call answers
abbrev pub seen : Call → ServerEnd → Dialogue → Dialogue
seen call e d = server_lines (client_lines d (line_read call e)) (reply_texts (answered call e))

-- it does so for each of these calls
abbrev pub all_seen : List Call → ServerEnd → Dialogue → Dialogue
all_seen [] e d = d
all_seen (call ∷ calls) e d = all_seen calls (behind_call call e) (seen call e d)

-- ---- the course of one connection

-- a server that takes a connection after any calls
abbrev pub taking : List (List ℕ) → List Call → ℕ → ServerEnd
taking tools before n = serving_accepted n (reached tools before)

-- what the witness has reported after calls on it, and the acts that were done on it; whether it takes the order between the two ends for known
abbrev pub reported : Bool → List Call → ServerEnd → List Reported
reported ordered calls e = (all_seen calls e (silence ordered)).reported

abbrev pub acts_after : ℕ → List Call → ServerEnd → List Act
acts_after n calls e = acts_on n (behind_calls calls e).server.ledger

-- a line is under a tag of a command that runs or waits
abbrev pub uses_again : Server → Result (Tag × Command) LineFault → Bool
uses_again s (Ok (tag, command)) = runs_under tag s.running || waits_under tag s.waiting
uses_again s (Err fault.NoTag) = false
uses_again s (Err (fault.UnknownCommand tag)) = runs_under tag s.running || waits_under tag s.waiting
uses_again s (Err (fault.BadArguments tag kind)) = runs_under tag s.running || waits_under tag s.waiting

-- no line is under such a tag
abbrev pub AreAnew : Server → List (List ℕ) → Type 0
AreAnew s [] = Unit {0}
AreAnew s (line ∷ lines) = uses_again s (command_of line) ≡ false

-- the calls do not leave the connection, and each line that they read is under a tag under which no command runs or waits then
abbrev pub IsCourse : List Call → ServerEnd → Type 0
IsCourse [] e = Unit {0}
IsCourse (call ∷ calls) e = (gives_up call ≡ false) × AreAnew e.server (line_read call e) × IsCourse calls (behind_call call e)

-- a server takes connection n after any calls, and these are a course of it
pub data TakesCourse : ℕ → ServerEnd → List Call → Type 0 where
  takes : (tools : List (List ℕ)) (before : List Call) (n : ℕ) (calls : List Call) → may_accept n (reached tools before).server ≡ true
      → IsCourse calls (taking tools before n) → TakesCourse n (taking tools before n) calls
