-- A witness that reads lines of the server before the client does (this profile).
use Rattle.std.specs.Prelude.{◌≡◌, ℕ, Bool, true, false, if◌then◌else◌, List, [], ◌∷◌, ◌++◌, drop, length, Some, None, Ok, Err}
use Rattle.std.specs.List.{list_any}
use Rattle.line_framing.specs.Next.{Front, next_of}
use Rattle.protocol_model.specs.Client.{client_sent, client_aborted}
use Rattle.protocol_model.specs.Ends.{ClientEnd}
use Rattle.protocol_model.specs.Lines.{command_texts}
use Rattle.protocol_model.specs.declared.lines.Line.{Line}
use Rattle.witness.specs.Asking.{server_line}
use Rattle.witness.specs.Dialogues.{Dialogue, silence, after}
use Rattle.witness.specs.Watching.{client_lines}
use Rattle.client_core.specs.Calls.{Call, Connected, Send, ReadOne, Abort, possible, behind_call, behind_calls}
use Rattle.witness_laws.specs.Orders.{answers}
use Rattle.witness_laws.specs.Lines.{IsOurClient, unasked_call}
use Rattle.witness_laws.specs.Visits.{stays}

-- a call of the client, or a line of the server that the witness reads before the client does
pub data Turn : Type 0 where
  Calls : Call → Turn
  Comes : List ℕ → Turn

-- a client, its witness, and the lines that the witness has read and the client has not
pub record Watched : Type 0 where
  pub client : ClientEnd
  pub dialogue : Dialogue
  pub ahead : List (List ℕ)

-- the commands that a call writes
abbrev pub written_by : Call → ClientEnd → List Line
written_by Send e = (client_sent e.client).lines
written_by Abort e = (client_aborted e.client).lines
written_by _ e = []

-- the line that is at the front
abbrev pub line_at : Front → List (List ℕ)
line_at (Ok None) = []
line_at (Ok (Some (line, rest))) = line ∷ []
line_at (Err fault) = []

-- the line that a call reads
abbrev pub read_by : Call → ClientEnd → List (List ℕ)
read_by ReadOne e = line_at (next_of e.input.rest)
read_by _ e = []

-- after a call that is possible: the witness reads what the client writes, and had read what the client reads
abbrev pub called : Call → Watched → Watched
called call w = record {
  client = behind_call call w.client;
  dialogue = client_lines w.dialogue (command_texts (written_by call w.client));
  ahead = drop (length (read_by call w.client)) w.ahead;
}

abbrev pub after_turn : Turn → Watched → Watched
after_turn (Calls call) w = if possible call w.client then called call w else w
after_turn (Comes line) w = record {
  client = w.client;
  dialogue = after w.dialogue (server_line line);
  ahead = w.ahead ++ line ∷ [];
}

abbrev pub after_turns : List Turn → Watched → Watched
after_turns [] w = w
after_turns (turn ∷ turns) w = after_turns turns (after_turn turn w)

-- no line that the witness has read ahead is under the tag of one of these commands
abbrev pub AreUnanswered : List Line → List (List ℕ) → Type 0
AreUnanswered [] ahead = Unit {0}
AreUnanswered (l ∷ ls) ahead = (list_any (answers l.tag) ahead ≡ false) × AreUnanswered ls ahead

-- a call is on the connection, it reads the line that the witness read first of those ahead, and no command that it writes was answered
pub record IsCausalCall (call : Call) (w : Watched) : Type 0 where
  pub on : stays call ≡ true
  pub later : List (List ℕ)
  pub first : w.ahead ≡ read_by call w.client ++ later
  pub unanswered : AreUnanswered (written_by call w.client) w.ahead

abbrev pub IsCausalTurn : Turn → Watched → Type 0
IsCausalTurn (Calls call) w = possible call w.client ≡ true → IsCausalCall call w
IsCausalTurn (Comes line) w = Unit {0}

-- each turn does
abbrev pub AreCausal : List Turn → Watched → Type 0
AreCausal [] w = Unit {0}
AreCausal (turn ∷ turns) w = IsCausalTurn turn w × AreCausal turns (after_turn turn w)

-- whether the client read a line that belongs to no command, or one came before
abbrev pub unasked_turn : Turn → Watched → Bool → Bool
unasked_turn (Calls call) w came = unasked_call call w.client came
unasked_turn (Comes line) w came = came

abbrev pub unasked_turns : List Turn → Watched → Bool → Bool
unasked_turns [] w came = came
unasked_turns (turn ∷ turns) w came = unasked_turns turns (after_turn turn w) (unasked_turn turn w came)

-- a connection is begun, of which the witness has read nothing; the first argument: the order between the two ends is known to it
abbrev pub begun_on : Bool → ℕ → ClientEnd → Watched
begun_on ordered n e = record { client = behind_call (Connected n) e; dialogue = silence ordered; ahead = [] }

-- it is so after any calls of a client of ours
pub data IsBegun : Watched → Type 0 where
  connected : (ordered : Bool) (n : ℕ) (calls : List Call) (e : ClientEnd) → IsOurClient e → possible (Connected n) (behind_calls calls e) ≡ true
      → IsBegun (begun_on ordered n (behind_calls calls e))
