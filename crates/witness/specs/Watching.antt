-- The bytes of both ends of a connection, and what they report (this profile).
use Rattle.std.specs.Prelude.{◌≡◌, ◌<◌, ◌≤◌, ℕ, zero, suc, length, Bool, false, List, [], ◌∷◌, Some, None, Ok, Err}
use Rattle.line_framing.specs.Next.{Front, next_of}
use Rattle.line_framing.specs.Framing.{Framing, IsLineDue, no_bytes, fed}
use Rattle.witness.specs.Asking.{client_line, server_line}
use Rattle.witness.specs.Dialogues.{Dialogue, silence, after}

-- the bytes of each end that were fed and not read, and what the lines before them report
pub record Watching : Type 0 where
  pub up : Framing
  pub down : Framing
  pub dialogue : Dialogue

-- a connection without a byte; whether the order between the lines of its two ends is known
abbrev pub unwatched : Bool → Watching
unwatched ordered = record { up = no_bytes; down = no_bytes; dialogue = silence ordered }

-- the bytes of an end after what is at their front was read: of bytes that are no line nothing is kept, nor of what follows them
abbrev pub left_after : Front → Framing → Framing
left_after (Ok None) f = f
left_after (Ok (Some (line, rest))) f = record f { rest = rest }
left_after (Err fault) f = record { rest = []; fault = Some fault }

abbrev pub after_first : Framing → Framing
after_first f = left_after (next_of f.rest) f

-- the bytes that are kept of a line without its end, of at most 65,536 bytes and perhaps the CR of its end
abbrev pub IsFew : Framing → Type 0
IsFew f = length f.rest ≤ 65537

abbrev pub KeepsFew : Watching → Type 0
KeepsFew w = IsFew w.up × IsFew w.down

-- the first line of the client, if there is one
abbrev pub client_front : Dialogue → Front → Dialogue
client_front d (Ok None) = d
client_front d (Ok (Some (line, rest))) = after d (client_line line)
client_front d (Err fault) = d

abbrev pub server_front : Dialogue → Front → Dialogue
server_front d (Ok None) = d
server_front d (Ok (Some (line, rest))) = after d (server_line line)
server_front d (Err fault) = d

-- what is at the front of the client's bytes is read
abbrev pub client_read : Watching → Watching
client_read w = record { up = after_first w.up; down = w.down; dialogue = client_front w.dialogue (next_of w.up.rest) }

-- what is at the front of the server's bytes is read
abbrev pub server_read : Watching → Watching
server_read w = record { up = w.up; down = after_first w.down; dialogue = server_front w.dialogue (next_of w.down.rest) }

-- lines of one end, one after another
abbrev pub client_lines : Dialogue → List (List ℕ) → Dialogue
client_lines d [] = d
client_lines d (line ∷ lines) = client_lines (after d (client_line line)) lines

abbrev pub server_lines : Dialogue → List (List ℕ) → Dialogue
server_lines d [] = d
server_lines d (line ∷ lines) = server_lines (after d (server_line line)) lines

-- what two recordings report, between which there is no order: all lines of the client's are read, and then the server's
abbrev pub ledger : List (List ℕ) → List (List ℕ) → Dialogue
ledger up down = server_lines (client_lines (silence false) up) down

-- ---- all lines that are there

-- n lines of one end, one after another
abbrev pub client_times : ℕ → Watching → Watching
client_times zero w = w
client_times (suc n) w = client_read (client_times n w)

abbrev pub server_times : ℕ → Watching → Watching
server_times zero w = w
server_times (suc n) w = server_read (server_times n w)

-- the client's lines were read one after another, and the server's
abbrev pub ReadsClient : Watching → Watching → Type 0
ReadsClient old new = (n : ℕ) × (new ≡ client_times n old)

abbrev pub ReadsServer : Watching → Watching → Type 0
ReadsServer old new = (n : ℕ) × (new ≡ server_times n old)

-- likewise the client's, with at most that many of its lines open after each
pub data ReadsWithin (most : ℕ) (old : Watching) : Watching → Type 0 where
  at_first : ReadsWithin most old old
  then_one : (w : Watching) → ReadsWithin most old w → IsLineDue (next_of w.up.rest)
      → length (client_read w).dialogue.uses ≤ most → ReadsWithin most old (client_read w)

-- one line more, after which more are open
pub record IsFirstPast (most : ℕ) (old new : Watching) : Type 0 where
  pub before : Watching
  pub within : ReadsWithin most old before
  pub due : IsLineDue (next_of before.up.rest)
  pub read : new ≡ client_read before
  pub past : most < length new.dialogue.uses

-- all of them, and then a fault if one follows them
pub record AreAllWithin (most : ℕ) (old new : Watching) : Type 0 where
  pub before : Watching
  pub within : ReadsWithin most old before
  pub ended : IsLineDue (next_of before.up.rest) → ⊥
  pub read : new ≡ client_read before

-- a connection on which these bytes came
abbrev pub came : Bool → List ℕ → List ℕ → Watching
came ordered up down = record { up = fed no_bytes up; down = fed no_bytes down; dialogue = silence ordered }

-- all lines of these bytes were read: first the client's, then the server's
pub record AreAllRead (ordered : Bool) (up down : List ℕ) (w : Watching) : Type 0 where
  pub between : Watching
  pub client : ReadsClient (came ordered up down) between
  pub server : ReadsServer between w
  pub client_ended : IsLineDue (next_of between.up.rest) → ⊥
  pub server_ended : IsLineDue (next_of w.down.rest) → ⊥
