-- The lines of both ends of a connection in the order in which they are read, and what is asked of such an order (this profile).
use Rattle.std.specs.Prelude.{◌≡◌, ℕ, suc, ◌≤◌, Bool, true, false, ◌&&◌, ◌||◌, if◌then◌else◌, List, [], ◌∷◌, ◌++◌, Option, Some, None, Result, Ok, Err}
use Rattle.std.specs.List.{list_any}
use Rattle.dme_line.specs.declared.tags.Tag.{Tag}
use Rattle.dme_line.specs.declared.responses.Response.{Response}
use Rattle.dme_line.specs.declared.responses.NotResponse.{NotResponse}
use Rattle.protocol_model.specs.Readings.{command_of, response_of}
use Rattle.protocol_model.specs.Replies.{tag_is}
use Rattle.witness.specs.Asking.{sent, client_line, server_line, Signal, Error, signal_of}
use Rattle.witness.specs.Dialogues.{Dialogue, after, foreign_event, silence}
use Rattle.witness.specs.Known.{frame_of, tool_of}
use Rattle.witness.specs.Marks.{is_end}
use Rattle.witness.specs.Rules.{is_at_once}
use Rattle.witness.specs.declared.lines.Reported.{Reported}
use Rattle.witness.specs.declared.lines.SentCommand.{SentCommand}
use Rattle.witness.specs.declared.lines.Use.{Use}

-- a line of the client, or of the server
pub data Line : Type 0 where
  Up : List ℕ → Line
  Down : List ℕ → Line

-- a line is read
abbrev pub said : Dialogue → Line → Dialogue
said d (Up line) = after d (client_line line)
said d (Down line) = after d (server_line line)

-- lines, one after another
abbrev pub said_all : Dialogue → List Line → Dialogue
said_all d [] = d
said_all d (line ∷ lines) = said_all (said d line) lines

-- the lines of the client
abbrev pub ups : List Line → List (List ℕ)
ups [] = []
ups (Up line ∷ lines) = line ∷ ups lines
ups (Down line ∷ lines) = ups lines

-- the lines of the server
abbrev pub downs : List Line → List (List ℕ)
downs [] = []
downs (Up line ∷ lines) = downs lines
downs (Down line ∷ lines) = line ∷ downs lines

-- ---- tags

-- whether a command is open under a tag
abbrev pub is_open : Tag → List Use → Bool
is_open tag uses = list_any (λ u. tag_is u.tag tag) uses

-- whether what a line of the client asks is under a tag
abbrev pub is_under : Tag → Option (Tag × SentCommand) → Bool
is_under tag None = false
is_under tag (Some (used, what)) = tag_is used tag

abbrev pub sends : Tag → List ℕ → Bool
sends tag line = is_under tag (sent line (command_of line))

-- whether one of these lines of the client sends a command under a tag
abbrev pub some_sends : Tag → List (List ℕ) → Bool
some_sends tag lines = list_any (sends tag) lines

-- whether two of them do
abbrev pub two_send : Tag → List (List ℕ) → Bool
two_send tag [] = false
two_send tag (line ∷ lines) = (sends tag line && some_sends tag lines) || two_send tag lines

-- whether a line of the server is a response under a tag
abbrev pub is_of : Tag → Result Response NotResponse → Bool
is_of tag (Ok r) = tag_is tag r.tag
is_of tag (Err why) = false

abbrev pub answers : Tag → List ℕ → Bool
answers tag line = is_of tag (response_of line)

-- ---- lines that may be carried out at once

-- whether a line of the client may be carried out at once, whatever is in progress: it has no valid tag, or is a foreign one under an event tag
abbrev pub at_once_line : List ℕ → Bool
at_once_line line = is_at_once (sent line (command_of line))

abbrev pub some_at_once : List (List ℕ) → Bool
some_at_once lines = list_any at_once_line lines

-- ---- what is asked of an order

-- a response comes after its command: one is open under its tag, or the client sends none under it later. So it is of a report by event
abbrev pub IsBehind : List Use → List (List ℕ) → Result Response NotResponse → Type 0
IsBehind uses later (Ok r) = is_open r.tag uses ≡ false → some_sends r.tag later ≡ false
IsBehind uses later (Err why) = Unit {0}

-- each response that is read comes after its command; a line that is no response may be read at any time
abbrev pub IsCausal : Dialogue → List Line → Type 0
IsCausal d [] = Unit {0}
IsCausal d (Up line ∷ lines) = IsCausal (said d (Up line)) lines
IsCausal d (Down line ∷ lines) = IsBehind d.uses (ups lines) (response_of line) × IsCausal (said d (Down line)) lines

-- whether the command that was sent first of those that are open under a tag has failed
abbrev pub has_failed_under : Tag → List Use → Bool
has_failed_under tag [] = false
has_failed_under tag (u ∷ uses) = if tag_is u.tag tag then u.has_failed else has_failed_under tag uses

-- a response ends no command that has failed, or the client sends none under its tag later. With all lines of the client read first, the error
-- looks as if it may be for the later one
abbrev pub IsSure : List Use → List (List ℕ) → Result Response NotResponse → Type 0
IsSure uses later (Ok r) = is_end (signal_of r.mark) ≡ true → has_failed_under r.tag uses ≡ true → some_sends r.tag later ≡ false
IsSure uses later (Err why) = Unit {0}

-- so of each response; and no line of the client that may be carried out at once comes after one of the server
abbrev pub IsClear : Dialogue → List Line → Type 0
IsClear d [] = Unit {0}
IsClear d (Up line ∷ lines) = IsClear (said d (Up line)) lines
IsClear d (Down line ∷ lines) =
    (some_at_once (ups lines) ≡ false) × IsSure d.uses (ups lines) (response_of line) × IsClear (said d (Down line)) lines

abbrev pub IsCausalAndClear : Bool → List Line → Type 0
IsCausalAndClear ordered lines = IsCausal (silence ordered) lines × IsClear (silence ordered) lines

-- whether a line of the server is an error
abbrev pub is_error_signal : Signal → Bool
is_error_signal Error = true
is_error_signal _ = false

abbrev pub is_refusal : Result Response NotResponse → Bool
is_refusal (Ok r) = is_error_signal (signal_of r.mark)
is_refusal (Err why) = false

abbrev pub refuses : List ℕ → Bool
refuses line = is_refusal (response_of line)

-- ---- one command

-- the open commands are on lines of the client from one number on and before another, in their order
abbrev pub AreCounted : ℕ → List Use → ℕ → Type 0
AreCounted first [] next = first ≤ next
AreCounted first (u ∷ uses) next = (first ≤ u.line) × AreCounted (suc u.line) uses next

abbrev pub IsCounted : Dialogue → Type 0
IsCounted d = AreCounted 0 d.uses d.lines

-- a line of the client sends a command, which is not carried out at once, under a tag under which none is open
abbrev pub IsNew : List Use → Option (Tag × SentCommand) → Type 0
IsNew uses None = ⊥
IsNew uses (Some (tag, what)) = (foreign_event tag what ≡ false) × (is_open tag uses ≡ false)

abbrev pub IsFresh : List Use → List ℕ → Type 0
IsFresh uses line = IsNew uses (sent line (command_of line))

-- lines of the client that do so, one after another
abbrev pub AreFresh : Dialogue → List (List ℕ) → Type 0
AreFresh d [] = Unit {0}
AreFresh d (line ∷ lines) = IsFresh d.uses line × AreFresh (said d (Up line)) lines

-- ---- what is reported

-- two readings report the same, and know the same tool and frame
pub record Same (d e : Dialogue) : Type 0 where
  pub reported : d.reported ≡ e.reported
  pub tool : tool_of d.known ≡ tool_of e.known
  pub frame : frame_of d.known ≡ frame_of e.known

-- one list of what was reported is a prefix of another
pub record IsPrefix (first all : List Reported) : Type 0 where
  pub rest : List Reported
  pub parts : all ≡ first ++ rest
