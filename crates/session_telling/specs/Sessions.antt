-- What a client sent on a connection, and what its server's errors are about.
use Rattle.std.specs.Prelude.{◌≡◌, ℕ, Bool, true, false, if◌then◌else◌, ◌+◌, ◌-◌, ◌^◌, min, cond, List, [], ◌∷◌, ◌++◌, Option, Result, Ok, Err, find, length, reverse, slice_get}
use Rattle.std.specs.Option.{option_map_or}
use Rattle.dme_line.specs.Kinds.{kind_of}
use Rattle.dme_line.specs.CommandText.{ReadsCommand}
use Rattle.dme_line.specs.Responses.{IsResponseLine}
use Rattle.dme_line.specs.declared.commands.Command.{Command}
use Rattle.dme_line.specs.declared.commands.Kind.{Kind}
use Rattle.dme_line.specs.declared.commands.Kind.TheVariants.{GoTo, PtMeas, ChangeTool, SetCsyTransformation, SetCoordSystem}
use Rattle.dme_line.specs.declared.reading.LineFault.{LineFault}
use Rattle.dme_line.specs.declared.responses.Mark.TheVariants.{Error}
use Rattle.dme_line.specs.declared.tags.Tag.{Tag}
use Rattle.protocol_model.specs.Replies.{tag_is}
use Rattle.session_telling.specs.declared.sessions.Sent.{Sent}

-- how many touches were sent, as far as 64 bits count them
abbrev pub touches_of : List Sent → ℕ
touches_of sent = option_map_or (λ s. s.touches) (slice_get sent (length sent - 1)) 0

-- one more for a touch
abbrev pub touches_with : ℕ → Kind → ℕ
touches_with count PtMeas = min (count + 1) (2 ^ 64 - 1)
touches_with count _ = count

-- whether a command of this kind carries out a statement of a program: a move, a touch, or the selection of a tool or a frame
abbrev pub is_task : Kind → Bool
is_task GoTo = true
is_task PtMeas = true
is_task ChangeTool = true
is_task SetCsyTransformation = true
is_task SetCoordSystem = true
is_task _ = false

-- how many such commands were sent, as far as 64 bits count them
abbrev pub tasks_of : List Sent → ℕ
tasks_of sent = option_map_or (λ s. s.tasks) (slice_get sent (length sent - 1)) 0

-- one more for such a command
abbrev pub tasks_with : ℕ → Kind → ℕ
tasks_with count kind = if is_task kind then min (count + 1) (2 ^ 64 - 1) else count

-- the commands with one more
abbrev pub with_command : List Sent → Tag → Kind → List Sent
with_command sent tag kind =
    sent ++ record { tag = tag; kind = kind; touches = touches_with (touches_of sent) kind; tasks = tasks_with (tasks_of sent) kind } ∷ []

-- the commands after a line of the client: one more if the line is a command
abbrev pub after_line : List Sent → Result (Tag × Command) LineFault → List Sent
after_line sent (Ok (tag, command)) = with_command sent tag (kind_of command)
after_line sent (Err fault) = sent

-- a line of the client adds its command
pub record Adds (line : List ℕ) (before after : List Sent) : Type 0 where
  pub reading : Result (Tag × Command) LineFault
  pub read : ReadsCommand line reading
  pub added : after ≡ after_line before reading

-- the last command that was sent under a tag
abbrev pub last_under : Tag → List Sent → Option Sent
last_under tag sent = find (λ s. tag_is s.tag tag) (reverse sent)

-- a line of the server reports this error under this tag, about this command
pub record Reports (sent : List Sent) (line : List ℕ) (tag : Tag) (about : Option Sent) (text : List ℕ) : Type 0 where
  pub read : IsResponseLine line (record { tag = tag; mark = Error text })
  pub under : about ≡ last_under tag sent

-- a line of the server reports no error
abbrev pub ReportsNothing : List ℕ → Type 0
ReportsNothing line = (tag : Tag) (text : List ℕ) → IsResponseLine line (record { tag = tag; mark = Error text }) → ⊥
