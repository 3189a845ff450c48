-- What a line of a client asks for, and what a line of a server answers (this profile).
use Rattle.std.specs.Prelude.{ℕ, ◌==◌, Bool, false, ◌&&◌, ◌||◌, if◌then◌else◌, List, [], ◌∷◌, take, drop, codes, Option, Some, None, Result, Ok, Err}
use Rattle.std.specs.List.{prefix_len}
use Rattle.fixed_um.specs.declared.lengths.Point.{Point}
use Rattle.dme_line.specs.CommandText.{is_name_part}
use Rattle.dme_line.specs.Words.{is_word}
use Rattle.dme_line.specs.declared.tags.Tag.{Tag}
use Rattle.dme_line.specs.declared.commands.Command.{Command}
use Rattle.dme_line.specs.declared.homed.NotHomedText.{NotHomedText}
use Rattle.dme_line.specs.declared.points.NotPoint.{NotPoint}
use Rattle.dme_line.specs.declared.reading.LineFault.{LineFault}
use Rattle.dme_line.specs.declared.reading.LineFault.TheVariants.{NoTag, UnknownCommand, BadArguments}
use Rattle.dme_line.specs.declared.responses.Mark.{Mark}
use Rattle.dme_line.specs.declared.responses.Mark.TheVariants as mark
use Rattle.dme_line.specs.declared.responses.NotResponse.{NotResponse}
use Rattle.dme_line.specs.declared.responses.Response.{Response}
use Rattle.protocol_model.specs.Readings.{command_of, response_of, point_of, homed_of}
use Rattle.witness.specs.declared.lines.SentCommand.{SentCommand}
use Rattle.witness.specs.declared.lines.SentCommand.TheVariants.{Known, Asking, Foreign}

-- the name of a command, which ends before the first space or opening parenthesis, and what follows it
abbrev pub name_of : List ℕ → List ℕ
name_of text = take (prefix_len is_name_part text) text

abbrev pub after_name : List ℕ → List ℕ
after_name text = drop (prefix_len is_name_part text) text

-- an opening parenthesis comes first, after any number of spaces
abbrev pub opens : List ℕ → Bool
opens [] = false
opens (c ∷ cs) = if c == 32 then opens cs else c == 40

-- commands of the I++ DME Interface that ask for values
abbrev pub asks_value : List ℕ → Bool
asks_value name =
    is_word (codes "Get") name
    || (is_word (codes "GetProp") name
    || (is_word (codes "GetPropE") name
    || (is_word (codes "EnumProp") name
    || (is_word (codes "EnumAllProp") name
    || is_word (codes "OnMoveReportE") name))))

-- those that ask what a server is, and what went wrong
abbrev pub asks_state : List ℕ → Bool
asks_state name =
    is_word (codes "GetErrStatusE") name
    || (is_word (codes "GetXtdErrStatus") name
    || (is_word (codes "GetErrorInfo") name
    || (is_word (codes "GetDMEVersion") name
    || (is_word (codes "GetMachineClass") name
    || is_word (codes "IsUserEnabled") name))))

-- those that ask for tools and coordinate systems
abbrev pub asks_setting : List ℕ → Bool
asks_setting name =
    is_word (codes "EnumTools") name
    || (is_word (codes "FoundTool") name
    || (is_word (codes "GetChangeToolAction") name
    || (is_word (codes "GetCsyTransformation") name
    || (is_word (codes "GetCoordSystem") name
    || is_word (codes "EnumCoordSystem") name))))

-- a text after a tag and its space is a command that changes neither tool nor frame: its name in any case, with any number of spaces before its parenthesis
abbrev pub is_asking : List ℕ → Bool
is_asking text =
    (asks_value (name_of text) || (asks_state (name_of text) || asks_setting (name_of text))) && opens (after_name text)

-- a line with a tag, which takes six bytes with its space, and a name that this profile does not know
abbrev pub unknown : List ℕ → SentCommand
unknown line = if is_asking (drop 6 line) then Asking else Foreign line

-- a line by what it reads as, with its tag; None if it has no valid tag
abbrev pub sent : List ℕ → Result (Tag × Command) LineFault → Option (Tag × SentCommand)
sent line (Ok (tag, command)) = Some (tag, Known command)
sent line (Err NoTag) = None
sent line (Err (UnknownCommand tag)) = Some (tag, unknown line)
sent line (Err (BadArguments tag kind)) = Some (tag, Foreign line)

-- a mark, with what its data text reads as: a point, or whether the machine is homed
pub data Signal : Type 0 where
  Ack : Signal
  Given : Result Point NotPoint → Result Bool NotHomedText → Signal
  Done : Signal
  Error : Signal

abbrev pub signal_of : Mark → Signal
signal_of mark.Ack = Ack
signal_of (mark.Given text) = Given (point_of text) (homed_of text)
signal_of mark.Done = Done
signal_of (mark.Error text) = Error

-- a line by what it reads as, with its tag; None if it is no response
abbrev pub answered : Result Response NotResponse → Option (Tag × Signal)
answered (Ok r) = Some (r.tag, signal_of r.mark)
answered (Err why) = None

-- ---- lines

-- a line of the client, with what it asks for, or one of the server, with what it answers
pub data Line : Type 0 where
  Sends : List ℕ → Option (Tag × SentCommand) → Line
  Answers : List ℕ → Option (Tag × Signal) → Line

-- the bytes of a line of the client, and of one of the server
abbrev pub client_line : List ℕ → Line
client_line line = Sends line (sent line (command_of line))

abbrev pub server_line : List ℕ → Line
server_line line = Answers line (answered (response_of line))
