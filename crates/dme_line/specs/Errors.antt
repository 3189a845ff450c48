-- Error texts (this profile; their form: I++ DME Interface version 1).
use Rattle.std.specs.Prelude.{ℕ, ◌==◌, List, [], ◌∷◌, ◌++◌, codes, Option, Some, None, find}
use Rattle.dme_line.specs.Words.{quoted}
use Rattle.dme_line.specs.Tags.{four_digits, written_tag}
use Rattle.dme_line.specs.Kinds.{kind_name}
use Rattle.dme_line.specs.declared.tags.Tag.{Tag}
use Rattle.dme_line.specs.declared.commands.Kind.{Kind}
use Rattle.dme_line.specs.declared.errors.ErrorNumber.{ErrorNumber}
use Rattle.dme_line.specs.declared.errors.ErrorNumber.TheVariants.{NoTag, TagInUse, UnknownCommand, BadArguments, NoSession, SessionOpen}
use Rattle.dme_line.specs.declared.errors.ErrorNumber.TheVariants.{Aborted, ErrorState, QueueFull, NotHomed, NoTool, UnknownTool}
use Rattle.dme_line.specs.declared.errors.ErrorNumber.TheVariants.{OutOfVolume, NoSurface, MachineFault}
use Rattle.dme_line.specs.declared.responses.Mark.TheVariants.{Error}
use Rattle.dme_line.specs.declared.responses.Response.{Response}

-- the number of each error
abbrev pub number_of : ErrorNumber → ℕ
number_of NoTag = 9001
number_of TagInUse = 9002
number_of UnknownCommand = 9003
number_of BadArguments = 9004
number_of NoSession = 9005
number_of SessionOpen = 9006
number_of Aborted = 9007
number_of ErrorState = 9008
number_of QueueFull = 9009
number_of NotHomed = 9010
number_of NoTool = 9011
number_of UnknownTool = 9012
number_of OutOfVolume = 9013
number_of NoSurface = 9014
number_of MachineFault = 9015

-- what each error says
abbrev pub text_of : ErrorNumber → List ℕ
text_of NoTag = codes "No tag"
text_of TagInUse = codes "Tag in use"
text_of UnknownCommand = codes "Unknown command"
text_of BadArguments = codes "Bad arguments"
text_of NoSession = codes "No session"
text_of SessionOpen = codes "Session open"
text_of Aborted = codes "Aborted"
text_of ErrorState = codes "Error state"
text_of QueueFull = codes "Queue full"
text_of NotHomed = codes "Not homed"
text_of NoTool = codes "No tool"
text_of UnknownTool = codes "Unknown tool"
text_of OutOfVolume = codes "Out of volume"
text_of NoSurface = codes "No surface"
text_of MachineFault = codes "Machine fault"

-- all errors
abbrev pub errors : List ErrorNumber
errors = NoTag ∷ TagInUse ∷ UnknownCommand ∷ BadArguments ∷ NoSession ∷ SessionOpen ∷ Aborted ∷ ErrorState ∷ QueueFull ∷ NotHomed ∷ NoTool
    ∷ UnknownTool ∷ OutOfVolume ∷ NoSurface ∷ MachineFault ∷ []

-- the error of a number, where there is one
unfoldable pub numbered : ℕ → Option ErrorNumber
numbered code = find (λ e. number_of e == code) errors

-- what an error says, if there is one
abbrev pub said_of : Option ErrorNumber → List ℕ
said_of None = []
said_of (Some e) = text_of e

-- what the error of a number says; a number of no error says nothing
unfoldable pub error_text : ℕ → List ℕ
error_text code = said_of (numbered code)

-- the name of the command that failed, empty where it has none that is known
abbrev pub error_name : Option Kind → List ℕ
error_name None = []
error_name (Some kind) = kind_name kind

-- the text of an error: Error(3, number, "name", "text")
abbrev pub error_report : ℕ → Option Kind → List ℕ
error_report code kind = codes "Error(3, " ++ (four_digits code
    ++ (codes ", " ++ (quoted (error_name kind) ++ (codes ", " ++ (quoted (error_text code) ++ codes ")")))))

-- the line of an error, without its end
unfoldable pub written_error : Tag → ℕ → Option Kind → List ℕ
written_error tag code kind = written_tag tag ++ (codes " ! " ++ error_report code kind)

-- the response that carries an error
abbrev pub error_response : Tag → ℕ → Option Kind → Response
error_response tag code kind = record { tag = tag; mark = Error (error_report code kind) }
