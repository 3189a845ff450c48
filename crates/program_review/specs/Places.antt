-- Where a text is refused, as it is shown (this profile).
use Rattle.std.specs.Prelude.{◌≡◌, ℕ, ⊤, List, [], ◌++◌, length, codes, decimal, Option, Some, None}
use Rattle.dmis_program.specs.declared.faults.ProgramFault.TheVariants as program
use Rattle.tool_rack.specs.declared.faults.SetupFault.TheVariants as setup
use Rattle.link_world.specs.declared.texts.schedule_faults.ScheduleFault.TheVariants as schedule
use Rattle.contact_ledger.specs.declared.faults.TextFault.TheVariants as text
use Rattle.record_text.specs.declared.faults.RecordFault.TheVariants as recorded
use Rattle.deviations.specs.declared.limit_faults.LimitsFault.TheVariants as limits
use Rattle.tool_rack.specs.declared.machine_faults.MachineFault.TheVariants as machine
use Rattle.program_review.specs.Lines.{line_of, shown_from}
use Rattle.program_review.specs.Windows.{shown_start}
use Rattle.program_review.specs.Words.{Caused}
use Rattle.program_review.specs.Reasons.{spot_of, IsProgramReason}
use Rattle.order_parts.specs.declared.faults.FilesFault.{FilesFault}
use Rattle.order_parts.specs.declared.faults.FilesFault.TheVariants.{Program, Setup, Schedule, Features, Contacts, Record, Limits, Machine, Unread, OtherProgram, BadSeal, EmptyKey, NotOurs, Write, Memory}

-- the number of the line that is refused; none if no file is refused at a line
abbrev pub number_of : FilesFault → Option ℕ
number_of (Program (program.Refused refusal line)) = Some line
number_of (Program program.Memory) = None
number_of (Setup (setup.BadLine line)) = Some line
number_of (Setup (setup.Twice line)) = Some line
number_of (Setup (setup.BadNumeral line)) = Some line
number_of (Setup setup.Memory) = None
number_of (Schedule (schedule.BadLine line)) = Some line
number_of (Schedule schedule.Memory) = None
number_of (Features (text.Damaged line)) = Some line
number_of (Features text.Memory) = None
number_of (Contacts (text.Damaged line)) = Some line
number_of (Contacts text.Memory) = None
number_of (Record (recorded.Damaged line)) = Some line
number_of (Record recorded.Memory) = None
number_of (Limits (limits.NotLimit line)) = Some line
number_of (Limits (limits.Twice line)) = Some line
number_of (Limits (limits.EmptyRange line)) = Some line
number_of (Limits limits.Memory) = None
number_of (Machine (machine.BadLine line)) = Some line
number_of (Machine (machine.Twice line)) = Some line
number_of (Machine machine.Memory) = None
number_of (Unread role) = None
number_of (OtherProgram label) = None
number_of (BadSeal line) = Some line
number_of EmptyKey = None
number_of NotOurs = None
number_of Write = None
number_of Memory = None

-- a file's name with a number, what is shown of the line, and a sentence about it
abbrev pub place_text : List ℕ → ℕ → List ℕ → List ℕ → List ℕ
place_text name number line said = name ++ (codes ":" ++ (decimal number ++ (codes ": " ++ (line ++ (codes "\n" ++ (said ++ codes "\n"))))))

-- the cause of a refusal of line n, and the word at fault
abbrev pub IsReason : FilesFault → List ℕ → ℕ → Caused → Type 0
IsReason (Program (program.Refused refusal line)) bytes n why = IsProgramReason refusal (spot_of bytes n) why
IsReason _ bytes n why = ⊤

-- what is shown of a line, so that the word at fault is seen
abbrev pub shown_for : Caused → List ℕ → List ℕ
shown_for why line = shown_from (shown_start (length line) why.at why.len) line

-- what is shown is the line of this number, with its file's name and a sentence on the cause
pub record IsPlace (fault : FilesFault) (name : List ℕ) (bytes : List ℕ) (number : ℕ) (shown : List ℕ) : Type 0 where
  pub why : Caused
  pub sentence : List ℕ
  pub is_reason : IsReason fault bytes number why
  pub whole : shown ≡ place_text name number (shown_for why (line_of number bytes)) sentence

-- likewise for the line that is refused; nothing if there is none
abbrev pub IsPlaceOf : Option ℕ → FilesFault → List ℕ → List ℕ → List ℕ → Type 0
IsPlaceOf None fault name bytes shown = shown ≡ []
IsPlaceOf (Some number) fault name bytes shown = IsPlace fault name bytes number shown

-- what was there, followed by the place of the line that is refused
abbrev pub Places : FilesFault → List ℕ → List ℕ → List ℕ → List ℕ → Type 0
Places fault name bytes old new = (shown : List ℕ) × (new ≡ old ++ shown) × IsPlaceOf (number_of fault) fault name bytes shown
