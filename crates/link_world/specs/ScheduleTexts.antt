-- What the text of a schedule means (this profile): the instructions of its lines, or the first line that is refused. Lines, fields and
-- numerals are those of a setup.
use Rattle.std.specs.Prelude.{◌≡◌, ℕ, Bool, not, ◌&&◌, List, [], ◌∷◌, ◌++◌, length, codes, decimal, nat_le}
use Rattle.std.specs.Prelude.{Option, Some, None, is_none, Result, Ok, Err, if◌then◌else◌}
use Rattle.std.specs.List.{list_all, filter, filter_map, position_from}
use Rattle.std.specs.Char.{is_ascii_digit}
use Rattle.std.specs.Str.Lines.{lines}
use Rattle.std.specs.Str.Parse.{digits_value}
use Rattle.fixed_um.specs.declared.lengths.Point.{Point}
use Rattle.protocol_model.specs.declared.events.Event.TheVariants as event
use Rattle.protocol_model.specs.declared.machine.Outcome.TheVariants as outcome
use Rattle.tool_rack.specs.Fields.{fields_of, is_dropped, has_outer_space, is_word}
use Rattle.tool_rack.specs.Entries.{point_of}
use Rattle.link_world.specs.Schedules.{rounds_most}
use Rattle.link_world.specs.declared.texts.schedules.Instruction.{Instruction}
use Rattle.link_world.specs.declared.texts.schedules.Instruction.TheVariants.{Once, Auto, UpAll, DownAll, ServerReadsAll}
use Rattle.link_world.specs.declared.texts.schedules.Instruction.TheVariants.{ClientReadsAll, Rounds, Quiet}
use Rattle.link_world.specs.declared.texts.schedule_faults.ScheduleFault.{ScheduleFault}
use Rattle.link_world.specs.declared.texts.schedule_faults.ScheduleFault.TheVariants.{BadLine, Memory}

-- a whole number is written with one to ten digits, leading zeros included
abbrev pub is_number : List ℕ → Bool
is_number text = list_all is_ascii_digit text && (nat_le 1 (length text) && nat_le (length text) 10)

-- the number that a text writes; none if it does not write one
abbrev pub number_of : List ℕ → Option ℕ
number_of text = if is_number text then Some (digits_value 10 text) else None

-- the entry for a word in a table, the word in any case
abbrev pub beside : List (List ℕ × Instruction) → List ℕ → Option Instruction
beside [] field = None
beside (row ∷ rows) field = if is_word row.0 field then Some row.1 else beside rows field

-- words that are alone on their line
abbrev pub alone : List (List ℕ × Instruction)
alone = (codes "connect", Once event.Connect)
    ∷ (codes "clientsends", Once event.ClientSends)
    ∷ (codes "serverreads", Once event.ServerReads)
    ∷ (codes "serverturn", Once event.ServerTurn)
    ∷ (codes "clientreads", Once event.ClientReads)
    ∷ (codes "clientleaves", Once event.ClientLeaves)
    ∷ (codes "serverleaves", Once event.ServerLeaves)
    ∷ (codes "abort", Once event.Abort)
    ∷ (codes "resume", Once event.Resume)
    ∷ (codes "serverrestart", Once event.ServerRestart)
    ∷ (codes "quiet", Quiet)
    ∷ []

-- words before a number
abbrev pub numbered : ℕ → List (List ℕ × Instruction)
numbered n = (codes "accept", Once (event.Accept n))
    ∷ (codes "up", Once (event.Up n))
    ∷ (codes "down", Once (event.Down n))
    ∷ (codes "clientrestart", Once (event.ClientRestart n))
    ∷ []

-- words before `all`
abbrev pub before_all : List (List ℕ × Instruction)
before_all = (codes "up", UpAll)
    ∷ (codes "serverreads", ServerReadsAll)
    ∷ (codes "down", DownAll)
    ∷ (codes "clientreads", ClientReadsAll)
    ∷ []

-- words after `machine`
abbrev pub of_machine : List (List ℕ × Instruction)
of_machine = (codes "done", Once (event.Machine outcome.Done))
    ∷ (codes "missed", Once (event.Machine outcome.Missed))
    ∷ (codes "fault", Once (event.Machine outcome.Fault))
    ∷ (codes "auto", Auto)
    ∷ []

-- a number of quiet rounds, at most the limit
abbrev pub rounds : ℕ → Option Instruction
rounds n = if nat_le n rounds_most then Some (Rounds n) else None

-- what a word asks for with the number after it; none if there is no number
abbrev pub with_number : List ℕ → Option ℕ → Option Instruction
with_number word None = None
with_number word (Some n) = if is_word (codes "quiet") word then rounds n else beside (numbered n) word

-- two fields: a word and what follows it
unfoldable pub of_two : List ℕ → List ℕ → Option Instruction
of_two word value = if is_word (codes "machine") word then beside of_machine value else
    (if is_word (codes "all") value then beside before_all word else with_number word (number_of value))

-- the touch at a point; none if there is no point
abbrev pub touched_at : Option Point → Option Instruction
touched_at None = None
touched_at (Some point) = Some (Once (event.Machine (outcome.Touched point)))

-- a touch: three numerals in millimetres after `machine touched`
abbrev pub touch : List (List ℕ) → Option Instruction
touch (x ∷ y ∷ z ∷ []) = touched_at (point_of x y z)
touch _ = None

-- what the fields of a line ask for; none if they ask for nothing that exists
unfoldable pub instruction_of : List (List ℕ) → Option Instruction
instruction_of [] = None
instruction_of (word ∷ []) = beside alone word
instruction_of (word ∷ value ∷ []) = of_two word value
instruction_of (word ∷ value ∷ x ∷ more) = if is_word (codes "machine") word && is_word (codes "touched") value then touch (x ∷ more)
    else None

-- what a line asks for
unfoldable pub instruction_on : List ℕ → Option Instruction
instruction_on line = if has_outer_space line then None else instruction_of (fields_of line)

-- a line is refused if it is not dropped and asks for nothing that exists
abbrev pub is_refused : List ℕ → Bool
is_refused line = not (is_dropped line) && is_none (instruction_on line)

-- the instructions of lines, if none is refused
abbrev pub instructions_on : List (List ℕ) → List Instruction
instructions_on lines = filter_map instruction_on (filter (λ line. not (is_dropped line)) lines)

-- the instructions of lines, or the refusal of the line with this number
abbrev pub schedule_on : Option ℕ → List (List ℕ) → Result (List Instruction) ScheduleFault
schedule_on None lines = Ok (instructions_on lines)
schedule_on (Some n) lines = Err (BadLine n)

-- the instructions of a text, or the refusal of its first line that is refused. Lines are counted from 1; a line ends with LF
-- or CR LF, the last may lack its end
unfoldable pub schedule_of : List ℕ → Result (List Instruction) ScheduleFault
schedule_of text = schedule_on (position_from is_refused 1 (lines text)) (lines text)

-- this refusal is due; running out of memory implies nothing about the text
abbrev pub IsRefusal : Result (List Instruction) ScheduleFault → ScheduleFault → Type 0
IsRefusal due (BadLine n) = due ≡ Err (BadLine n)
IsRefusal due Memory = Unit {0}

-- the result of reading a schedule is what is due, unless memory ran out
abbrev pub GivesSchedule : Result (List Instruction) ScheduleFault → Result (List Instruction) ScheduleFault → Type 0
GivesSchedule (Ok instructions) due = due ≡ Ok instructions
GivesSchedule (Err fault) due = IsRefusal due fault

-- how a refusal is printed: its code, its name, and the line
abbrev pub fault_text : ScheduleFault → List ℕ
fault_text (BadLine line) = codes "H1 BadLine at line " ++ decimal line
fault_text Memory = codes "out of memory"
