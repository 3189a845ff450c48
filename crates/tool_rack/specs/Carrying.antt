-- A setup that grows line by line, as the code keeps it: no public clause cites this.
use Rattle.std.specs.Prelude.{ℕ, ◌+◌, List, [], ◌∷◌, ◌++◌, Result, Ok, Err, if◌then◌else◌}
use Rattle.tool_rack.specs.Entries.{entry_on}
use Rattle.tool_rack.specs.Setups.{SetupValue, is_twice, and_then}
use Rattle.tool_rack.specs.declared.entries.Entry.{Entry}
use Rattle.tool_rack.specs.declared.entries.Entry.TheVariants as entry
use Rattle.tool_rack.specs.declared.faults.SetupFault.{SetupFault}
use Rattle.tool_rack.specs.declared.faults.SetupFault.TheVariants as fault

-- a setup with what one more line says
abbrev pub setup_more : SetupValue → Entry → SetupValue
setup_more s entry.Nothing = s
setup_more s (entry.Tool name) = record { tools = s.tools ++ name ∷ []; frames = s.frames; shifts = s.shifts }
setup_more s (entry.Frame name offset) = record { tools = s.tools; frames = s.frames ++ (name, offset) ∷ []; shifts = s.shifts }
setup_more s (entry.Shift shift) = record { tools = s.tools; frames = s.frames; shifts = s.shifts ++ shift ∷ [] }

-- the same, or the refusal of line n
abbrev pub line_more : ℕ → SetupValue → Entry → Result SetupValue SetupFault
line_more n s entry = if is_twice s entry then Err (fault.Twice n) else Ok (setup_more s entry)

abbrev pub read_line : ℕ → SetupValue → List ℕ → Result SetupValue SetupFault
read_line n s line = and_then (entry_on n line) (line_more n s)
