-- A schedule that grows line by line, as the code keeps it: no public clause cites this.
use Rattle.std.specs.Prelude.{ℕ, ◌+◌, List, [], ◌∷◌, ◌++◌, Option, Some, None, Result, Ok, Err, if◌then◌else◌}
use Rattle.tool_rack.specs.Fields.{is_dropped}
use Rattle.link_world.specs.ScheduleTexts.{instruction_on}
use Rattle.link_world.specs.declared.texts.schedules.Instruction.{Instruction}
use Rattle.link_world.specs.declared.texts.schedule_faults.ScheduleFault.{ScheduleFault}
use Rattle.link_world.specs.declared.texts.schedule_faults.ScheduleFault.TheVariants.{BadLine}

-- the instructions above, and what line n asks for; its refusal if it asks for nothing that exists
abbrev pub read_more : ℕ → List Instruction → Option Instruction → Result (List Instruction) ScheduleFault
read_more n above None = Err (BadLine n)
read_more n above (Some instruction) = Ok (above ++ instruction ∷ [])

-- the instructions above, with what line n asks for
abbrev pub read_line : ℕ → List Instruction → List ℕ → Result (List Instruction) ScheduleFault
read_line n above line = if is_dropped line then Ok above else read_more n above (instruction_on line)
