-- What is above a statement, looked back for in the text. Statements above are given nearest first.
use Rattle.std.specs.Prelude.{ℕ, ◌+◌, List, [], ◌∷◌, length, Option, Some, None, Result, Ok}
use Rattle.dmis_text.specs.declared.elements.Statement.{Statement}
use Rattle.fixed_um.specs.declared.frames.Frame.{Frame}
use Rattle.fixed_um.specs.declared.frames.Frame.TheVariants.{Machine, Part}
use Rattle.fixed_um.specs.declared.lengths.Point.{Point}
use Rattle.dmis_program.specs.Keywords.{keyword_of}
use Rattle.dmis_program.specs.Sayings.{said_of}
use Rattle.dmis_program.specs.Offsets.{offset_of}
use Rattle.dmis_program.specs.declared.faults.Refusal.{Refusal}
use Rattle.dmis_program.specs.declared.sayings.StatementMeaning.{StatementMeaning}
use Rattle.dmis_program.specs.declared.sayings.StatementMeaning.TheVariants.{Begins, Touches, Ends, Selects, Recalls}

-- what a statement says, or why it is refused for itself
abbrev pub saying : Statement → Result StatementMeaning Refusal
saying s = said_of (keyword_of s.word) s

abbrev pub or_else : {A : Type 0} → Option A → Option A → Option A
or_else None other = other
or_else (Some x) other = Some x

-- what the nearest statement gives that gives something
abbrev pub nearest : {A : Type 0} → (Result StatementMeaning Refusal → Option A) → List Statement → Option A
nearest f [] = None
nearest f (s ∷ above) = or_else (f (saying s)) (nearest f above)

-- the tool that a statement selects, and the frame
abbrev pub tool_said : Result StatementMeaning Refusal → Option (List ℕ)
tool_said (Ok (Selects name)) = Some name
tool_said _ = None

abbrev pub frame_said : Result StatementMeaning Refusal → Option (List ℕ)
frame_said (Ok (Recalls name)) = Some name
frame_said _ = None

-- where a block begins, the count of touches that it asks for; where it ends, none
abbrev pub bound_said : Result StatementMeaning Refusal → Option (Option ℕ)
bound_said (Ok (Begins name count)) = Some (Some count)
bound_said (Ok Ends) = Some None
bound_said _ = None

-- the tool of the nearest `SNSLCT`
abbrev pub selected_tool : List Statement → Option (List ℕ)
selected_tool above = nearest tool_said above

-- the frame of the nearest `RECALL/D`, or the machine's. A frame that is not stored is refused at its `RECALL`
abbrev pub part_at : Option Point → Frame
part_at None = Machine
part_at (Some offset) = Part offset

abbrev pub frame_at : List (List ℕ × Point) → Option (List ℕ) → Frame
frame_at frames None = Machine
frame_at frames (Some name) = part_at (offset_of frames name)

abbrev pub selected_frame : List (List ℕ × Point) → List Statement → Frame
selected_frame frames above = frame_at frames (nearest frame_said above)

-- what the open block asks for: the nearest `MEAS` that no `ENDMES` follows
abbrev pub bound_count : Option (Option ℕ) → Option ℕ
bound_count None = None
bound_count (Some count) = count

abbrev pub open_block : List Statement → Option ℕ
open_block above = bound_count (nearest bound_said above)

-- how many `PTMEAS` follow the nearest `MEAS` or `ENDMES`
abbrev pub touched_with : Result StatementMeaning Refusal → ℕ → ℕ
touched_with (Ok (Begins name count)) older = 0
touched_with (Ok Ends) older = 0
touched_with (Ok (Touches target direction)) older = older + 1
touched_with _ older = older

abbrev pub touched : List Statement → ℕ
touched [] = 0
touched (s ∷ above) = touched_with (saying s) (touched above)

-- what decides over a statement: how many are above it, the tool and the frame that are selected, the count of touches that
-- the open block asks for, and how many it has
pub record Context : Type 0 where
  pub number : ℕ
  pub tool : Option (List ℕ)
  pub frame : Frame
  pub wanted : Option ℕ
  pub touched : ℕ

abbrev pub context_at : List (List ℕ × Point) → List Statement → Context
context_at frames above = record {
  number = length above;
  tool = selected_tool above;
  frame = selected_frame frames above;
  wanted = open_block above;
  touched = touched above;
}
