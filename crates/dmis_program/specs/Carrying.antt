-- What the code carries forward from statement to statement. No public clause cites it: specs/Meaning.antt looks back instead,
-- and proofs/CarryingLemmas.antt shows that both give the same.
use Rattle.std.specs.Prelude.{◌≡◌, ℕ, ◌+◌, Bool, List, [], ◌∷◌, ◌++◌, length, Option, Some, None, Result, Ok, Err}
use Rattle.dmis_text.specs.declared.elements.Statement.{Statement}
use Rattle.fixed_um.specs.declared.frames.Frame.{Frame}
use Rattle.fixed_um.specs.declared.frames.Frame.TheVariants.{Machine, Part}
use Rattle.fixed_um.specs.declared.lengths.Point.{Point}
use Rattle.fixed_um.specs.Shapes.{Direction}
use Rattle.dmis_program.specs.Outcomes.{◌>>=◌}
use Rattle.dmis_program.specs.Offsets.{offset_of}
use Rattle.dmis_program.specs.LookBack.{Context}
use Rattle.dmis_program.specs.Judging.{judged, settled}
use Rattle.dmis_program.specs.Meaning.{closes, touch_with}
use Rattle.dmis_program.specs.declared.faults.Refusal.{Refusal}
use Rattle.dmis_program.specs.declared.faults.StatementFault.{StatementFault}
use Rattle.dmis_program.specs.declared.faults.StatementFault.TheVariants as faults
use Rattle.dmis_program.specs.declared.sayings.StatementMeaning.{StatementMeaning}
use Rattle.dmis_program.specs.declared.sayings.StatementMeaning.TheVariants as said
use Rattle.dmis_program.specs.declared.steps.Step.{Step}
use Rattle.dmis_program.specs.declared.steps.Step.TheVariants.{Goto, Begin, Touch, Tool, Recall, End}
use Rattle.dmis_program.specs.declared.features.Touch as touch
use Rattle.dmis_program.specs.declared.features.Wanted.{Wanted}
use Rattle.dmis_program.specs.declared.reading.Block.{Block}

-- how many statements were read, what is selected, the open block with its touches so far, and what was read
pub record ReaderState : Type 0 where
  pub number : ℕ
  pub tool : Option (List ℕ)
  pub frame : Frame
  pub open_block : Option Block
  pub touches : List touch.Touch
  pub done : List Wanted
  pub steps : List Step

abbrev pub no_statement : ReaderState
no_statement = record { number = 0; tool = None; frame = Machine; open_block = None; touches = []; done = []; steps = [] }

-- how many touches the open block asks for
abbrev pub count_wanted : Option Block → Option ℕ
count_wanted None = None
count_wanted (Some block) = Some block.wanted

-- what decides over the next statement
abbrev pub context_of : ReaderState → Context
context_of c = record { number = c.number; tool = c.tool; frame = c.frame; wanted = count_wanted c.open_block; touched = length c.touches }

abbrev pub with_step : ReaderState → Step → ReaderState
with_step c step = record c { steps = c.steps ++ step ∷ [] }

-- what a statement changes, but for the count of statements
abbrev pub touched_with : ReaderState → Option (List ℕ) → Point → Option Direction → ReaderState
touched_with c None target direction = c
touched_with c (Some tool) target direction = record (with_step c (Touch (touch_with tool c.frame target direction))) {
  touches = c.touches
      ++ touch_with tool c.frame target direction ∷ [];
}

abbrev pub closed_block : Option Block → List touch.Touch → List Wanted
closed_block None touches = []
closed_block (Some block) touches = record { label = block.label; touches = touches } ∷ []

abbrev pub touches_left : Option Block → List touch.Touch → List touch.Touch
touches_left None touches = touches
touches_left (Some block) touches = []

abbrev pub recalled_at : ReaderState → Option Point → ReaderState
recalled_at c None = c
recalled_at c (Some offset) = record (with_step c (Recall offset)) { frame = Part offset }

abbrev pub changed : List (List ℕ × Point) → ReaderState → StatementMeaning → ReaderState
changed frames c (said.Goes target) = with_step c (Goto target)
changed frames c (said.Begins name count) = record (with_step c (Begin name))
    { open_block = Some (record { label = name; wanted = count }) }
changed frames c (said.Touches target direction) = touched_with c c.tool target direction
changed frames c said.Ends = record (with_step c End) {
  open_block = None;
  touches = touches_left c.open_block c.touches;
  done = c.done
      ++ closed_block c.open_block c.touches;
}
changed frames c (said.Selects name) = record (with_step c (Tool name)) { tool = Some name }
changed frames c (said.Recalls name) = recalled_at c (offset_of frames name)
changed frames c said.Closes = c
changed frames c said.Passes = c

-- continuing by what a statement says: whether the program ends there, and what is carried on
abbrev pub follows : List (List ℕ × Point) → ReaderState → StatementMeaning → Result (Bool × ReaderState) Refusal
follows frames c s = settled frames c.tool (count_wanted c.open_block) (length c.touches) s >>= λ settled_said. Ok (
  closes settled_said,
  changed frames c settled_said,
)

abbrev pub counted : ReaderState → ReaderState
counted c = record c { number = c.number + 1 }

-- likewise for a whole statement
abbrev pub next : List (List ℕ × Point) → ReaderState → Statement → Result (Bool × ReaderState) Refusal
next frames c s = judged frames (context_of c) s >>= λ said. Ok (closes said, changed frames (counted c) said)

-- what a call gives, and leaves, is what is due, unless memory ran out
abbrev pub GivesNext : Result Bool StatementFault → ReaderState → Result (Bool × ReaderState) Refusal → Type 0
GivesNext (Ok closed) new due = due ≡ Ok (closed, new)
GivesNext (Err (faults.Refused refusal)) new due = due ≡ Err refusal
GivesNext (Err faults.Memory) new due = Unit {0}
