-- The lines of both ends of a connection, the newest first, and which answers belong to which line of the client (this profile).
use Rattle.std.specs.Prelude.{ℕ, suc, ◌==◌, Bool, false, ◌&&◌, ◌||◌, if◌then◌else◌, List, [], ◌∷◌, ◌++◌, position, remove, slice_get}
use Rattle.std.specs.Prelude.{Option, Some, None}
use Rattle.dme_line.specs.declared.tags.Tag.{Tag}
use Rattle.protocol_model.specs.Replies.{tag_is}
use Rattle.witness.specs.Asking.{Line, Sends, Answers, Signal}
use Rattle.witness.specs.Marks.{heard_as, is_end, is_error, stage_with}
use Rattle.witness.specs.declared.lines.Heard.{Heard}
use Rattle.witness.specs.declared.lines.SentCommand.{SentCommand}
use Rattle.witness.specs.declared.lines.Stage.{Stage}
use Rattle.witness.specs.declared.lines.Stage.TheVariants as stage

-- a line of the client with a tag, and the lines that came before it: its place is the number of those of the client
pub record Sent : Type 0 where
  pub above : List Line
  pub tag : Tag
  pub command : SentCommand

-- how many lines of the client came
abbrev pub count_sent : List Line → ℕ
count_sent [] = 0
count_sent (Sends line what ∷ older) = suc (count_sent older)
count_sent (Answers line what ∷ older) = count_sent older

abbrev pub place : Sent → ℕ
place s = count_sent s.above

-- one more line of the client, if it has a tag
abbrev pub with_sent : List Line → Option (Tag × SentCommand) → List Sent → List Sent
with_sent above None open_before = open_before
with_sent above (Some (tag, command)) open_before = open_before ++ record { above = above; tag = tag; command = command } ∷ []

-- which of these lines is the first under a tag
abbrev pub first_of : Tag → List Sent → Option ℕ
first_of tag sent = position (λ s. tag_is s.tag tag) sent

abbrev pub line_at : List Sent → Option ℕ → Option Sent
line_at sent None = None
line_at sent (Some n) = slice_get sent n

abbrev pub without : List Sent → Option ℕ → List Sent
without sent None = sent
without sent (Some n) = remove sent n

-- an end under a tag is that of its first line without one
abbrev pub after_answer : Option (Tag × Signal) → List Sent → List Sent
after_answer None open_before = open_before
after_answer (Some (tag, signal)) open_before = if is_end signal then without open_before (first_of tag open_before) else open_before

-- the lines of the client that have no end, in their order
abbrev pub open_lines : List Line → List Sent
open_lines [] = []
open_lines (Sends line what ∷ older) = with_sent older what (open_lines older)
open_lines (Answers line what ∷ older) = after_answer what (open_lines older)

-- the line that an answer under a tag belongs to
abbrev pub owner : Tag → List Line → Option Sent
owner tag older = line_at (open_lines older) (first_of tag (open_lines older))

-- the place of the line that an answer belongs to, and what its mark is for that line
abbrev pub for_line : Signal → Option Sent → Option (ℕ × Heard)
for_line signal None = None
for_line signal (Some s) = Some (place s, heard_as s.command signal)

abbrev pub mark_in : Option (Tag × Signal) → List Line → Option (ℕ × Heard)
mark_in None older = None
mark_in (Some (tag, signal)) older = for_line signal (owner tag older)

-- it is a mark for the line at a place, and of this sort
abbrev pub is_for : (Heard → Bool) → ℕ → Option (ℕ × Heard) → Bool
is_for sort n None = false
is_for sort n (Some (m, h)) = (n == m) && sort h

-- the marks of a line, the newest first
abbrev pub with_mark : ℕ → Option (ℕ × Heard) → List Heard → List Heard
with_mark n None marks = marks
with_mark n (Some (m, h)) marks = if n == m then h ∷ marks else marks

abbrev pub marks : ℕ → List Line → List Heard
marks n [] = []
marks n (Sends line what ∷ older) = marks n older
marks n (Answers line what ∷ older) = with_mark n (mark_in what older) (marks n older)

-- whether an error was read for the line at a place
abbrev pub error_at : ℕ → List Line → Bool
error_at n [] = false
error_at n (Sends line what ∷ older) = error_at n older
error_at n (Answers line what ∷ older) = error_at n older || is_for is_error n (mark_in what older)

-- the place of the line that was open last under a tag
abbrev pub later : Tag → Sent → Option ℕ → Option ℕ
later tag s found = if tag_is s.tag tag then Some (place s) else found

abbrev pub last_of : Tag → List Sent → Option ℕ → Option ℕ
last_of tag [] found = found
last_of tag (s ∷ sent) found = last_of tag sent (later tag s found)

abbrev pub rival_of : Tag → List Line → Option ℕ
rival_of tag above = last_of tag (open_lines above) None

-- the stage of a line by its marks
abbrev pub stage_of : SentCommand → List Heard → Stage
stage_of command [] = stage.Sent
stage_of command (h ∷ older) = stage_with command (stage_of command older) h
