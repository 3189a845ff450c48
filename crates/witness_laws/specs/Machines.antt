-- What a machine does between the lines of both ends of a connection (this profile). The newest comes first.
use Rattle.std.specs.Prelude.{ℕ, ◌==◌, Bool, false, if◌then◌else◌, List, [], ◌∷◌, Option, Some, None}
use Rattle.fixed_um.specs.declared.frames.Frame.{Frame}
use Rattle.fixed_um.specs.declared.frames.Frame.TheVariants.{Part}
use Rattle.fixed_um.specs.declared.lengths.Point.{Point}
use Rattle.dme_line.specs.declared.tags.Tag.{Tag}
use Rattle.witness.specs.Asking.{Line, Sends, Answers}
use Rattle.witness.specs.Histories.{count_sent}
use Rattle.witness.specs.declared.lines.SentCommand.{SentCommand}

-- the machine takes a tool, None if it has none then, or one without a name; it selects a frame, None if a contacts file cannot name it; it stores a zero
-- point of the part, in machine axes; or it makes the contact that a touch reports
pub data Effect : Type 0 where
  TakesTool : Option (List ℕ) → Effect
  SelectsFrame : Option Frame → Effect
  StoresZero : Option Point → Effect
  Touches : Effect

-- for which line of the client, by its place: one that waits for its turn, or one that may be carried out at once; or for no line
pub data Cause : Type 0 where
  InTurn : ℕ → Cause
  AtOnce : ℕ → Cause
  ForNoLine : Cause

-- a line of either end, as it is sent, or what the machine does
pub data Entry : Type 0 where
  Message : Line → Entry
  Does : Cause → Effect → Entry

-- the lines alone
abbrev pub lines : List Entry → List Line
lines [] = []
lines (Message line ∷ h) = line ∷ lines h
lines (Does cause effect ∷ h) = lines h

-- what was so at some time of a history
pub data IsPast (all : List Entry) : List Entry → Type 0 where
  whole : IsPast all all
  past : (entry : Entry) (h : List Entry) → IsPast all (entry ∷ h) → IsPast all h

-- the line of the client at a place; None if it was not sent yet
abbrev pub sent_at : ℕ → List Line → Option (Option (Tag × SentCommand))
sent_at n [] = None
sent_at n (Sends line what ∷ older) = if n == count_sent older then Some what else sent_at n older
sent_at n (Answers line what ∷ older) = sent_at n older

-- ---- tool, frame and zero point

abbrev pub tool_taken : Effect → Option (Option (List ℕ))
tool_taken (TakesTool tool) = Some tool
tool_taken (SelectsFrame frame) = None
tool_taken (StoresZero zero) = None
tool_taken Touches = None

abbrev pub frame_selected : Effect → Option (Option Frame)
frame_selected (TakesTool tool) = None
frame_selected (SelectsFrame frame) = Some frame
frame_selected (StoresZero zero) = None
frame_selected Touches = None

abbrev pub zero_stored : Effect → Option (Option Point)
zero_stored (TakesTool tool) = None
zero_stored (SelectsFrame frame) = None
zero_stored (StoresZero zero) = Some zero
zero_stored Touches = None

-- the last effect of one of these sorts: for which line, and what was taken, selected or stored
abbrev pub or_before : {A : Type 0} → Cause → Option A → Option (Cause × A) → Option (Cause × A)
or_before cause None before = before
or_before cause (Some a) before = Some (cause, a)

abbrev pub last : {A : Type 0} → (Effect → Option A) → List Entry → Option (Cause × A)
last sort [] = None
last sort (Message line ∷ h) = last sort h
last sort (Does cause effect ∷ h) = or_before cause (sort effect) (last sort h)

-- what is so since then; None if it is not known from what the machine did
abbrev pub so : {A : Type 0} → Option (Cause × Option A) → Option A
so None = None
so (Some (cause, a)) = a

abbrev pub tool_now : List Entry → Option (List ℕ)
tool_now h = so (last tool_taken h)

abbrev pub frame_now : List Entry → Option Frame
frame_now h = so (last frame_selected h)

abbrev pub zero_now : List Entry → Option Point
zero_now h = so (last zero_stored h)

-- ---- at an effect

-- what came before the last of these effects
abbrev pub before_last : (Cause → Effect → Bool) → List Entry → Option (List Entry)
before_last is_it [] = None
before_last is_it (Message line ∷ h) = before_last is_it h
before_last is_it (Does cause effect ∷ h) = if is_it cause effect then Some h else before_last is_it h

-- it is for the line at a place, in its turn
abbrev pub is_for_line : ℕ → Cause → Bool
is_for_line n (InTurn m) = n == m
is_for_line n (AtOnce m) = false
is_for_line n ForNoLine = false

-- it is the contact of the touch at a place
abbrev pub is_contact : ℕ → Cause → Effect → Bool
is_contact n cause (TakesTool tool) = false
is_contact n cause (SelectsFrame frame) = false
is_contact n cause (StoresZero zero) = false
is_contact n cause Touches = is_for_line n cause

-- it is a selection of a frame for the line at a place
abbrev pub is_selection : ℕ → Cause → Effect → Bool
is_selection n cause (TakesTool tool) = false
is_selection n cause (SelectsFrame frame) = is_for_line n cause
is_selection n cause (StoresZero zero) = false
is_selection n cause Touches = false

-- the tool, the frame and the zero point that the machine had there
abbrev pub there : {A : Type 0} → (List Entry → A) → Option (List Entry) → Option A
there now None = None
there now (Some h) = Some (now h)

-- of a touch, by its place: the tool and the frame at its contact; None if there was none
abbrev pub tool_at_contact : ℕ → List Entry → Option (Option (List ℕ))
tool_at_contact n h = there tool_now (before_last (is_contact n) h)

abbrev pub frame_at_contact : ℕ → List Entry → Option (Option Frame)
frame_at_contact n h = there frame_now (before_last (is_contact n) h)

-- of a selection of a part's frame, by the place of its line: the frame whose zero point was stored then
abbrev pub part_of : Option Point → Option Frame
part_of None = None
part_of (Some zero) = Some (Part zero)

abbrev pub part_when : Option (Option Point) → Option Frame
part_when None = None
part_when (Some zero) = part_of zero

abbrev pub part_selected : ℕ → List Entry → Option Frame
part_selected n h = part_when (there zero_now (before_last (is_selection n) h))
