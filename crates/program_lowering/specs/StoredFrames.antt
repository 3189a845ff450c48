-- Alignments by name (ISO 22093, DATSET, TRANS, ROTATE, RECALL): what makes or recalls a coordinate system selects the frame of its name in
-- the setup, as `RECALL/D` does (this profile). The frame of a touch is then that of the nearest such statement above it. What makes a system
-- again after a touch in it selects nothing, and is refused: its name has another meaning from there on, and the setup has one frame for both.
use Rattle.std.specs.Prelude.{ℕ, ◌+◌, Bool, true, false, not, ◌&&◌, ◌||◌, List, [], ◌∷◌, ◌++◌, codes, decimal, is_some, Option, Some, None, Result, Ok}
use Rattle.std.specs.Prelude.{if◌then◌else◌}
use Rattle.std.specs.Str.{bytes_eq}
use Rattle.dmis_text.specs.Statements.{has_open_text}
use Rattle.dmis_text.specs.declared.elements.Statement.{Statement}
use Rattle.dmis_program.specs.Keywords.{keyword_of, is_among}
use Rattle.dmis_program.specs.LookBack.{frame_said, nearest, or_else, saying}
use Rattle.dmis_program.specs.Parameters.{is_other_recall, name_within}
use Rattle.dmis_program.specs.declared.faults.Refusal.{Refusal}
use Rattle.dmis_program.specs.declared.keywords.Keyword.{Keyword}
use Rattle.dmis_program.specs.declared.keywords.Keyword.TheVariants as word
use Rattle.dmis_program.specs.declared.sayings.StatementMeaning.{StatementMeaning}
use Rattle.dmis_program.specs.declared.sayings.StatementMeaning.TheVariants as said
use Rattle.program_lowering.specs.Flats.{note_line, within}
use Rattle.program_lowering.specs.Words.{every}
use Rattle.program_lowering.specs.declared.words.Choices.{Choices}
use Rattle.tool_rack.specs.Setups.{has_name}

-- the words that make a coordinate system, whose label names it
abbrev pub alignments : List (List ℕ)
alignments = codes "DATSET" ∷ codes "TRANS" ∷ codes "ROTATE" ∷ []

-- the name in `D(name)` or `DA(name)`
abbrev pub frame_name : List ℕ → Option (List ℕ)
frame_name text = or_else (name_within (codes "D(") text) (name_within (codes "DA(") text)

abbrev pub labelled_frame : Option (List ℕ) → Option (List ℕ)
labelled_frame None = None
labelled_frame (Some label) = frame_name label

abbrev pub only_frame : List (List ℕ) → Option (List ℕ)
only_frame (only ∷ []) = frame_name only
only_frame _ = None

-- whether a touch of these statements, the nearest first, refers to the frame of this name: the nearest selection above it selects that
abbrev pub is_touch : Keyword → Bool
is_touch word.Ptmeas = true
is_touch _ = false

abbrev pub is_frame : Option (List ℕ) → List ℕ → Bool
is_frame None name = false
is_frame (Some selected) name = bytes_eq selected name

abbrev pub is_used : List Statement → List ℕ → Bool
is_used [] name = false
is_used (s ∷ above) name = (is_touch (keyword_of s.word) && is_frame (nearest frame_said above) name) || is_used above name

abbrev pub unless_used : (List ℕ → Bool) → Option (List ℕ) → Option (List ℕ)
unless_used used None = None
unless_used used (Some name) = if used name then None else Some name

-- the coordinate system that a statement makes, if no touch refers to that, or recalls as no flat program does
abbrev pub named_frame : (List ℕ → Bool) → Keyword → Statement → Option (List ℕ)
named_frame used word.Recall s = if is_other_recall s.params then only_frame s.params else None
named_frame used word.Unknown s = if is_among s.word alignments then unless_used used (labelled_frame s.label) else None
named_frame used _ s = None

abbrev pub stored_frame : Choices → (List ℕ → Bool) → Statement → Option (List ℕ)
stored_frame choices used s = if choices.stored_frames && not (has_open_text s) then named_frame used (keyword_of s.word) s else None

-- whether a statement selects a frame by name, before any touch
abbrev pub selects_frame : Statement → Bool
selects_frame s = is_some (stored_frame every (has_name []) s)

-- the statement that counts in its place
abbrev pub selecting : Option (List ℕ) → Statement → Statement
selecting None s = s
selecting (Some name) s = record { line = s.line; label = None; word = codes "RECALL"; params = within (codes "D(") name ∷ [] }

abbrev pub by_frame : Choices → (List ℕ → Bool) → Statement → Statement
by_frame choices used s = selecting (stored_frame choices used s) s

-- how many touches there are up to the next selection of a frame, or up to the end of the program
abbrev pub touches_with : Result StatementMeaning Refusal → ℕ → ℕ
touches_with (Ok (said.Touches target direction)) below = below + 1
touches_with (Ok (said.Recalls name)) below = 0
touches_with (Ok said.Closes) below = 0
touches_with _ below = below

abbrev pub touches_until : List Statement → ℕ
touches_until [] = 0
touches_until (s ∷ below) = touches_with (saying s) (touches_until below)

-- the line that says which frame is selected, and how many touches refer to it: LF is 10
unfoldable pub frame_text : List ℕ → List ℕ
frame_text name = codes "the frame is " ++ (name ++ codes " of the setup; touches that refer to it: ")

abbrev pub frame_start : ℕ → List ℕ → List ℕ
frame_start line name = note_line line ++ frame_text name

abbrev pub frame_end : ℕ → List ℕ
frame_end touches = decimal touches ++ 10 ∷ []

abbrev pub frame_note : ℕ → Result StatementMeaning Refusal → ℕ → List ℕ
frame_note line (Ok (said.Recalls name)) touches = frame_start line name ++ frame_end touches
frame_note line _ touches = []

-- one for each selection, up to the statement that closes the program
abbrev pub notes_with : Result StatementMeaning Refusal → List ℕ → List ℕ
notes_with (Ok said.Closes) below = []
notes_with _ below = below

abbrev pub frame_notes : List Statement → List ℕ
frame_notes [] = []
frame_notes (s ∷ below) = frame_note s.line (saying s) (touches_until below) ++ notes_with (saying s) (frame_notes below)

-- they are given if frames are selected by name
abbrev pub if_stored : Choices → List ℕ → List ℕ
if_stored choices notes = if choices.stored_frames then notes else []
