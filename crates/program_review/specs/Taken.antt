-- Whether `dme lower` takes a refused statement: it writes out what the statement stands for, or leaves it out, if need be with an option. That is
-- a judgement on this line alone, and no promise that the program is then accepted: a value may be missing, or a label (this profile).
use Rattle.std.specs.Prelude.{ℕ, Bool, true, false, ◌&&◌, ◌||◌, List, codes, is_none, is_some, Option, Some, None, if◌then◌else◌}
use Rattle.dmis_text.specs.declared.elements.Statement.{Statement}
use Rattle.dmis_program.specs.Keywords.{keyword_of}
use Rattle.dmis_program.specs.declared.faults.Refusal.{Refusal}
use Rattle.dmis_program.specs.declared.faults.Refusal.TheVariants.{NotDmis, Unsupported, NotMillimetres, TooFewPoints}
use Rattle.dmis_program.specs.declared.keywords.Keyword.{Keyword}
use Rattle.dmis_program.specs.declared.keywords.Keyword.TheVariants as word
use Rattle.program_flow.specs.Calls.{is_of_flow}
use Rattle.program_flow.specs.LookBack.{target}
use Rattle.program_lowering.specs.Manual.{is_skipped, manual_after}
use Rattle.program_lowering.specs.Prompts.{asked}
use Rattle.program_lowering.specs.StoredFrames.{selects_frame}
use Rattle.program_lowering.specs.Texts.{begins_with}
use Rattle.program_lowering.specs.Words.{every, left_out}
use Rattle.program_lowering.specs.declared.words.Reason.{Reason}
use Rattle.program_lowering.specs.declared.words.Reason.TheVariants as reason
use Rattle.program_review.specs.declared.taking.Around.{Around}
use Rattle.program_review.specs.declared.taking.Choice.TheVariants as choice
use Rattle.program_review.specs.declared.taking.Taken.{Taken}
use Rattle.program_review.specs.declared.taking.Taken.TheVariants as taken

-- before any statement nobody measures manually, and no block is open
abbrev pub nothing_around : Around
nothing_around = record { manual = false; bore = false }

-- whether the block that is open is of a circle or a cylinder, and has no touch
abbrev pub bore_after : Bool → Keyword → List (List ℕ) → Bool
bore_after bore word.Meas params = begins_with (codes "CIRCLE") params || begins_with (codes "CYLNDR") params
bore_after bore word.Ptmeas params = false
bore_after bore word.Endmes params = false
bore_after bore _ params = bore

abbrev pub around_after : Around → Statement → Around
around_after around s = record { manual = manual_after around.manual s; bore = bore_after around.bore (keyword_of s.word) s.params }

-- coordinates that Cartesian ones stand for
abbrev pub is_other_place : Keyword → List (List ℕ) → Bool
is_other_place word.Goto params = begins_with (codes "POL") params || begins_with (codes "INCR") params
is_other_place word.Ptmeas params = begins_with (codes "POL") params
is_other_place _ params = false

-- it decides what is carried out, assigns a value, or has such coordinates
abbrev pub is_written : Statement → Bool
is_written s = is_of_flow s || (is_some (target s) || (is_none s.label && is_other_place (keyword_of s.word) s.params))

-- by the reason why it is left out where all is chosen. What decides or assigns as `dme lower` notes it is no statement of a program
abbrev pub taken_for : Option Reason → Taken
taken_for None = taken.No
taken_for (Some reason.Clearing) = taken.With choice.NoClearing
taken_for (Some reason.Compensated) = taken.With choice.Compensated
taken_for (Some reason.Stored) = taken.With choice.StoredFrames
taken_for (Some reason.Declared) = taken.Written
taken_for (Some reason.Assigned) = taken.No
taken_for (Some reason.Leads) = taken.No
taken_for (Some reason.Touched) = taken.No
taken_for (Some _) = taken.LeftOut

abbrev pub taken_unread : Statement → Taken
taken_unread s = if is_written s then taken.Written else if selects_frame s then taken.With choice.StoredFrames else
    if is_some (asked s) then taken.With choice.Value else taken_for (left_out every s)

-- by the refusal; a move that is computed has its values
abbrev pub taken_with : Around → (computed : Bool) → Refusal → Statement → Taken
taken_with around true refusal s = taken.Written
taken_with around false Unsupported s = taken_unread s
taken_with around false NotMillimetres s = if begins_with (codes "INCH") s.params then taken.Written else taken.No
taken_with around false TooFewPoints s = if around.bore then taken.With choice.EvenTouches else taken.No
taken_with around false _ s = taken.No

-- what the operator would measure is left out but for the first statement, which begins the program
abbrev pub taken_by : Around → (computed : Bool) → Refusal → Statement → Taken
taken_by around computed NotDmis s = taken.No
taken_by around computed refusal s =
    if is_skipped (manual_after around.manual s) s then taken.With choice.SkipManual else taken_with around computed refusal s
