-- The refusal of a statement that decides, of several: first the count of statements, then what the first must be, then what
-- this profile reads, then the place in or outside a block, then what the statement is refused for by itself, and last what
-- else the statements above it decide.
use Rattle.std.specs.Prelude.{ℕ, Bool, true, false, not, ◌&&◌, List, Option, Some, None, Result, Ok, Err, nat_le, nat_lt, ◌==◌, is_none}
use Rattle.std.specs.Prelude.{if◌then◌else◌}
use Rattle.dmis_text.specs.declared.elements.Statement.{Statement}
use Rattle.fixed_um.specs.declared.lengths.Point.{Point}
use Rattle.dmis_program.specs.Outcomes.{◌>>=◌}
use Rattle.dmis_program.specs.Keywords.{keyword_of}
use Rattle.dmis_program.specs.Parameters.{is_other_coordinates, is_other_recall}
use Rattle.dmis_program.specs.Offsets.{offset_of}
use Rattle.dmis_program.specs.LookBack.{Context, saying}
use Rattle.dmis_program.specs.declared.faults.Refusal.{Refusal}
use Rattle.dmis_program.specs.declared.faults.Refusal.TheVariants.{NotDmis, Unsupported, OutsideBlock, InsideBlock, TooFewPoints}
use Rattle.dmis_program.specs.declared.faults.Refusal.TheVariants.{UnknownFrame, NoTool, TooLarge}
use Rattle.dmis_program.specs.declared.keywords.Keyword.{Keyword}
use Rattle.dmis_program.specs.declared.keywords.Keyword.TheVariants.{Dmismn, Goto, Meas, Ptmeas, Endmes, Recall, Endfil, Unknown}
use Rattle.dmis_program.specs.declared.sayings.StatementMeaning.{StatementMeaning}
use Rattle.dmis_program.specs.declared.sayings.StatementMeaning.TheVariants.{Touches, Ends, Recalls}

-- the first statement is a `DMISMN`
abbrev pub is_start : Keyword → Bool
is_start Dmismn = true
is_start _ = false

-- a statement that this profile does not read; `DMISMN` is read as the first statement alone
abbrev pub is_unsupported : Bool → Keyword → List (List ℕ) → Bool
is_unsupported first Dmismn params = not first
is_unsupported first Goto params = is_other_coordinates params
is_unsupported first Ptmeas params = is_other_coordinates params
is_unsupported first Recall params = is_other_recall params
is_unsupported first Unknown params = true
is_unsupported first _ params = false

-- a statement in the wrong place: the count says that a block is open
abbrev pub misplaced : Keyword → Option ℕ → Option Refusal
misplaced Ptmeas None = Some OutsideBlock
misplaced Endmes None = Some OutsideBlock
misplaced Meas (Some count) = Some InsideBlock
misplaced Endfil (Some count) = Some InsideBlock
misplaced _ _ = None

-- what the word and the place alone refuse, after this many statements, where the open block asks for this many touches
abbrev pub word_refusal : ℕ → Option ℕ → Keyword → List (List ℕ) → Option Refusal
word_refusal number wanted keyword params =
    if (number == 0) && not (is_start keyword) then Some NotDmis else
    if is_unsupported (number == 0) keyword params then Some Unsupported else
    misplaced keyword wanted

abbrev pub refused_by : {A : Type 0} → Option Refusal → Result A Refusal → Result A Refusal
refused_by (Some refusal) due = Err refusal
refused_by None due = due

-- fewer touches than the block asks for
abbrev pub is_too_few : Option ℕ → ℕ → Bool
is_too_few None n = false
is_too_few (Some count) n = nat_lt n count

-- what the selections and the count of touches above refuse
abbrev pub settled : List (List ℕ × Point) → Option (List ℕ) → Option ℕ → ℕ → StatementMeaning → Result StatementMeaning Refusal
settled frames tool wanted count (Touches target direction) = if is_none tool then Err NoTool else Ok (Touches target direction)
settled frames tool wanted count Ends = if is_too_few wanted count then Err TooFewPoints else Ok Ends
settled frames tool wanted count (Recalls name) = if is_none (offset_of frames name) then Err UnknownFrame else Ok (Recalls name)
settled frames tool wanted count said = Ok said

-- what a statement says there, or the refusal that is due
unfoldable pub judged : List (List ℕ × Point) → Context → Statement → Result StatementMeaning Refusal
judged frames c s =
    if nat_le 10000 c.number then Err TooLarge else
    refused_by (word_refusal c.number c.wanted (keyword_of s.word) s.params) (saying s >>= settled frames c.tool c.wanted c.touched)
