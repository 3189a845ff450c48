-- The setup that a text says: its tools, its stored frames and its shifts (this profile).
use Rattle.std.specs.Prelude.{◌≡◌, ℕ, ◌+◌, ◌%◌, Bool, false, List, [], ◌∷◌, ◌++◌, length, slice_index_or, Option, Some, None, is_some}
use Rattle.std.specs.Prelude.{Result, Ok, Err, if◌then◌else◌}
use Rattle.std.specs.List.{list_any, filter_map, AllByRecursion}
use Rattle.std.specs.Str.{bytes_eq}
use Rattle.std.specs.Str.Lines.{lines}
use Rattle.fixed_um.specs.Points.{zero_point, IsInVolume}
use Rattle.fixed_um.specs.declared.lengths.Point.{Point}
use Rattle.dmis_program.specs.Offsets.{offset_of, AreDistinct, AreFrames}
use Rattle.tool_rack.specs.Entries.{entry_on}
use Rattle.tool_rack.specs.declared.entries.Entry.{Entry}
use Rattle.tool_rack.specs.declared.entries.Entry.TheVariants as entry
use Rattle.tool_rack.specs.declared.faults.SetupFault.{SetupFault}
use Rattle.tool_rack.specs.declared.faults.SetupFault.TheVariants as fault

-- a setup as contracts see it: the names of the tools, the stored frames with their zero points in machine axes, and the shifts of the
-- simulated machine, each list in the order of the text
pub record SetupValue : Type 0 where
  pub tools : List (List ℕ)
  pub frames : List (List ℕ × Point)
  pub shifts : List Point

-- the name is one of these
abbrev pub has_name : List (List ℕ) → List ℕ → Bool
has_name names name = list_any (λ m. bytes_eq m name) names

-- the tool, the frame or the shift of a line
abbrev pub tool_in : Entry → Option (List ℕ)
tool_in (entry.Tool name) = Some name
tool_in _ = None

abbrev pub frame_in : Entry → Option (List ℕ × Point)
frame_in (entry.Frame name offset) = Some (name, offset)
frame_in _ = None

abbrev pub shift_in : Entry → Option Point
shift_in (entry.Shift shift) = Some shift
shift_in _ = None

-- all that lines say, together
abbrev pub setup_with : List Entry → SetupValue
setup_with entries = record {
  tools = filter_map tool_in entries;
  frames = filter_map frame_in entries;
  shifts = filter_map shift_in entries;
}

-- the line names a tool that is in the setup, or a frame that is; a tool and a frame may share a name
abbrev pub is_twice : SetupValue → Entry → Bool
is_twice setup (entry.Tool name) = has_name setup.tools name
is_twice setup (entry.Frame name offset) = is_some (offset_of setup.frames name)
is_twice setup _ = false

-- what line n says below the lines that said `above`: it is refused by itself, or for a name that is above
abbrev pub judged : ℕ → List Entry → Result Entry SetupFault → Result Entry SetupFault
judged n above (Err fault) = Err fault
judged n above (Ok entry) = if is_twice (setup_with above) entry then Err (fault.Twice n) else Ok entry

-- one step, and then the next with what it gave
abbrev pub and_then : {A B : Type 0} → Result A SetupFault → (A → Result B SetupFault) → Result B SetupFault
and_then (Ok x) f = f x
and_then (Err e) f = Err e

-- what all lines say, or the refusal of the first line that is refused; `above` is what the lines above said
abbrev pub entries_from : List Entry → List (List ℕ) → Result (List Entry) SetupFault
entries_from above [] = Ok above
entries_from above (line ∷ lines) = and_then (judged (length above + 1) above (entry_on (length above + 1) line))
    (λ entry. entries_from (above ++ entry ∷ []) lines)

-- the setup of a text, or the refusal of its first line that is refused. A line ends with LF or CR LF, the last may lack its end
unfoldable pub setup_of : List ℕ → Result SetupValue SetupFault
setup_of text = and_then (entries_from [] (lines text)) (λ entries. Ok (setup_with entries))

-- this fault is due; running out of memory says nothing of the text
abbrev pub IsDue : {A : Type 0} → Result A SetupFault → SetupFault → Type 0
IsDue due (fault.BadLine n) = due ≡ Err (fault.BadLine n)
IsDue due (fault.Twice n) = due ≡ Err (fault.Twice n)
IsDue due (fault.BadNumeral n) = due ≡ Err (fault.BadNumeral n)
IsDue due fault.Memory = Unit {0}

-- what reading a setup gives is what is due, unless memory ran out
abbrev pub GivesSetup : {A : Type 0} → Result A SetupFault → Result A SetupFault → Type 0
GivesSetup (Ok x) due = due ≡ Ok x
GivesSetup (Err fault) due = IsDue due fault

-- what a setup is, always: no tool and no frame twice, and each zero point and shift in the machine's volume
pub record IsSetup (setup : SetupValue) : Type 0 where
  pub tools_once : AreDistinct setup.tools
  pub frames : AreFrames setup.frames
  pub shifts_within : AllByRecursion IsInVolume setup.shifts

-- shift number k, counted from 0 and from the first again after the last; none where there is no shift
abbrev pub shift_at : List Point → ℕ → Point
shift_at shifts k = slice_index_or shifts (k % length shifts) zero_point
