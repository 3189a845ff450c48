-- What one line of a setup says, or why it is refused (this profile).
use Rattle.std.specs.Prelude.{ℕ, List, [], ◌∷◌, codes, ℤ, Option, Some, None, Result, Ok, Err, if◌then◌else◌}
use Rattle.fixed_um.specs.Limits.{volume_limit}
use Rattle.fixed_um.specs.Names.{is_name_text, folded}
use Rattle.fixed_um.specs.Computed.{value_of}
use Rattle.fixed_um.specs.Points.{IsInVolume}
use Rattle.fixed_um.specs.declared.numerals.NumeralFault.{NumeralFault}
use Rattle.fixed_um.specs.declared.lengths.Point.{Point}
use Rattle.tool_rack.specs.Fields.{fields_of, is_dropped, has_outer_space, is_word}
use Rattle.tool_rack.specs.declared.entries.Entry.{Entry}
use Rattle.tool_rack.specs.declared.entries.Entry.TheVariants.{Nothing, Tool, Frame, Shift}
use Rattle.tool_rack.specs.declared.faults.SetupFault.{SetupFault}
use Rattle.tool_rack.specs.declared.faults.SetupFault.TheVariants.{BadLine, BadNumeral}

-- the length in micrometres that a numeral in millimetres means, within the machine's volume
unfoldable pub length_of : List ℕ → Result ℤ NumeralFault
length_of text = value_of 3 volume_limit text

abbrev pub point_with : Result ℤ NumeralFault → Result ℤ NumeralFault → Result ℤ NumeralFault → Option Point
point_with (Ok x) (Ok y) (Ok z) = Some (record { x = x; y = y; z = z })
point_with (Ok x) (Ok y) (Err fault) = None
point_with (Ok x) (Err fault) z = None
point_with (Err fault) y z = None

-- the point that three numerals write, where each is a numeral
abbrev pub point_of : List ℕ → List ℕ → List ℕ → Option Point
point_of x y z = point_with (length_of x) (length_of y) (length_of z)

-- a tool: its name, and nothing after it
abbrev pub tool_entry : ℕ → List (List ℕ) → Result Entry SetupFault
tool_entry n (name ∷ []) = if is_name_text name then Ok (Tool (folded name)) else Err (BadLine n)
tool_entry n _ = Err (BadLine n)

abbrev pub shift_with : ℕ → Option Point → Result Entry SetupFault
shift_with n None = Err (BadNumeral n)
shift_with n (Some shift) = Ok (Shift shift)

-- a shift: three numerals
abbrev pub shift_entry : ℕ → List (List ℕ) → Result Entry SetupFault
shift_entry n (x ∷ y ∷ z ∷ []) = shift_with n (point_of x y z)
shift_entry n _ = Err (BadLine n)

abbrev pub frame_with : ℕ → List ℕ → Option Point → Result Entry SetupFault
frame_with n name None = Err (BadNumeral n)
frame_with n name (Some offset) = Ok (Frame name offset)

-- a stored frame: its name, and three numerals for its zero point in machine axes. The name is examined before the numerals
abbrev pub frame_entry : ℕ → List (List ℕ) → Result Entry SetupFault
frame_entry n (name ∷ x ∷ y ∷ z ∷ []) = if is_name_text name then frame_with n (folded name) (point_of x y z) else Err (BadLine n)
frame_entry n _ = Err (BadLine n)

-- what the fields of line n say: the first is one of three words, and what may follow depends on it
unfoldable pub fields_entry : ℕ → List (List ℕ) → Result Entry SetupFault
fields_entry n [] = Err (BadLine n)
fields_entry n (word ∷ values) = if is_word (codes "TOOL") word then tool_entry n values else
    (if is_word (codes "FRAME") word then frame_entry n values else
    (if is_word (codes "SHIFT") word then shift_entry n values else Err (BadLine n)))

-- what line n says by itself, or its refusal
unfoldable pub entry_on : ℕ → List ℕ → Result Entry SetupFault
entry_on n line = if is_dropped line then Ok Nothing else (if has_outer_space line then Err (BadLine n) else fields_entry n
    (fields_of line))

-- the positions of a line are in the machine's volume
abbrev pub IsEntryInVolume : Entry → Type 0
IsEntryInVolume Nothing = Unit {0}
IsEntryInVolume (Tool name) = Unit {0}
IsEntryInVolume (Frame name offset) = IsInVolume offset
IsEntryInVolume (Shift shift) = IsInVolume shift
