-- The table of deviations as JSON (RFC 8259): an array with an object for each row, whose members are named as the columns of the
-- comma-separated values are. Lengths are numbers in millimetres with three decimals, components of normals have six; null is written where
-- there is no value.
use Rattle.std.specs.Prelude.{◌≡◌, ℕ, Bool, List, [], ◌∷◌, ◌++◌, codes, decimal, ℤ, Option, Some, None, Result, OnOk, is_none}
use Rattle.json.specs.Token.{Token, begin_object, end_object, begin_array, end_array, key, string, number, boolean, null}
use Rattle.json.specs.Print.{print}
use Rattle.json.specs.Written.{Written}
use Rattle.fixed_um.specs.Points.{zero_point}
use Rattle.fixed_um.specs.Shapes.{Direction}
use Rattle.fixed_um.specs.Written.{written, written_component}
use Rattle.fixed_um.specs.declared.frames.Frame.{Frame}
use Rattle.fixed_um.specs.declared.frames.Frame.TheVariants.{Machine, Part}
use Rattle.fixed_um.specs.declared.lengths.Point.{Point}
use Rattle.deviations.specs.declared.along.Deviation.{Deviation}
use Rattle.deviations.specs.Judged.{row_verdict, verdict_word}
use Rattle.deviations.specs.Rows.{Row}
use Rattle.deviations.specs.Styles.{RowsOf}
use Rattle.deviations.specs.declared.entries.Limit.{Limit}
use Rattle.deviations.specs.declared.ranges.Verdict.{Verdict}

-- tokens joined those of a writer
abbrev pub Puts : {A E : Type 0} → Result A E → Written → Written → List Token → Type 0
Puts result old new tokens = OnOk result ((new.tokens ≡ old.tokens ++ tokens) × (new.before ≡ old.before))

-- a member that is a length in micrometres, written in millimetres
abbrev pub length_member : List ℕ → ℤ → List Token
length_member name z = key name ∷ number (written z) ∷ []

-- a member that is a component of a direction
abbrev pub component_member : List ℕ → ℤ → List Token
component_member name z = key name ∷ number (written_component z) ∷ []

-- three lengths
abbrev pub length_members : List ℕ → List ℕ → List ℕ → ℤ → ℤ → ℤ → List Token
length_members i j k x y z = length_member i x ++ (length_member j y ++ length_member k z)

-- three members that are null
abbrev pub null_members : List ℕ → List ℕ → List ℕ → List Token
null_members i j k = key i ∷ null ∷ key j ∷ null ∷ key k ∷ null ∷ []

-- the components of a direction, or three nulls
abbrev pub components_of : List ℕ → List ℕ → List ℕ → Option Direction → List Token
components_of i j k (Some d) = component_member i d.i ++ (component_member j d.j ++ component_member k d.k)
components_of i j k None = null_members i j k

-- a length, or null
abbrev pub length_or_null : List ℕ → Option ℤ → List Token
length_or_null name (Some z) = length_member name z
length_or_null name None = key name ∷ null ∷ []

-- whose axes a frame has, and where their zero point is in machine axes
abbrev pub kind_of : Frame → List ℕ
kind_of Machine = codes "MACHINE"
kind_of (Part offset) = codes "PART"

abbrev pub place_of : Frame → Point
place_of Machine = zero_point
place_of (Part offset) = offset

-- the members of an object, by their names
unfoldable pub feature_member : List ℕ → List Token
feature_member name = key (codes "feature") ∷ string name ∷ []

unfoldable pub count_member : ℕ → List Token
count_member n = key (codes "point") ∷ number (decimal n) ∷ []

unfoldable pub nominal_members : Point → List Token
nominal_members p = length_members (codes "nominal_x") (codes "nominal_y") (codes "nominal_z") p.x p.y p.z

unfoldable pub normal_members : Option Direction → List Token
normal_members normal = components_of (codes "normal_i") (codes "normal_j") (codes "normal_k") normal

unfoldable pub measured_members : Option Point → List Token
measured_members (Some p) = length_members (codes "measured_x") (codes "measured_y") (codes "measured_z") p.x p.y p.z
measured_members None = null_members (codes "measured_x") (codes "measured_y") (codes "measured_z")

unfoldable pub deviation_members : Option Deviation → List Token
deviation_members (Some v) = length_members (codes "deviation_x") (codes "deviation_y") (codes "deviation_z") v.x v.y v.z
deviation_members None = null_members (codes "deviation_x") (codes "deviation_y") (codes "deviation_z")

unfoldable pub along_member : Option ℤ → List Token
along_member along = length_or_null (codes "deviation_along_normal") along

unfoldable pub tool_member : List ℕ → List Token
tool_member name = key (codes "tool") ∷ string name ∷ []

unfoldable pub kind_member : Frame → List Token
kind_member frame = key (codes "frame") ∷ string (kind_of frame) ∷ []

unfoldable pub place_members : Point → List Token
place_members p = length_members (codes "frame_x") (codes "frame_y") (codes "frame_z") p.x p.y p.z

unfoldable pub connection_member : Option ℕ → List Token
connection_member (Some n) = key (codes "connection") ∷ number (decimal n) ∷ []
connection_member None = key (codes "connection") ∷ null ∷ []

abbrev pub verdict_member : Option Verdict → List Token
verdict_member (Some verdict) = key (codes "limit") ∷ string (verdict_word verdict) ∷ []
verdict_member None = key (codes "limit") ∷ null ∷ []

-- with limits, whether the point is within its limit
unfoldable pub limit_member : Option (List Limit) → Row → List Token
limit_member (Some limits) r = verdict_member (row_verdict limits r)
limit_member None r = []

-- what was requested, what was found, and with which tool and where
unfoldable pub asked_members : Row → List Token
asked_members r = feature_member r.place.feature ++ (count_member r.place.number ++ (nominal_members r.place.touch.target
    ++ normal_members r.place.touch.dir))

unfoldable pub found_members : Row → List Token
found_members r = measured_members r.place.measured ++ (deviation_members r.deviation ++ along_member r.along)

unfoldable pub means_members : Row → List Token
means_members r = tool_member r.place.touch.tool ++ (kind_member r.place.touch.frame ++ (place_members (place_of r.place.touch.frame)
    ++ connection_member r.place.connection))

-- what a row says first
unfoldable pub part_member : List ℕ → List Token
part_member part = key (codes "part") ∷ string part ∷ []

unfoldable pub program_member : List ℕ → List Token
program_member program = key (codes "program") ∷ string program ∷ []

unfoldable pub missing_member : Bool → List Token
missing_member is_missing = key (codes "missing") ∷ boolean is_missing ∷ []

unfoldable pub named_members : RowsOf → Option Point → List Token
named_members of measured = part_member of.part ++ (program_member of.program ++ missing_member (is_none measured))

abbrev pub of_members : Option RowsOf → Option Point → List Token
of_members None measured = []
of_members (Some of) measured = named_members of measured

-- the object of a row
unfoldable pub row_tokens : Option RowsOf → Option (List Limit) → Row → List Token
row_tokens of limits r = begin_object ∷ (of_members of r.place.measured ++ (asked_members r ++ (found_members r ++ (means_members r ++ (limit_member limits r
    ++ end_object ∷ [])))))

-- the objects of rows
abbrev pub rows_tokens : Option RowsOf → Option (List Limit) → List Row → List Token
rows_tokens of limits [] = []
rows_tokens of limits (r ∷ rows) = row_tokens of limits r ++ rows_tokens of limits rows

-- the array of a table
abbrev pub json_tokens : Option RowsOf → Option (List Limit) → List Row → List Token
json_tokens of limits rows = begin_array ∷ (rows_tokens of limits rows ++ end_array ∷ [])

-- its text
abbrev pub array_text : Option RowsOf → Option (List Limit) → List Row → List ℕ
array_text of limits rows = print (json_tokens of limits rows)

-- the text of a table
abbrev pub json_of : Option RowsOf → Option (List Limit) → List Row → List ℕ
json_of of limits rows = array_text of limits rows ++ codes "\n"
