-- The table of deviations as records of comma-separated values (RFC 4180), with a header. Lengths are in millimetres with three decimals,
-- components of normals have six; a field is empty where there is no value.
use Rattle.std.specs.Prelude.{◌≡◌, ℕ, List, [], ◌∷◌, ◌++◌, codes, decimal, ℤ, Option, Some, None, Result, OnOk}
use Rattle.csv.specs.Records.{fields_of, partial_of}
use Rattle.csv.specs.Writing.{row_text}
use Rattle.csv.specs.declared.record.ByteRecord.{ByteRecord}
use Rattle.fixed_um.specs.Points.{zero_point}
use Rattle.fixed_um.specs.Shapes.{Direction}
use Rattle.fixed_um.specs.Written.{written, written_component}
use Rattle.fixed_um.specs.declared.frames.Frame.{Frame}
use Rattle.fixed_um.specs.declared.frames.Frame.TheVariants.{Machine, Part}
use Rattle.fixed_um.specs.declared.lengths.Point.{Point}
use Rattle.contact_ledger.specs.Fields.{point_fields}
use Rattle.deviations.specs.declared.along.Deviation.{Deviation}
use Rattle.deviations.specs.Judged.{row_verdict, verdict_word}
use Rattle.deviations.specs.Rows.{Row}
use Rattle.deviations.specs.Styles.{TableStyle, of_fields, of_header, styled, writer_with}
use Rattle.deviations.specs.declared.styles.DecimalSign.{DecimalSign}
use Rattle.deviations.specs.declared.entries.Limit.{Limit}
use Rattle.deviations.specs.declared.ranges.Verdict.{Verdict}

-- fields joined those of a record
abbrev pub Joins : {A E : Type 0} → Result A E → ByteRecord → ByteRecord → List (List ℕ) → Type 0
Joins result old new fields = OnOk result ((fields_of new ≡ fields_of old ++ fields) × (partial_of new ≡ []))

-- the components of a normal, or three empty fields
abbrev pub normal_fields : Option Direction → List (List ℕ)
normal_fields (Some d) = written_component d.i ∷ written_component d.j ∷ written_component d.k ∷ []
normal_fields None = [] ∷ [] ∷ [] ∷ []

-- the lengths of a measured point, or three empty fields
abbrev pub measured_fields : Option Point → List (List ℕ)
measured_fields (Some p) = point_fields p
measured_fields None = [] ∷ [] ∷ [] ∷ []

-- the lengths of a deviation, or three empty fields
abbrev pub deviation_fields : Option Deviation → List (List ℕ)
deviation_fields (Some v) = written v.x ∷ written v.y ∷ written v.z ∷ []
deviation_fields None = [] ∷ [] ∷ [] ∷ []

-- the deviation along the normal
abbrev pub along_fields : Option ℤ → List (List ℕ)
along_fields (Some r) = written r ∷ []
along_fields None = [] ∷ []

-- whose axes, and where their zero point is in machine axes
abbrev pub frame_columns : DecimalSign → Frame → List (List ℕ)
frame_columns sign Machine = codes "MACHINE" ∷ styled sign (point_fields zero_point)
frame_columns sign (Part offset) = codes "PART" ∷ styled sign (point_fields offset)

-- the number of a connection
abbrev pub connection_fields : Option ℕ → List (List ℕ)
connection_fields (Some n) = decimal n ∷ []
connection_fields None = [] ∷ []

-- the names of the columns
abbrev pub header : List (List ℕ)
header = codes "feature" ∷ codes "point" ∷ codes "nominal_x" ∷ codes "nominal_y" ∷ codes "nominal_z" ∷ codes "normal_i" ∷ codes "normal_j"
    ∷ codes "normal_k" ∷ codes "measured_x" ∷ codes "measured_y" ∷ codes "measured_z" ∷ codes "deviation_x" ∷ codes "deviation_y"
    ∷ codes "deviation_z" ∷ codes "deviation_along_normal" ∷ codes "tool" ∷ codes "frame" ∷ codes "frame_x" ∷ codes "frame_y"
    ∷ codes "frame_z" ∷ codes "connection" ∷ []

-- what was requested, what was found, and with which tool and where
unfoldable pub asked_fields : DecimalSign → Row → List (List ℕ)
asked_fields sign r = r.place.feature ∷ decimal r.place.number ∷ (styled sign (point_fields r.place.touch.target)
    ++ styled sign (normal_fields r.place.touch.dir))

unfoldable pub found_fields : DecimalSign → Row → List (List ℕ)
found_fields sign r = styled sign (measured_fields r.place.measured) ++ (styled sign (deviation_fields r.deviation)
    ++ styled sign (along_fields r.along))

unfoldable pub means_fields : DecimalSign → Row → List (List ℕ)
means_fields sign r = r.place.touch.tool ∷ (frame_columns sign r.place.touch.frame ++ connection_fields r.place.connection)

-- the record of a row
abbrev pub record_of : TableStyle → Row → List (List ℕ)
record_of s r = of_fields s.of r.place.measured ++ (asked_fields s.sign r ++ (found_fields s.sign r ++ means_fields s.sign r))

-- whether a point is within its limit, or an empty field
abbrev pub verdict_field : Option Verdict → List ℕ
verdict_field (Some verdict) = verdict_word verdict
verdict_field None = []

-- with limits there is one more column
abbrev pub limit_header : Option (List Limit) → List (List ℕ)
limit_header (Some limits) = codes "limit" ∷ []
limit_header None = []

abbrev pub limit_fields : Option (List Limit) → Row → List (List ℕ)
limit_fields (Some limits) r = verdict_field (row_verdict limits r) ∷ []
limit_fields None r = []

-- the text of a list of rows
abbrev pub records_text : TableStyle → Option (List Limit) → List Row → List ℕ
records_text s limits [] = []
records_text s limits (r ∷ rows) = row_text (writer_with s.separator) (record_of s r ++ limit_fields limits r) ++ records_text s limits rows

-- the text of a table
abbrev pub csv_text : TableStyle → Option (List Limit) → List Row → List ℕ
csv_text s limits rows = row_text (writer_with s.separator) (of_header s.of ++ (header ++ limit_header limits)) ++ records_text s limits rows
