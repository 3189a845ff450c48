-- How a table is written besides its rows (this profile): what stands between fields and before decimals, and what each row says first.
use Rattle.std.specs.Prelude.{ℕ, Bool, List, [], ◌∷◌, Option, Some, None, codes, map, is_none, ◌==◌, if◌then◌else◌}
use Rattle.csv.specs.Writing.{default_writer, with_delimiter}
use Rattle.csv.specs.declared.writer.WriterBuilder.{WriterBuilder}
use Rattle.fixed_um.specs.declared.lengths.Point.{Point}
use Rattle.deviations.specs.declared.styles.DecimalSign.{DecimalSign}
use Rattle.deviations.specs.declared.styles.DecimalSign.TheVariants as sign
use Rattle.deviations.specs.declared.styles.Separator.{Separator}
use Rattle.deviations.specs.declared.styles.Separator.TheVariants.{Comma, Semicolon, Tab}
use Rattle.deviations.specs.declared.styles.TableOptions.{TableOptions}

-- the part and the program of rows
pub record RowsOf : Type 0 where
  pub part : List ℕ
  pub program : List ℕ

pub record TableStyle : Type 0 where
  pub separator : Separator
  pub sign : DecimalSign
  pub of : Option RowsOf

abbrev pub separator_byte : Separator → ℕ
separator_byte Comma = 44
separator_byte Semicolon = 59
separator_byte Tab = 9

abbrev pub writer_with : Separator → WriterBuilder
writer_with separator = with_delimiter default_writer (separator_byte separator)

-- a byte of a number: its decimal point is the sign
abbrev pub signed : DecimalSign → ℕ → ℕ
signed sign.Point b = b
signed sign.Comma b = if b == 46 then 44 else b

-- numbers in fields, with their decimal sign
abbrev pub styled : DecimalSign → List (List ℕ) → List (List ℕ)
styled sign fields = map (map (signed sign)) fields

abbrev pub missing_word : Bool → List ℕ
missing_word is_missing = if is_missing then codes "yes" else codes "no"

-- what a row says first, and the names of these columns
abbrev pub of_fields : Option RowsOf → Option Point → List (List ℕ)
of_fields None measured = []
of_fields (Some of) measured = of.part ∷ of.program ∷ missing_word (is_none measured) ∷ []

abbrev pub of_header : Option RowsOf → List (List ℕ)
of_header None = []
of_header (Some of) = codes "part" ∷ codes "program" ∷ codes "missing" ∷ []

-- the style of a table of this part and this program
abbrev pub style_of : TableOptions → RowsOf → TableStyle
style_of o of = record { separator = o.separator; sign = o.sign; of = if o.with_part then Some of else None }
