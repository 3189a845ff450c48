-- What exporting what was measured leaves (this profile).
use Rattle.std.specs.Prelude.{◌≡◌, ◌⊎◌, ℕ, List, [], true, false, Option, Some, None, Result, codes, string_bytes}
use Rattle.std.specs.List.{AllZip}
use Rattle.client_core.specs.Clients.{are_ours}
use Rattle.contact_ledger.specs.declared.features.Feature.{Feature}
use Rattle.deviations.specs.Compared.{compared_text}
use Rattle.deviations.specs.Json.{json_of}
use Rattle.deviations.specs.Records.{csv_text}
use Rattle.deviations.specs.Rows.{IsRow, Row, places_of}
use Rattle.deviations.specs.Styles.{RowsOf, TableStyle, style_of}
use Rattle.deviations.specs.declared.styles.TableOptions.{TableOptions}
use Rattle.deviations.specs.declared.forms.Form.{Form}
use Rattle.deviations.specs.declared.forms.Form.TheVariants.{Csv, Json, Svg}
use Rattle.dmis_program.specs.Meaning.{Meaning}
use Rattle.drawings.specs.Drawing.{IsDrawing}
use Rattle.drawings.specs.Texts.{Adds}
use Rattle.drawings.specs.Title.{TitleTexts}
use Rattle.deviations.specs.declared.entries.Limit.{Limit}
use Rattle.dme_orders.specs.Input.{Named, ExportInput, ReadsExport, WhyNoExport, AreUntouched, Limited, ReadsLimited, WhyNoLimited}
use Rattle.dme_orders.specs.Missing.{IsMissing}
use Rattle.dme_orders.specs.Named.{shown_name}
use Rattle.dme_orders.specs.Orders.{Went, Carries}
use Rattle.dme_orders.specs.Reading.{Came}
use Rattle.dme_orders.specs.declared.exporting.Exported.{Exported}
use Rattle.order_parts.specs.declared.faults.FilesFault.{FilesFault}
use Rattle.order_parts.specs.declared.faults.FilesFault.TheVariants as files

-- the declaration of a text in XML, with its line's end
unfoldable pub xml : List ℕ
xml = codes "<?xml version=\"1.0\" encoding=\"UTF-8\"?>\n"

-- the text is that of a table in a form and a style: a drawing is one of the program and of the features, under a title
abbrev pub IsInForm : Form → TableStyle → TitleTexts → Option (List Limit) → Meaning → List Feature → List Row → List ℕ → Type 0
IsInForm Csv style title limits program features rows text = text ≡ csv_text style limits rows
IsInForm Json style title limits program features rows text = text ≡ json_of style.of limits rows
IsInForm Svg style title limits program features rows text = Adds (IsDrawing title program features) xml text

-- the features are the first ones of the program, and the text is their table in a form: a row for each touch of the program, in order
pub record LeavesTable (form : Form) (style : TableStyle) (title : TitleTexts) (limits : Option (List Limit)) (program : Meaning)
    (features : List Feature) (text : List ℕ) : Type 0 where
  pub rows : List Row
  pub ours : are_ours program.features features ≡ true
  pub are : AllZip IsRow (places_of program.features features) rows
  pub told : IsInForm form style title limits program features rows text

-- the lines that compare the rows of features with limits
pub record ComparesRows (limits : List Limit) (program : Meaning) (features : List Feature) (lines : List ℕ) : Type 0 where
  pub rows : List Row
  pub are : AllZip IsRow (places_of program.features features) rows
  pub is : lines ≡ compared_text limits program.features rows

-- likewise, and no lines without limits
abbrev pub Compares : Option (List Limit) → Meaning → List Feature → List ℕ → Type 0
Compares (Some limits) program features lines = ComparesRows limits program features lines
Compares None program features lines = lines ≡ []

-- of a features file no part is known
abbrev pub of_no_part : List ℕ → RowsOf
of_no_part name = record { part = []; program = shown_name name }

abbrev pub title_of_no_part : List ℕ → TitleTexts
title_of_no_part name = record { part = []; program = shown_name name; time = [] }

-- the table of features was written, these are missing, and these lines compare them with limits
pub record LeavesExport (form : Form) (table : TableOptions) (name : List ℕ) (read : Limited ExportInput) (end : Exported) (text : List ℕ) : Type 0 where
  pub told : LeavesTable form (style_of table (of_no_part name)) (title_of_no_part name) read.limits read.input.program read.input.features text
  pub lacks : IsMissing read.input.program.features read.input.features end.missing
  pub compares : Compares read.limits read.input.program read.input.features (string_bytes end.compared)

-- the features are not the first ones of the program; or memory ran out
abbrev pub RefusesFeatures : Meaning → List Feature → FilesFault → Type 0
RefusesFeatures program features cause =
    ((cause ≡ files.NotOurs) × (are_ours program.features features ≡ false)) ⊎ (cause ≡ files.Memory)

module _ {S F R W : Type 0} (form : Form) (table : TableOptions) (name : List ℕ) (s : Named S) (f : Came F) (r : Came R) (w : Went W) where
  -- all files were read, and the features are not the first ones of the program
  pub record IsNotOurs (cause : FilesFault) : Type 0 where
    pub is : cause ≡ files.NotOurs
    pub input : ExportInput
    pub read : ReadsExport s f r input
    pub not_ours : are_ours input.program.features input.features ≡ false

  -- the table was written, or the export was not carried out: a file is blamed, or the features are not the first ones of the program
  abbrev pub Exports : {L : Type 0} → Named L → Result Exported FilesFault → Type 0
  Exports l = Carries (ReadsLimited l (ReadsExport s f r)) (LeavesExport form table name) w
      (λ cause. WhyNoLimited l (AreUntouched s f r) (WhyNoExport s f r) cause ⊎ IsNotOurs cause)
