-- How findings are printed (this profile): a line each, or an array of objects as JSON (RFC 8259).
use Rattle.std.specs.Prelude.{ℕ, List, [], ◌∷◌, ◌++◌, codes, decimal, string_bytes, Option, Some, None, not, ◌==◌}
use Rattle.std.specs.List.{take_while}
use Rattle.json.specs.Print.{print}
use Rattle.json.specs.Token.{Token, begin_array, end_array, begin_object, end_object, key, string, number, null}
use Rattle.dmis_program.specs.Messages.{refusal_text}
use Rattle.program_review.specs.declared.remarks.Finding.{Finding}
use Rattle.program_review.specs.declared.remarks.What.{What}
use Rattle.program_review.specs.declared.remarks.What.TheVariants as what
use Rattle.program_review.specs.declared.printing.FindingForm.{FindingForm}
use Rattle.program_review.specs.declared.printing.FindingForm.TheVariants as form

-- the names of the files, as findings show them
pub record Names : Type 0 where
  pub program : List ℕ
  pub setup : List ℕ

abbrev pub names_of : (program setup : List ℕ) → Names
names_of program setup = record { program = program; setup = setup }

-- the name of the file, and the number of the line if it is on one
abbrev pub file_of : Names → What → List ℕ
file_of names what.Unused = names.setup
file_of names _ = names.program

abbrev pub line_of : What → ℕ → Option ℕ
line_of (what.Lowered taken count) line = None
line_of (what.Sum group) line = None
line_of _ line = Some line

-- the kind in words; with a refusal, its code and its name
abbrev pub kind_text : What → List ℕ
kind_text (what.Refused refusal group taken) = codes "refused"
kind_text (what.Passed passed) = codes "passed over"
kind_text (what.Clearing count) = codes "passed over"
kind_text (what.Lack lack) = codes "setup"
kind_text what.Unused = codes "setup"
kind_text (what.Straight line) = codes "odd"
kind_text (what.Odd odd) = codes "odd"
kind_text (what.Lowered taken count) = codes "summary"
kind_text (what.Sum group) = codes "summary"

abbrev pub title_of : What → Option (List ℕ)
title_of (what.Refused refusal group taken) = Some (refusal_text refusal)
title_of _ = None

-- ---- a line each

abbrev pub number_text : Option ℕ → List ℕ
number_text (Some line) = codes ":" ++ decimal line
number_text None = []

abbrev pub title_text : Option (List ℕ) → List ℕ
title_text (Some title) = title ++ codes ": "
title_text None = []

unfoldable pub finding_line : Names → Finding → List ℕ
finding_line names f = file_of names f.remark.what ++ (number_text (line_of f.remark.what f.remark.line) ++ (codes ": " ++ (kind_text f.remark.what
    ++ (codes ": " ++ (title_text (title_of f.remark.what) ++ (string_bytes f.said ++ codes "\n"))))))

abbrev pub finding_lines : Names → List Finding → List ℕ
finding_lines names [] = []
finding_lines names (f ∷ findings) = finding_line names f ++ finding_lines names findings

-- ---- as JSON

-- the member of a line
abbrev pub line_member : Option ℕ → List Token
line_member (Some n) = key (codes "line") ∷ number (decimal n) ∷ []
line_member None = key (codes "line") ∷ null ∷ []

-- the member of a refusal's code: the first word of its title
abbrev pub code_member : Option (List ℕ) → List Token
code_member (Some title) = key (codes "code") ∷ string (take_while (λ c. not (c == 32)) title) ∷ []
code_member None = key (codes "code") ∷ null ∷ []

-- the object of a finding
unfoldable pub finding_tokens : Names → Finding → List Token
finding_tokens names f = begin_object ∷ ((key (codes "file") ∷ string (file_of names f.remark.what) ∷ [])
    ++ (line_member (line_of f.remark.what f.remark.line) ++ ((key (codes "kind") ∷ string (kind_text f.remark.what) ∷ [])
    ++ (code_member (title_of f.remark.what) ++ ((key (codes "text") ∷ string (string_bytes f.said) ∷ []) ++ end_object ∷ [])))))

abbrev pub findings_tokens : Names → List Finding → List Token
findings_tokens names [] = []
findings_tokens names (f ∷ findings) = finding_tokens names f ++ findings_tokens names findings

abbrev pub array_tokens : Names → List Finding → List Token
array_tokens names findings = begin_array ∷ (findings_tokens names findings ++ end_array ∷ [])

-- ---- in a form

abbrev pub printed : FindingForm → Names → List Finding → List ℕ
printed form.Lines names findings = finding_lines names findings
printed form.Json names findings = print (array_tokens names findings) ++ codes "\n"
