-- The report of a review (this profile). Free are the sentences, and which statements are odd.
use Rattle.std.specs.Prelude.{◌≡◌, ℕ, List, [], ◌++◌, Option, Some, None}
use Rattle.std.specs.Str.Lines.{lines}
use Rattle.dmis_text.specs.Reading.{text_reading}
use Rattle.dmis_text.specs.declared.elements.Statement.{Statement}
use Rattle.fixed_um.specs.declared.lengths.Point.{Point}
use Rattle.tool_rack.specs.Setups.{SetupValue}
use Rattle.program_review.specs.Notices.{notices_of}
use Rattle.program_review.specs.Refusals.{refusals_of}
use Rattle.program_review.specs.Travels.{travels_of}
use Rattle.program_review.specs.UnderSetup.{lacks_of}
use Rattle.program_review.specs.UnusedFrames.{names_recalled, unused_from}
use Rattle.program_review.specs.Findings.{remarks_in}
use Rattle.program_review.specs.Remarks.{AreByLine, with_counts}
use Rattle.program_review.specs.Printed.{Names, printed}
use Rattle.program_review.specs.Summary.{summary_of}
use Rattle.program_review.specs.declared.remarks.Finding.{Finding}
use Rattle.program_review.specs.declared.remarks.Remark.{Remark}
use Rattle.program_review.specs.declared.printing.FindingForm.{FindingForm}

-- a setup, if one is named, its text, and the text of a program
pub record ReviewTexts : Type 0 where
  pub setup : Option SetupValue
  pub stored : List ℕ
  pub program : List ℕ

abbrev pub texts_of : Option SetupValue → (stored program : List ℕ) → ReviewTexts
texts_of setup stored program = record { setup = setup; stored = stored; program = program }

-- the frames of a setup, and none without one
abbrev pub frames_under : Option SetupValue → List (List ℕ × Point)
frames_under None = []
frames_under (Some setup) = setup.frames

-- what the setup lacks for the statements of a program, and nothing without one
abbrev pub lacks_under : Option SetupValue → List Statement → List Remark
lacks_under None statements = []
lacks_under (Some setup) statements = lacks_of setup.tools setup.frames statements

-- the frames that the program does not recall
abbrev pub unused : ReviewTexts → List Remark
unused texts = unused_from (names_recalled (text_reading texts.program).statements) 0 (lines texts.stored)

-- what is remarked on a program with these statements: what comes first on a line is listed before the others
abbrev pub all_listed : Option SetupValue → List ℕ → List Statement → (odd : List Remark) → List Remark
all_listed setup program statements odd = (((refusals_of (frames_under setup) program ++ notices_of statements)
    ++ lacks_under setup statements) ++ travels_of (frames_under setup) statements) ++ odd

pub record AreRemarks (setup : Option SetupValue) (program : List ℕ) (remarks : List Remark) : Type 0 where
  pub odd : List Remark
  pub by_line : AreByLine (all_listed setup program (text_reading program).statements odd) remarks

-- what is found: in the order of the program's lines all its refusals, all that is passed over, all that the setup lacks, all straight
-- travels and what is odd; then each line of the setup with a frame that is not recalled; then the summary of the refusals
pub record AreFindings (texts : ReviewTexts) (findings : List Finding) : Type 0 where
  pub remarks : List Remark
  pub are_remarks : AreRemarks texts.setup texts.program remarks
  pub all : remarks_in findings ≡ (with_counts remarks ++ unused texts) ++ summary_of (refusals_of (frames_under texts.setup) texts.program)

-- the findings are printed in this form, under these names
pub record IsReport (form : FindingForm) (names : Names) (texts : ReviewTexts) (text : List ℕ) : Type 0 where
  pub findings : List Finding
  pub found : AreFindings texts findings
  pub printed : text ≡ printed form names findings
