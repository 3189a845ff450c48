-- What a record notes of its runs, and the lines that say it (this profile).
use Rattle.std.specs.Prelude.{ℕ, List, [], ◌++◌, Option, Some, None, codes, decimal}
use Rattle.std.specs.List.{flat_map}
use Rattle.record_text.specs.Records.{Recorded}
use Rattle.record_text.specs.declared.run_errors.Remark.{Remark}
use Rattle.record_text.specs.declared.notes.Note.{Note}
use Rattle.record_text.specs.declared.notes.Note.TheVariants.{Refused, By, Operator, Program, Setup, Opened, Dated, Left, Sealed}
use Rattle.session_telling.specs.Visible.{visible}

-- what a record notes; one that is not begun notes nothing
abbrev pub notes_in : Option Recorded → List Remark
notes_in None = []
notes_in (Some held) = held.notes

-- what a note is about
abbrev pub about : Note → List ℕ
about Refused = codes "error"
about By = codes "measured by"
about Operator = codes "operator"
about Program = codes "program"
about Setup = codes "setup"
about Opened = codes "made at"
about Dated = codes "complete at"
about Left = codes "left at"
about Sealed = codes "sealed"

-- the line of a note: its connection, how many features were complete above it, and what it says
unfoldable pub note_line : Remark → List ℕ
note_line r = codes "connection " ++ (decimal r.connection ++ (codes ", " ++ (decimal r.features ++ (codes " features: "
    ++ (about r.note ++ (codes " " ++ (flat_map visible r.text ++ codes "\n")))))))
