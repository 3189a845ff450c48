-- The errors that a server reported during the runs of a record's features, and the lines that name them (this profile).
use Rattle.std.specs.Prelude.{ℕ, List, [], ◌++◌, Option, Some, None, codes}
use Rattle.std.specs.List.{flat_map}
use Rattle.record_text.specs.Records.{Recorded}
use Rattle.record_text.specs.declared.run_errors.RunError.{RunError}
use Rattle.session_telling.specs.Visible.{visible}

-- the errors that a record names; a record that is not begun names none
abbrev pub errors_in : Option Recorded → List RunError
errors_in None = []
errors_in (Some held) = held.errors

-- the line of an error: the feature, and the error as people read it
abbrev pub error_line : RunError → List ℕ
error_line e = codes "dme: " ++ (e.label ++ (codes ": during its run the server reported " ++ (flat_map visible e.text ++ codes "\n")))
