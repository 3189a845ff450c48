-- By what an auditor knows the files and the part that were judged (this profile): SHA-256 of what was read (FIPS 180-4).
use Rattle.std.specs.Prelude.{ℕ, List, [], ◌++◌, Option, Some, None, codes}
use Rattle.std.specs.List.{flat_map}
use Rattle.record_text.specs.Records.{Recorded}
use Rattle.session_telling.specs.Visible.{visible}

-- the line of the part that a record names
abbrev pub named_part : Option (List ℕ) → List ℕ
named_part None = []
named_part (Some part) = codes "dme: part " ++ (flat_map visible part ++ codes "\n")

-- a record that is not begun names none
abbrev pub part_line : Option Recorded → List ℕ
part_line None = []
part_line (Some held) = named_part held.part
