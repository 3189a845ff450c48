-- By what a record knows a file that was read (this profile).
use Rattle.std.specs.Prelude.{ℕ, List, ◌++◌, codes}
use Rattle.std.specs.List.{flat_map}
use Rattle.session_telling.specs.Visible.{visible}
use Rattle.record_text.specs.Seals.{digest_of}

-- its name, as people read it, and the SHA-256 of its text (FIPS 180-4)
abbrev pub identified : List ℕ → List ℕ → List ℕ
identified name text = flat_map visible name ++ (codes " " ++ digest_of text)
