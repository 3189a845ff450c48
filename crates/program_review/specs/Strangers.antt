-- How it is said that a record is not the one of a run (this profile).
use Rattle.std.specs.Prelude.{ℕ, List, ◌++◌, codes, Option, Some, None}
use Rattle.std.specs.List.{flat_map}
use Rattle.session_telling.specs.Visible.{visible}

-- a part after these words, or that there is none
abbrev pub part_words : Option (List ℕ) → List ℕ → List ℕ → List ℕ
part_words None before without = without
part_words (Some part) before without = before ++ flat_map visible part

-- which part a record names, and which was given
abbrev pub other_part_text : Option (List ℕ) → Option (List ℕ) → List ℕ
other_part_text held given = codes "The record " ++ (part_words held (codes "is of part ") (codes "names no part") ++ (codes ", and "
    ++ (part_words given (codes "--part names ") (codes "--part is not given") ++ codes ".\n")))
