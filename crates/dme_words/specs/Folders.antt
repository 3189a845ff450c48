-- The file of a part's record in a folder of records (this profile): its name, with `%` and two hexadecimal digits for a byte that is no
-- letter, digit, `-`, `_` or `.`; these three are 45, 95 and 46.
use Rattle.std.specs.Prelude.{ℕ, Bool, ◌||◌, ◌==◌, ◌++◌, List, [], ◌∷◌, codes, Option, Some, None, if◌then◌else◌}
use Rattle.std.specs.List.{flat_map}
use Rattle.std.specs.Char.{is_ascii_alphanumeric}
use Rattle.percent_encoding.specs.Percent.{percent_encode_byte}

abbrev pub is_kept : ℕ → Bool
is_kept b = is_ascii_alphanumeric b || ((b == 45) || ((b == 95) || (b == 46)))

abbrev pub file_byte : ℕ → List ℕ
file_byte b = if is_kept b then b ∷ [] else percent_encode_byte b

-- with an ending, so that no part is taken for another's next text, for a folder or for a hidden file
abbrev pub record_in : List ℕ → List ℕ → List ℕ
record_in folder part = folder ++ (codes "/" ++ (flat_map file_byte part ++ codes ".record"))

abbrev pub part_record : Option (List ℕ) → Option (List ℕ) → Option (List ℕ)
part_record (Some folder) (Some part) = Some (record_in folder part)
part_record None part = None
part_record (Some folder) None = None
